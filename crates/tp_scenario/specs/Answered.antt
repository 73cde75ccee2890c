-- How a runner answers lines, one after another.
use Rattle.std.specs.Prelude.{◌≡◌, ℕ, true, false, List, [], ◌∷◌, ◌++◌, length, take, slice_get, option_map, map, Option, Result, Ok, Err, IfOk, pos}
use Rattle.std.specs.Option.{option_to_list}
use Rattle.tp_types.specs.declared.configs.Config.{Config}
use Rattle.tp_types.specs.declared.refusals.PoolError.{PoolError}
use Rattle.tp_types.specs.declared.refusals.PoolError.TheVariants.{NoMemory}
use Rattle.tp_types.specs.declared.tasks.Promise.{Promise}
use Rattle.tp_record.specs.declared.entries.Entry.{Entry}
use Rattle.tp_record.specs.declared.entries.Ask.{Ask}
use Rattle.tp_record.specs.Effects.{Outcome}
use Rattle.tp_record.specs.State.{state}
use Rattle.tp_record.specs.Step.{Gives, IsRefused}
use Rattle.tp_tasks.specs.declared.tasks.Tasks.{Tasks}
use Rattle.tp_tasks.specs.Tasks.{promise_of as promise_in}
use Rattle.tp_machine.specs.Seen.{Seen, At, config_of, promise}
use Rattle.tp_text.specs.RunText.{Answer, after, after_all, answer_lines, drained, run_lines}
use Rattle.tp_scenario.specs.declared.counted.Counted.{Counted}
use Rattle.tp_scenario.specs.declared.lines.ScenarioLine.{ScenarioLine}
use Rattle.tp_scenario.specs.declared.step.Refusal.{Refusal}
use Rattle.tp_scenario.specs.declared.step.Told.{Told}
use Rattle.tp_scenario.specs.Played.{Outcomes, ask_of, outcome_said, outcomes_after}

-- a pool's settings and its record, latest entry first, and how its tasks end
pub record Playing : Type 0 where
  pub config : Config
  pub history : List Entry
  pub outcomes : Outcomes

-- what a job promises that ends so: just that
abbrev pub promise_of : Outcome → Promise
promise_of (Ok v) = record { low = v; high = v; may_fault = false }
promise_of (Err code) = record { low = pos 0; high = pos 0; may_fault = true }

-- the answer to an ask of pass 0 after the history h: the entry that the step gives, or its refusal
abbrev pub Answers : Config → List Entry → Ask → Answer → Type 0
Answers c h a (Ok e) = (e ≡ record { by = 0; ask = a; did = e.did }) × Gives c (state c h) a e.did
Answers c h a (Err r) = IsRefused c (state c h) a r

module _ {P R : Type 0} where
  -- each task of a machine promised to end so, and there is no other
  abbrev pub ArePromised : Seen P R → Outcomes → Type 0
  ArePromised m os = (t : ℕ) → promise m t ≡ option_map promise_of (slice_get os t)

-- no promise comes or goes
abbrev pub KeepsPromises : {P : Type 0} → Tasks P → Tasks P → Type 0
KeepsPromises old new = (t : ℕ) → promise_in new t ≡ promise_in old t

-- the histories that a recorder may have counted, of which no task was released
abbrev pub notes : Counted → List Entry → List ℕ → Type 0
notes f h rs = (length h ≡ f.noted) × (rs ≡ [])

-- what a runner keeps: the pool, and how its tasks end
pub record Running : Type 0 where
  pub machine : Seen (Unit {0}) Counted
  pub outcomes : Outcomes

-- the settings of its pool
abbrev pub settings_of : Running → Config
settings_of r = config_of r.machine

-- a runner stands there: its pool at this record, which it does not keep
pub record IsAt (r : Running) (p : Playing) : Type 0 where
  pub at : At notes r.machine p.history []
  pub config : settings_of r ≡ p.config
  pub outcomes : r.outcomes ≡ p.outcomes

-- how the pool answered
abbrev pub answer_of : Result Entry Refusal → Answer
answer_of (Ok e) = Ok e
answer_of (Err r) = Err r.error

-- what it was asked
abbrev pub asked_by : Result Entry Refusal → Ask
asked_by (Ok e) = e.ask
asked_by (Err r) = r.ask

-- how tasks end after this answer to an ask: an accepted submission says how one more ends
abbrev pub outcomes_kept : Outcomes → Option Outcome → Answer → Outcomes
outcomes_kept os o (Ok e) = os ++ option_to_list o
outcomes_kept os o (Err r) = os

-- a runner that stands there answers an ask so, and stands behind the answer then; a submission comes with how its task ends
pub record AnswersAsk (p : Playing) (a : Ask) (o : Option Outcome) (x : Answer) (new : Running) : Type 0 where
  pub answers : Answers p.config p.history a x
  pub leads : IsAt new (record { config = p.config; history = after p.history x; outcomes = outcomes_kept p.outcomes o x })

-- the same of a line
abbrev pub AnswersLine : Playing → ScenarioLine → Answer → Running → Type 0
AnswersLine p l x new = AnswersAsk p (ask_of (state p.config p.history) p.outcomes l) (outcome_said l) x new

-- what is told of an ask there: the answer, what was asked, and the tasks handed back, in the queue's order
pub record Tells (p : Playing) (a : Ask) (o : Option Outcome) (x : Told) (new : Running) : Type 0 where
  pub answers : AnswersAsk p a o (answer_of x.answer) new
  pub asks : asked_by x.answer ≡ a
  pub back : IfOk x.answer (λ e. map (λ y. y.0.0) x.handed.items ≡ drained p.config p.history e.did)

-- the same of a line
abbrev pub TellsLine : Playing → ScenarioLine → Told → Running → Type 0
TellsLine p l x new = Tells p (ask_of (state p.config p.history) p.outcomes l) (outcome_said l) x new

-- a line is answered there, this holds of the answer, and it is written: so many entries are in the record then
pub record PlaysLine (holds : Result Entry Refusal → Type 0) (p : Playing) (l : ScenarioLine) (new : Running) (accepted : ℕ) (old out : List ℕ) : Type 0 where
  pub answer : Result Entry Refusal
  pub told : AnswersLine p l (answer_of answer) new
  pub asks : asked_by answer ≡ ask_of (state p.config p.history) p.outcomes l
  pub held : holds answer
  pub counted : accepted ≡ length (after p.history (answer_of answer))
  pub written : out ≡ old ++ answer_lines p.config p.history (answer_of answer)

-- lines that are answered so from the history h
abbrev pub PlaysFrom : Config → List Entry → Outcomes → List ScenarioLine → List Answer → Type 0
PlaysFrom c h os [] [] = Unit {0}
PlaysFrom c h os (l ∷ lines) (a ∷ answers) =
    Answers c h (ask_of (state c h) os l) a × PlaysFrom c (after h a) (outcomes_after os l a) lines answers
PlaysFrom c h os _ _ = ⊥

-- how tasks end after such lines
abbrev pub outcomes_all : Outcomes → List ScenarioLine → List Answer → Outcomes
outcomes_all os (l ∷ lines) (a ∷ answers) = outcomes_all (outcomes_after os l a) lines answers
outcomes_all os _ _ = os

-- where a pool stands after lines that were answered so from an empty record
abbrev pub played : Config → List ScenarioLine → List Answer → Playing
played c lines answers = record { config = c; history = after_all [] answers; outcomes = outcomes_all [] lines answers }

-- where a runner stands after lines that were answered so from an empty record, and what is written then
pub record Stands (c : Config) (lines : List ScenarioLine) (answers : List Answer) (r : Running) (out : List ℕ) : Type 0 where
  pub plays : PlaysFrom c [] [] lines answers
  pub runner : IsAt r (played c lines answers)
  pub output : out ≡ run_lines c [] answers

-- the answers of some first lines are written, and nothing else
abbrev pub Breaks : Config → List ScenarioLine → List ℕ → Type 0
Breaks c lines out = (n : ℕ) × (answers : List Answer) × PlaysFrom c [] [] (take n lines) answers × (out ≡ run_lines c [] answers)

-- lines were played to their end, or memory gave out between two of them
abbrev pub PlaysLines : Config → List ScenarioLine → Result (Unit {0}) PoolError → Running → List ℕ → Type 0
PlaysLines c lines (Ok u) r out = (answers : List Answer) × Stands c lines answers r out
PlaysLines c lines (Err e) r out = (e ≡ NoMemory) × Breaks c lines out
