-- What comes of a scenario: what its lines ask of the pool, how the pool answers, what is written and how the run ends.
use Rattle.std.specs.Prelude.{◌≡◌, ◌⊎◌, ℕ, pos, List, [], ◌∷◌, ◌++◌, length, map, take, Option, Some, None, Result, Ok, Err, IfSome, slice_index_or, unwrap_or}
use Rattle.std.specs.Option.{option_to_list}
use Rattle.std.specs.Io.KnownBytes.{Appends, Keeps}
use Rattle.tp_types.specs.declared.configs.Config.{Config}
use Rattle.tp_types.specs.declared.ids.TaskId.{TaskId}
use Rattle.tp_types.specs.declared.ids.SlotId.{SlotId}
use Rattle.tp_types.specs.declared.refusals.PoolError.{PoolError}
use Rattle.tp_types.specs.declared.refusals.PoolError.TheVariants.{NoMemory, BadLine, ReadFailed, WriteFailed}
use Rattle.tp_types.specs.Config.{checked}
use Rattle.tp_record.specs.declared.entries.Entry.{Entry}
use Rattle.tp_record.specs.declared.entries.Ask.{Ask}
use Rattle.tp_record.specs.declared.entries.Ask.TheVariants as ask
use Rattle.tp_record.specs.Effects.{Outcome}
use Rattle.tp_record.specs.State.{State, state, slot_at}
use Rattle.tp_record.specs.Step as steps
use Rattle.tp_machine.specs.Seen.{task_of_row}
use Rattle.tp_text.specs.RunText.{Answer, after, after_all, run_lines, output, IsFront}
use Rattle.tp_text.specs.declared.commands.TaskVerb.{TaskVerb}
use Rattle.tp_text.specs.declared.commands.TaskVerb.TheVariants as task
use Rattle.tp_text.specs.declared.commands.SlotVerb.{SlotVerb}
use Rattle.tp_text.specs.declared.commands.SlotVerb.TheVariants as slot
use Rattle.tp_text.specs.declared.commands.PoolVerb.{PoolVerb}
use Rattle.tp_text.specs.declared.commands.PoolVerb.TheVariants as pool
use Rattle.tp_text.specs.declared.commands.SizeVerb.{SizeVerb}
use Rattle.tp_text.specs.declared.commands.SizeVerb.TheVariants as size
use Rattle.tp_text.specs.declared.commands.TickVerb.{TickVerb}
use Rattle.tp_text.specs.declared.commands.TickVerb.TheVariants as ticks
use Rattle.tp_scenario.specs.declared.lines.ScenarioLine.{ScenarioLine}
use Rattle.tp_scenario.specs.declared.lines.ScenarioLine.TheVariants as line
use Rattle.tp_text.specs.Pools.{config_of}
use Rattle.tp_scenario.specs.Scenario.{Asked, Said, IsScenario}

-- what lines ask

-- by each task's number how it ends, as the line that submitted it says
abbrev pub Outcomes : Type 0
Outcomes = List Outcome

-- how a task ends
abbrev pub outcome_of : Outcomes → ℕ → Outcome
outcome_of os t = slice_index_or os t (Ok (pos 0))

-- how the task in a slot ends; where there is none the pool refuses its end, whatever it is
abbrev pub outcome_there : Outcomes → Option TaskId → Outcome
outcome_there os None = Ok (pos 0)
outcome_there os (Some t) = outcome_of os t.0

abbrev pub task_ask : TaskVerb → TaskId → Outcome → Ask
task_ask task.Look t o = ask.Look t
task_ask task.Offer t o = ask.Offer t
task_ask task.Second t o = ask.Second t
task_ask task.Grow t o = ask.Grow t
task_ask task.CallerEnd t o = ask.CallerEnd t o
task_ask task.Remove t o = ask.Remove t

abbrev pub slot_ask : SlotVerb → SlotId → Outcome → Ask
slot_ask slot.Open w o = ask.Open w
slot_ask slot.Fail w o = ask.Fail w
slot_ask slot.Take w o = ask.Take w
slot_ask slot.Begin w o = ask.Begin w
slot_ask slot.End w o = ask.End w o
slot_ask slot.Leave w o = ask.Leave w

abbrev pub pool_ask : PoolVerb → Ask
pool_ask pool.Shutdown = ask.Shutdown
pool_ask pool.Stop = ask.Stop
pool_ask pool.Tidy = ask.Tidy
pool_ask pool.Ended = ask.Ended
pool_ask pool.Purge = ask.Purge
pool_ask pool.Prestart = ask.Prestart

abbrev pub size_ask : SizeVerb → ℕ → Ask
size_ask size.TakeDone n = ask.TakeDone n
size_ask size.Core n = ask.Core n
size_ask size.Maximum n = ask.Maximum n

abbrev pub tick_ask : TickVerb → ℕ → Ask
tick_ask ticks.Keep n = ask.Keep n
tick_ask ticks.Tick n = ask.Tick n

-- what a line asks in this state
abbrev pub ask_of : State → Outcomes → ScenarioLine → Ask
ask_of s os (line.Submit k o p) = ask.Submit k (unwrap_or p 0)
ask_of s os (line.OfTask v t) = task_ask v t (outcome_of os t.0)
ask_of s os (line.Verdict t v) = ask.Verdict t v
ask_of s os (line.OfSlot v w) = slot_ask v w (outcome_there os (task_of_row (slot_at s.slots w.0)))
ask_of s os (line.OfPool v) = pool_ask v
ask_of s os (line.Cancel t flag) = ask.Cancel t flag
ask_of s os (line.OfSize v n) = size_ask v n
ask_of s os (line.OfTicks v n) = tick_ask v n
ask_of s os (line.CoreTimeout on) = ask.CoreTimeout on

-- how the task ends that a line submits
abbrev pub outcome_said : ScenarioLine → Option Outcome
outcome_said (line.Submit k o p) = Some o
outcome_said _ = None

-- an accepted submission says how one more task ends
abbrev pub outcomes_after : Outcomes → ScenarioLine → Answer → Outcomes
outcomes_after os l (Ok e) = os ++ option_to_list (outcome_said l)
outcomes_after os l (Err r) = os

-- what lines ask one after another, where they are answered so after the history h; pass 0 asks everything
abbrev pub asks_of : Config → List Entry → Outcomes → List ScenarioLine → List Answer → List (ℕ × Ask)
asks_of c h os (l ∷ lines) (a ∷ answers) = (0, ask_of (state c h) os l) ∷ asks_of c (after h a) (outcomes_after os l a) lines answers
asks_of c h os _ _ = []

-- what was done, without the entry around it
abbrev pub told : Answer → steps.Answer
told (Ok e) = Ok e.did
told (Err r) = Err r

-- a pool that was made with c answers these lines so, one answer each
pub record IsPlay (c : Config) (lines : List ScenarioLine) (answers : List Answer) : Type 0 where
  pub each : length answers ≡ length lines
  pub run : steps.Run c (asks_of c [] [] lines answers) (map told answers) (after_all [] answers)

-- what is written, and how a run ends

abbrev pub Ending : Type 0
Ending = Result (Unit {0}) PoolError

-- the lines of the answers alone where there is a bad line, else the whole output
abbrev pub written : Config → List Answer → Option ℕ → List ℕ
written c answers None = output c answers
written c answers (Some k) = run_lines c [] answers

abbrev pub ending_of : Option ℕ → Ending
ending_of None = Ok tt
ending_of (Some k) = Err (BadLine k)

-- what comes of a pool whose check answers this, and of the lines behind its line: a refused configuration comes before
-- later bad lines
abbrev pub ComesOfPool : Ending → Config → Asked → List ℕ → Ending → Type 0
ComesOfPool (Err e) c asked out ending = (out ≡ []) × (ending ≡ Err e)
ComesOfPool (Ok u) c asked out ending =
    (answers : List Answer) × IsPlay c asked.0 answers × (out ≡ written c answers asked.1) × (ending ≡ ending_of asked.1)

-- what comes of a scenario that says this
abbrev pub ComesOf : Said → List ℕ → Ending → Type 0
ComesOf (Err k) out ending = (out ≡ []) × (ending ≡ Err (BadLine k))
ComesOf (Ok q) out ending = ComesOfPool (checked (config_of q.0)) (config_of q.0) q.1 out ending

-- what may have been written where the runner's own memory gave out: the lines of some first answers, or, behind those of
-- all lines, a front of the whole output. A refused configuration comes before that
abbrev pub BreaksOffAt : Config → Asked → List ℕ → List Answer → ℕ → Type 0
BreaksOffAt c asked out answers n =
    IsPlay c (take n asked.0) answers
    × ((out ≡ run_lines c [] answers) ⊎ ((n ≡ length asked.0) × (asked.1 ≡ None) × IsFront out (output c answers)))

abbrev pub BreaksOff : Said → List ℕ → Type 0
BreaksOff (Err k) out = out ≡ []
BreaksOff (Ok q) out = (checked (config_of q.0) ≡ Ok tt) × ((answers : List Answer) × (n : ℕ) × BreaksOffAt (config_of q.0) q.1 out answers n)

-- what comes of a text: what its scenario says; or memory gave out, while it was read or while it was played
abbrev pub IsPlayed : List ℕ → List ℕ → Ending → Type 0
IsPlayed text out ending =
    ((s : Said) × IsScenario text s × ComesOf s out ending)
    ⊎ ((ending ≡ Err NoMemory) × ((out ≡ []) ⊎ ((s : Said) × IsScenario text s × BreaksOff s out)))

-- a run from a reader with these bytes, where they are known, to a writer: what it wrote comes of a text, which is that of
-- the reader
abbrev pub IsRun : Option (List ℕ) → Option (List ℕ) → Option (List ℕ) → Ending → Type 0
IsRun input old new (Err ReadFailed) = Keeps old new
IsRun input old new (Err WriteFailed) = Unit {0}
IsRun input old new ending =
    (text : List ℕ) × (out : List ℕ) × IfSome input (λ xs. text ≡ xs) × IsPlayed text out ending × Appends old new out
