-- What came of the steps of a scenario, and who heard it.
use Rattle.std.specs.Prelude.{◌≡◌, ◌⊎◌, ℕ, List, [], ◌∷◌, ◌++◌, count_by, is_err, map, reverse, Option, Some, None, Result, Ok, Err}
use Rattle.tp_types.specs.declared.configs.Config.{Config}
use Rattle.tp_types.specs.declared.refusals.PoolError.{PoolError}
use Rattle.tp_types.specs.declared.refusals.PoolError.TheVariants.{NoMemory, BadLine}
use Rattle.tp_types.specs.Config.{checked}
use Rattle.tp_record.specs.declared.entries.Ask.{Ask}
use Rattle.tp_record.specs.declared.entries.Entry.{Entry}
use Rattle.tp_text.specs.Pools.{config_of}
use Rattle.tp_text.specs.RunText.{Answer, after_all}
use Rattle.tp_text.specs.declared.pools.PoolLine.{PoolLine}
use Rattle.tp_scenario.specs.declared.lines.ScenarioLine.{ScenarioLine}
use Rattle.tp_scenario.specs.declared.step.Refusal.{Refusal}
use Rattle.tp_scenario.specs.Answered.{answer_of, asked_by}
use Rattle.tp_scenario.specs.Played.{IsPlay, asks_of}
use Rattle.tp_scenario.specs.Scenario.{Asked as Lines, IsScenario, Said}

-- what a scenario says: its pool and its lines
abbrev pub Asked : Type 0
Asked = PoolLine × Lines

-- how the pool answered a step, and what was asked where it refused
abbrev pub Answered : Type 0
Answered = Result Entry Refusal

-- how the pool answered
abbrev pub answers_of : List Answered → List Answer
answers_of xs = map answer_of xs

-- what pass 0 asked
abbrev pub asked_of : List Answered → List (ℕ × Ask)
asked_of xs = map (λ x. (0, asked_by x)) xs

-- the entries of the record, oldest first
abbrev pub entries_in : List Answered → List Entry
entries_in xs = reverse (after_all [] (answers_of xs))

-- how many steps were refused
abbrev pub refusals_in : List Answered → ℕ
refusals_in xs = count_by is_err xs

-- a pool that was made with c answers these lines so
pub record PlaysOf (c : Config) (lines : List ScenarioLine) (xs : List Answered) : Type 0 where
  pub asked : asked_of xs ≡ asks_of c [] [] lines (answers_of xs)
  pub play : IsPlay c lines (answers_of xs)

-- what came of the scenario of a text: its settings, which a pool can have, its first bad line behind the pool line, if there is one,
-- and how the steps before that were answered
pub record IsPlayOf (text : List ℕ) (c : Config) (bad : Option ℕ) (xs : List Answered) : Type 0 where
  pub said : Asked
  pub scenario : IsScenario text (Ok said)
  pub settings : c ≡ config_of said.0
  pub accepted : checked c ≡ Ok tt
  pub first_bad : bad ≡ said.1.1
  pub plays : PlaysOf c said.1.0 xs

-- why a play of what a text says does not go to its end, memory aside: its first bad line, or settings that come before a bad line
-- behind the pool line
abbrev pub RefusesPool : Result (Unit {0}) PoolError → Option ℕ → PoolError → Type 0
RefusesPool (Err x) bad e = e ≡ x
RefusesPool (Ok u) (Some k) e = e ≡ BadLine k
RefusesPool (Ok u) None e = ⊥

abbrev pub RefusesSaid : Said → PoolError → Type 0
RefusesSaid (Err k) e = e ≡ BadLine k
RefusesSaid (Ok s) e = RefusesPool (checked (config_of s.0)) s.1.1 e

-- why the play of a text does not go to its end
abbrev pub RefusesPlay : List ℕ → PoolError → Type 0
RefusesPlay text e = (e ≡ NoMemory) ⊎ ((s : Said) × IsScenario text s × RefusesSaid s e)

module _ {L : Type 0} (heard : L → Config → List Answered → Type 0) where
  -- a listener heard one more answer
  abbrev pub HearsOn : L → L → Answered → Type 0
  HearsOn old new x = (c : Config) (xs : List Answered) → heard old c xs → heard new c (xs ++ x ∷ [])

  -- it heard how a pool that was made with c answered these lines
  abbrev pub HeardLines : Config → List ScenarioLine → L → Type 0
  HeardLines c lines l = (xs : List Answered) × PlaysOf c lines xs × heard l c xs

  -- it heard the answers to what a text asks up to its first bad line, where a pool can have its settings
  abbrev pub HeardText : List ℕ → L → Type 0
  HeardText text l = (s : Asked) → IsScenario text (Ok s) → checked (config_of s.0) ≡ Ok tt → HeardLines (config_of s.0) s.1.0 l
