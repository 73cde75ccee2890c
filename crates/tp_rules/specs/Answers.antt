-- What a program answers to an ask, at each state that it reads.
use Rattle.std.specs.Prelude.{ℕ, ◌≡◌, ◌<◌, true, false, Option, Some, None, Result, Ok, Err, MatchResult, if◌then◌else◌}
use Rattle.tp_types.specs.declared.configs.Config.{Config}
use Rattle.tp_types.specs.declared.configs.Policy.TheVariants.{Own}
use Rattle.tp_types.specs.declared.configs.QueueKind.TheVariants.{Handoff}
use Rattle.tp_types.specs.declared.refusals.PoolError.{PoolError}
use Rattle.tp_record.specs.declared.entries.Ask.{Ask}
use Rattle.tp_record.specs.declared.entries.Did.{Did}
use Rattle.tp_record.specs.declared.rows.TaskRow.{TaskRow}
use Rattle.tp_record.specs.State.{State, task_at}
use Rattle.tp_record.specs.Step.{Answer, is_known, fitting}
use Rattle.tp_types.specs.declared.tasks.Place.TheVariants as at

-- the row of task t, where it is known
abbrev pub known_row : State → ℕ → Option TaskRow
known_row s t = if is_known s t then Some (task_at s t) else None

-- task t is known and refused, and has this row
pub record IsRefused (s : State) (t : ℕ) (r : TaskRow) : Type 0 where
  pub known : is_known s t ≡ true
  pub row : task_at s t ≡ r
  pub place : r.place ≡ at.Refused

-- task t is refused and has retries left, and its pool runs
pub record MayTry (s : State) (t : ℕ) : Type 0 where
  pub known : is_known s t ≡ true
  pub refused : (task_at s t).place ≡ at.Refused
  pub few : (task_at s t).retries < 64
  pub runs : s.rank ≡ 0

-- settings of which nothing is read
abbrev pub no_settings : Config
no_settings = record { core = 0; maximum = 0; keep = 0; core_timeout = false; queue = Handoff; policy = Own; record_limit = 0 }

module _ {X : Type 0} (Reads : State → Type 0) where
  -- r is what the step answers at each state that is read, with x told as f x
  abbrev pub Says : (State → Answer) → (X → Did) → Result X PoolError → Type 0
  Says step f r = MatchResult r (λ x. (s : State) → Reads s → step s ≡ Ok (f x)) (λ e. (s : State) → Reads s → step s ≡ Err e)

  -- so it is to this ask, by these settings: those that the answer does not read, and the number of a new slot, are left out
  abbrev pub AnswersBy : Config → Ask → (X → Did) → Result X PoolError → Type 0
  AnswersBy c a = Says (λ s. fitting c s 0 a)

  -- or by any settings
  abbrev pub Answers : Ask → (X → Did) → Result X PoolError → Type 0
  Answers = AnswersBy no_settings

  -- or where a new slot gets the number n; a refusal is the same at any number
  abbrev pub AnswersAt : ℕ → Ask → (X → Did) → Result X PoolError → Type 0
  AnswersAt n a f r = MatchResult r (λ x. (s : State) → Reads s → fitting no_settings s n a ≡ Ok (f x)) (λ e. (w : ℕ) (s : State) → Reads s → fitting no_settings s w a ≡ Err e)
