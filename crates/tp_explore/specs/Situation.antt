-- A situation: a pool, and how far each caller is.
use Rattle.std.specs.Prelude.{ℕ, suc, ◌==◌, Bool, true, false, ◌||◌, List, [], ◌∷◌, map, Option, Some, None, is_some, slice_index_or, slice_get, if◌then◌else◌}
use Rattle.tp_types.specs.declared.ids.TaskId.{TaskId}
use Rattle.tp_types.specs.declared.tasks.Place.{Place}
use Rattle.tp_types.specs.declared.tasks.Place.TheVariants as at
use Rattle.tp_record.specs.declared.rows.SlotRow.{SlotRow}
use Rattle.tp_record.specs.Effects.{Outcome}
use Rattle.tp_record.specs.State as states
use Rattle.tp_record.specs.Step.{is_reserved}
use Rattle.tp_rules.specs.PlainState.{shown}
use Rattle.tp_explore.specs.declared.callers.Caller.{Caller}
use Rattle.tp_explore.specs.declared.callers.Doing.{Doing}
use Rattle.tp_explore.specs.declared.callers.Doing.TheVariants.{Submitting, Staffing}
use Rattle.tp_explore.specs.declared.plans.Call.{Call}
use Rattle.tp_explore.specs.declared.plans.Call.TheVariants as call
use Rattle.tp_explore.specs.declared.plans.Plan.{Plan}
use Rattle.tp_explore.specs.declared.plans.Submission.{Submission}
use Rattle.tp_explore.specs.declared.states.State.{State}

-- the pool, how far each caller is, and the task that each submission of the plan is, once it was made
pub record Situation : Type 0 where
  pub pool : states.State
  pub callers : List Caller
  pub numbers : List (Option TaskId)

-- the situation that a kept state stands for
abbrev pub seen : State → Situation
seen s = record { pool = shown s.pool; callers = s.callers.items; numbers = s.numbers.items }

-- the state without what no step asks for
abbrev pub bare : states.State → states.State
bare s = record s { completions = 0; largest = 0 }

-- the task that this submission is, once it was made
abbrev pub number : Situation → ℕ → Option TaskId
number s submission = slice_index_or s.numbers submission None

abbrev pub is_number : ℕ → Option TaskId → Bool
is_number t None = false
is_number t (Some u) = u.0 == t

-- which submission task t is, where that of the first number is k
abbrev pub submission_from : ℕ → ℕ → List (Option TaskId) → Option ℕ
submission_from k t [] = None
submission_from k t (o ∷ os) = if is_number t o then Some k else submission_from (suc k) t os

-- the calls of caller i
abbrev pub calls_of : Plan → ℕ → List Call
calls_of plan i = slice_index_or (map (λ v. v.items) plan.callers.items) i []

-- how the body of task t ends
abbrev pub outcome_of : Plan → Situation → ℕ → Option Outcome
outcome_of plan s t = of_job (submission_from 0 t s.numbers)
  where
    of_submission : Option Submission → Option Outcome
    of_submission None = None
    of_submission (Some x) = Some x.outcome

    of_job : Option ℕ → Option Outcome
    of_job None = None
    of_job (Some j) = of_submission (slice_get plan.submissions.items j)

-- a wait that is over: the task has a fate, or the pool is terminated
abbrev pub is_over : Situation → Call → Bool
is_over s (call.Await x) = has_fate (number s x)
  where
    has_fate : Option TaskId → Bool
    has_fate None = false
    has_fate (Some t) = is_some (states.fate_of (states.task_at s.pool t.0))
is_over s call.AwaitEnd = s.pool.rank == 4
is_over s _ = false

-- so many calls stand before the first that is no wait which is over
abbrev pub waits_over : Situation → List Call → ℕ
waits_over s [] = 0
waits_over s (c ∷ cs) = if is_over s c then suc (waits_over s cs) else 0

-- a submission's slot is reserved
abbrev pub is_reserved_row : Option SlotRow → Bool
is_reserved_row None = false
is_reserved_row (Some r) = is_reserved r.stage

-- a submitter has more to do for its task: it owes a second look, or the task is with it, or in a slot that it reserved
abbrev pub is_with_submitter : states.State → Place → Bool
is_with_submitter s at.Looking = true
is_with_submitter s at.ToOffer = true
is_with_submitter s at.ToGrow = true
is_with_submitter s at.Refused = true
is_with_submitter s at.Caller = true
is_with_submitter s (at.Held w) = is_reserved_row (states.slot_at s.slots w.0)
is_with_submitter s _ = false

abbrev pub goes_on : states.State → ℕ → Bool
goes_on s t = (states.task_at s t).second || is_with_submitter s (states.task_at s t).place

abbrev pub is_held_in : ℕ → Place → Bool
is_held_in w (at.Held v) = w == v.0
is_held_in w _ = false

-- the caller has slot w's worker made
abbrev pub staffs : states.State → ℕ → Caller → Bool
staffs s w c = by_doing c.doing
  where
    by_doing : Doing → Bool
    by_doing (Submitting t) = is_held_in w (states.task_at s t.0).place
    by_doing (Staffing v more) = w == v.0
    by_doing _ = false
