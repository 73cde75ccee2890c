-- The laws of the model, computed at each front of a worked row: the words of the rules agree with the working tables,
-- and the state with one more entry is the next state.
use Rattle.std.proofs.Common.{◌≡◌, ℕ, Bool, true, false, not, ◌&&◌, List, [], ◌∷◌, Option, Some, None}
use Rattle.std.specs.Prelude.{◌==◌, is_some, is_none, if◌then◌else◌}
use Rattle.std.specs.List.{list_all}
use Rattle.tp_types.specs.declared.tasks.Place.{Place}
use Rattle.tp_types.specs.declared.tasks.Place.TheVariants as at
use Rattle.tp_types.specs.declared.tasks.Fate.{Fate}
use Rattle.tp_types.specs.declared.tasks.Fate.TheVariants as fate
use Rattle.tp_types.specs.declared.tasks.Kind.{Kind}
use Rattle.tp_types.specs.declared.tasks.Kind.TheVariants as kinds
use Rattle.tp_types.specs.declared.configs.Config.{Config}
use Rattle.tp_record.specs.declared.entries.Entry.{Entry}
use Rattle.tp_record.specs.declared.rows.Stage.{Stage}
use Rattle.tp_record.specs.declared.rows.Stage.TheVariants as stages
use Rattle.tp_record.specs.declared.rows.SlotRow.{SlotRow}
use Rattle.tp_record.specs.Lists.{count_from}
use Rattle.tp_record.specs.Fields as fields
use Rattle.tp_record.specs.State.{state, next, due, counts, fate_of, is_fate}
use Rattle.tp_record.specs.Step.{done_of}
use Rattle.tp_record.specs.Words as words

abbrev same : Bool → Bool → Bool
same true b = b
same false b = not b

abbrev same_number : Option ℕ → Option ℕ → Bool
same_number None None = true
same_number (Some x) (Some y) = x == y
same_number _ _ = false

abbrev same_list : List ℕ → List ℕ → Bool
same_list [] [] = true
same_list (x ∷ xs) (y ∷ ys) = (x == y) && same_list xs ys
same_list _ _ = false

abbrev same_with : Option Place → Place → Bool
same_with (Some at.Looking) at.Looking = true
same_with (Some at.ToOffer) at.ToOffer = true
same_with (Some at.ToGrow) at.ToGrow = true
same_with (Some at.Refused) at.Refused = true
same_with None at.Queued = true
same_with None (at.Held w) = true
same_with None (at.Taken w) = true
same_with None (at.Running w) = true
same_with None at.Caller = true
same_with None at.Gone = true
same_with _ _ = false

abbrev held : Place → Option ℕ
held (at.Held w) = Some w.0
held _ = None

abbrev taken : Place → Option ℕ
taken (at.Taken w) = Some w.0
taken _ = None

abbrev running : Place → Option ℕ
running (at.Running w) = Some w.0
running _ = None

abbrev is_caller : Place → Bool
is_caller at.Caller = true
is_caller _ = false

abbrev is_gone_place : Place → Bool
is_gone_place at.Gone = true
is_gone_place _ = false

abbrev in_if : Bool → Option ℕ → Option ℕ
in_if true o = o
in_if false o = None

abbrev same_kind : Kind → Kind → Bool
same_kind kinds.Plain kinds.Plain = true
same_kind kinds.Future kinds.Future = true
same_kind (kinds.Group g) (kinds.Group n) = g == n
same_kind _ _ = false

abbrev fates : List Fate
fates = fate.Run ∷ fate.RunByCaller ∷ fate.Rejected ∷ fate.Discarded ∷ fate.HandedBack ∷ fate.Removed ∷ fate.Cancelled ∷ []

abbrev all_fates : (Fate → Bool) → Bool
all_fates p = p fate.Run && p fate.RunByCaller && p fate.Rejected && p fate.Discarded && p fate.HandedBack && p fate.Removed && p fate.Cancelled

-- a begun task runs, is at its caller, or has an outcome
abbrev is_begun_row : Place → Bool → Bool
is_begun_row (at.Running w) o = true
is_begun_row at.Caller o = true
is_begun_row _ o = o

abbrev task_agrees : List Entry → ℕ → Bool
task_agrees h t =
    same_kind (words.kind_of h t) (fields.kind h t)
    && (words.priority_of h t == fields.priority h t)
    && same (words.was_cancelled h t) (fields.is_cancelled h t)
    && same (words.waits_in_queue h t) (fields.is_queued h t)
    && same_with (words.with_submitter h t) (fields.place h t)
    && same_number (in_if (words.was_taken h t && not (words.was_begun_there h t)) (words.in_slot h t)) (taken (fields.place h t))
    && same_number (in_if (words.was_begun_there h t) (words.in_slot h t)) (running (fields.place h t))
    && same_number (in_if (not (words.was_taken h t) && not (words.was_begun_there h t)) (words.in_slot h t)) (held (fields.place h t))
    && same (words.is_at_caller h t) (is_caller (fields.place h t))
    && same (words.is_gone h t) (is_gone_place (fields.place h t))
    && same (words.is_begun h t) (is_begun_row (fields.place h t) (is_some (fields.outcome h t)))
    && same (words.owes_look h t) (fields.owes_second h t)
    && (words.retry_count h t == fields.retries h t)
    && same (is_some (words.body_outcome h t)) (is_some (fields.outcome h t))
    && all_fates (λ f. same (words.has_fate f h t) (is_fate f (fate_of (fields.task_row h t))))

abbrev same_stage : Option Stage → Bool → Stage → Bool
same_stage (Some stages.ReservedCore) false stages.ReservedCore = true
same_stage (Some stages.ReservedMaximum) false stages.ReservedMaximum = true
same_stage (Some stages.ReservedBare) false stages.ReservedBare = true
same_stage (Some p) true s = fields.is_live_stage s
same_stage _ _ _ = false

abbrev idle_of : Stage → Option ℕ
idle_of (stages.Idle m) = Some m
idle_of _ = None

abbrev is_dying_stage : Stage → Bool
is_dying_stage stages.Dying = true
is_dying_stage _ = false

abbrev is_working : Stage → Bool
is_working stages.Working = true
is_working _ = false

abbrev slot_agrees : List Entry → ℕ → Bool
slot_agrees h w = by_row (fields.slot_row h w)
  where
    by_row : Option SlotRow → Bool
    by_row None = not (words.is_slot_now h w) && not (words.is_live_now h w)
    by_row (Some r) =
        same_stage (words.slot_for h w) (words.is_live_now h w) r.stage
        && same (words.is_busy h w) (fields.is_live_stage r.stage && is_some r.task)
        && (if words.is_live_now h w then
        same_number (words.idle_since h w) (idle_of r.stage)
        && same (words.is_dying h w) (is_dying_stage r.stage)
        && same (words.is_at_take h w) (is_working r.stage && is_none r.task)
        else true)

abbrev agrees : Config → List Entry → Bool
agrees c h =
    list_all (task_agrees h) (count_from 0 (words.submissions h))
    && list_all (slot_agrees h) (count_from 0 (words.slot_numbers h))
    && same_list (words.waiting_line c h) (fields.queue c h)
    && list_all (λ g. same_list (words.done_in_group g h) (done_of (state c h) g)) (count_from 0 5)

-- at each front
abbrev pub agrees_at_fronts : Config → List Entry → Bool
agrees_at_fronts c [] = agrees c []
agrees_at_fronts c (e ∷ h) = agrees c (e ∷ h) && agrees_at_fronts c h

-- what is owed at each front, the latest first
abbrev pub owed_at_fronts : Config → List Entry → List ℕ
owed_at_fronts c [] = due (state c []) ∷ []
owed_at_fronts c (e ∷ h) = due (state c (e ∷ h)) ∷ owed_at_fronts c h

-- the state with each entry is the next state, and the counters agree
abbrev pub NextHolds : Config → List Entry → Type 0
NextHolds c [] = Unit {0}
NextHolds c (e ∷ h) =
    (state c (e ∷ h) ≡ next (state c h) e.did) × (words.counters (e ∷ h) ≡ counts (state c (e ∷ h))) × NextHolds c h
