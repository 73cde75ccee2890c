-- What is counted of a history is no more than its entries.
use Rattle.std.proofs.Common.{◌≡◌, ℕ, suc, ◌≤◌, Bool, true, false, not, cond, List, [], ◌∷◌, length, Some, None, Option, arith, ap}
use Rattle.std.specs.Prelude.{filter, count_by, sum_by, is_some, nat_eq, ◌==◌}
use Rattle.std.proofs.lemmas.List.{length-append}
use Rattle.std.proofs.lemmas.List.Sums.{sum_by-le-sum_by}
use Rattle.tp_types.specs.declared.configs.Config.{Config}
use Rattle.tp_record.specs.declared.entries.Entry.{Entry}
use Rattle.tp_record.specs.declared.rows.Stage.{Stage}
use Rattle.tp_record.specs.declared.rows.Stage.TheVariants as stages
use Rattle.tp_record.specs.declared.rows.SlotRow.{SlotRow}
use Rattle.tp_record.specs.Lists.{without, at_end}
use Rattle.tp_record.specs.Effects.{queues, completes, is_submit, is_completion}
use Rattle.tp_types.specs.Queues.{is_ranked}
use Rattle.tp_laws.proofs.Model.Arranged.{line-length}
use Rattle.tp_record.specs.Fields.{queue, queued, priority, is_queued, offered, done, is_done, completed, kind, is_cancelled, submitted, completions, live, is_live, is_live_stage, slot_rows, largest}
use Rattle.tp_record.specs.State.{state, next, due, slot_weight, stage_weight}
use Rattle.tp_record.specs.Step.{Legal}
use Rattle.tp_laws.proofs.Model.NextState.{next_is_state}
use Rattle.tp_laws.proofs.Model.Weak.{has_room}

-- a filter keeps no more than there was
pub length-filter-le : {A : Type 0} (p : A → Bool) (xs : List A) → length (filter p xs) ≤ length xs
length-filter-le p [] = omega arith
length-filter-le p (x ∷ xs) = elim (p x) as (λ b. length (cond b (x ∷ filter p xs) (filter p xs)) ≤ suc (length xs)) [ true ↦ omega (arith, length-filter-le p xs) | false ↦ omega (arith, length-filter-le p xs) ]

-- at the end of a list comes at most one more
pub length-at_end-le : (o : Option ℕ) (xs : List ℕ) → length (at_end o xs) ≤ suc (length xs)
length-at_end-le None xs = omega arith
length-at_end-le (Some x) xs = omega (arith, length-append (without x xs) (x ∷ []), length-filter-le (λ y. not (y == x)) xs)

offered_short : (h : List Entry) → length (offered h) ≤ length h
offered_short [] = omega arith
offered_short (e ∷ h) = omega (arith, offered_short h, length-at_end-le (queues e.did) (offered h))

completed_short : (h : List Entry) → length (completed h) ≤ length h
completed_short [] = omega arith
completed_short (e ∷ h) = omega (arith, completed_short h, length-at_end-le (completes e.did (kind h) (is_cancelled h)) (completed h))

-- the queue
pub queue_short : (c : Config) (h : List Entry) → length (queue c h) ≤ length h
queue_short c h = omega (arith, offered_short h, length-filter-le (is_queued h) (offered h), line-length (is_ranked c.queue) (priority h) (queued h))

-- the completions that are not handed out
pub done_short : (h : List Entry) → length (done h) ≤ length h
done_short h = omega (arith, completed_short h, length-filter-le (is_done h) (completed h))

-- the completions
pub completions_short : (h : List Entry) → completions h ≤ length h
completions_short [] = omega arith
completions_short (e ∷ h) = elim (is_completion e.did) as (λ b. cond b (suc (completions h)) (completions h) ≤ suc (length h)) [ true ↦ omega (arith, completions_short h) | false ↦ omega (arith, completions_short h) ]

-- the tasks
pub submitted_short : (h : List Entry) → submitted h ≤ length h
submitted_short [] = omega arith
submitted_short (e ∷ h) = elim (is_submit e.did) as (λ b. cond b (suc (submitted h)) (submitted h) ≤ suc (length h)) [ true ↦ omega (arith, submitted_short h) | false ↦ omega (arith, submitted_short h) ]

-- the live slots are never more than the greatest number of them so far
pub live_largest : (h : List Entry) → live h ≤ largest h
live_largest [] = omega arith
live_largest (e ∷ h) = omega arith

-- a live slot owes something
live_owes : (rank : ℕ) (o : Option SlotRow) → ◌≤◌ (cond (is_live o) 1 0) (slot_weight rank o)
live_owes rank None = omega arith
live_owes rank (Some r) = by_stage r.stage
  where
    by_stage : (g : Stage) → ◌≤◌ (cond (is_live_stage g) 1 0) (stage_weight rank (is_some r.task) g)
    by_stage stages.Working = elim (is_some r.task) as (λ b. ◌≤◌ 1 (cond b 2 (cond (nat_eq rank 0) 2 1))) [ true ↦ omega arith | false ↦ elim (nat_eq rank 0) as (λ b. ◌≤◌ 1 (cond b 2 1)) [ true ↦ omega arith | false ↦ omega arith ] ]
    by_stage (stages.Idle m) = omega arith
    by_stage stages.Dying = omega arith
    by_stage _ = omega arith

-- so there was never a live slot without room in the record
pub largest_short : (c : Config) (h : List Entry) → Legal c h → largest h ≤ c.record_limit
largest_short c [] legal = omega arith
largest_short c (e ∷ h) legal =
    let before = largest_short c h legal.1 in
    let room = has_room c (state c h) _ e.did legal.0.0 in
    let same : due (state c (e ∷ h)) ≡ due (next (state c h) e.did) = ap due (next_is_state c h e legal.1 legal.0) in
    let some : count_by is_live (slot_rows (e ∷ h)) ≤ sum_by (slot_weight (state c (e ∷ h)).rank) (slot_rows (e ∷ h)) =
    sum_by-le-sum_by (λ o. cond (is_live o) 1 0) (slot_weight (state c (e ∷ h)).rank) (slot_rows (e ∷ h)) (live_owes (state c (e ∷ h)).rank) in
    omega (arith, before, room, same, some)
