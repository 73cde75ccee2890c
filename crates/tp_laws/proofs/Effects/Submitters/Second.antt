-- A second look, after an offer that was taken.
use Rattle.std.proofs.Common.{◌≡◌, suc, ◌+◌, false, List, ◌∷◌, Some, None, refl, arith, ap}
use Rattle.std.specs.Prelude.{count_by}
use Rattle.std.proofs.lemmas.Bool.{eq-eqb, ne_eqb}
use Rattle.std.proofs.lemmas.Bool.Decides.{nat_tests}
use Rattle.tp_types.specs.declared.configs.Config.{Config}
use Rattle.tp_types.specs.declared.ids.TaskId.{TaskId}
use Rattle.tp_types.specs.declared.ids.SlotId.{SlotId}
use Rattle.tp_types.specs.declared.tasks.Place.TheVariants as at
use Rattle.tp_record.specs.declared.entries.Entry.{Entry}
use Rattle.tp_record.specs.declared.entries.Did.TheVariants as did
use Rattle.tp_record.specs.declared.entries.Seconded.TheVariants as seconded
use Rattle.tp_record.specs.Lists.{without}
use Rattle.tp_record.specs.Fields.{is_idle, is_idle_row, is_live}
use Rattle.tp_record.specs.State.{state, task_at, slot_at}
use Rattle.tp_record.specs.Step.{Legal, slot_count}
use Rattle.tp_laws.proofs.Model.Given.{Given}
use Rattle.tp_laws.specs.View.{view, Effect, put}
use Rattle.tp_laws.proofs.Effects.Rows.{bare}
use Rattle.tp_laws.proofs.Effects.Next.{entry}
use Rattle.tp_laws.proofs.Effects.Sums.{named_due}
use Rattle.tp_laws.proofs.Effects.Lists.{only, nothing, queue_still, queue_less, idling_same}
use Rattle.tp_laws.proofs.Effects.Done.{done_same}
use Rattle.tp_laws.proofs.Effects.Shapes.{reads_by, owes_by, task_turned, slots_kept, slot_turned}

second_stay_falls : (c : Config) (h : List Entry) (t : TaskId) → Given c h (did.Second t seconded.Stay) → named_due h (did.Second t seconded.Stay) h + 0 ≡ named_due h (did.Second t seconded.Stay) (entry (did.Second t seconded.Stay) ∷ h) + 4
second_stay_falls c h t given = grind (arith, nat_tests)

-- a second look that leaves all
pub second_stay : (c : Config) (h : List Entry) (t : TaskId) → Legal c h → Given c h (did.Second t seconded.Stay) →
    Effect (state c h) (did.Second t seconded.Stay)
    (record (view (state c h)) {
      tasks = put t.0 (record (task_at (state c h) t.0) { second = false }) (task_at (state c h));
    }) 4 0
second_stay c h t legal given =
    let d = did.Second t seconded.Stay in
    record {
      reads = reads_by (state c h) d refl
          (task_turned c h d legal given refl refl refl t.0 refl refl (record (task_at (state c h) t.0) { second = false }) (rw (eq-eqb t.0 t.0 refl) refl))
          (queue_still c h d refl refl refl)
          (slots_kept c h d legal given refl refl refl refl)
          (done_same c h d legal given refl) refl;
      owes = owes_by c h d legal given refl 4 0 (second_stay_falls c h t given);
    }

second_reserve_falls : (c : Config) (h : List Entry) (t : TaskId) (w : SlotId) → Given c h (did.Second t (seconded.StayReserve w)) → named_due h (did.Second t (seconded.StayReserve w)) h + 0 ≡ named_due h (did.Second t (seconded.StayReserve w)) (entry (did.Second t (seconded.StayReserve w)) ∷ h) + 1
second_reserve_falls c h t w given = grind (arith, nat_tests)

-- a second look that reserves a bare slot
pub second_reserve : (c : Config) (h : List Entry) (t : TaskId) (w : SlotId) → Legal c h → Given c h (did.Second t (seconded.StayReserve w)) →
    Effect (state c h) (did.Second t (seconded.StayReserve w))
    (record (view (state c h)) {
      tasks = put t.0 (record (task_at (state c h) t.0) { second = false }) (task_at (state c h));
      slots = put w.0 (Some bare) (slot_at (state c h).slots);
      taken = suc (slot_count (state c h));
    }) 1 0
second_reserve c h t w legal given =
    let d = did.Second t (seconded.StayReserve w) in
    record {
      reads = reads_by (state c h) d refl
          (task_turned c h d legal given refl refl refl t.0 refl refl (record (task_at (state c h) t.0) { second = false }) (rw (eq-eqb t.0 t.0 refl) refl))
          (queue_still c h d refl refl refl)
          (slot_turned c h d legal given refl w.0 refl refl (suc (slot_count (state c h))) (count_by is_live (state c h).slots) (state c h).largest (state c h).idling None (Some bare) given.5 (rw (eq-eqb w.0 w.0 refl) refl) (λ e. omega arith) (λ e. omega arith) (λ m. omega arith) (idling_same c h d refl refl (only (is_idle h) w.0 false (ap is_idle_row given.5)) (λ v named. nothing v named)))
          (done_same c h d legal given refl) refl;
      owes = owes_by c h d legal given refl 1 0 (second_reserve_falls c h t w given);
    }

second_back_falls : (c : Config) (h : List Entry) (t : TaskId) → Given c h (did.Second t seconded.Back) → named_due h (did.Second t seconded.Back) h + 0 ≡ named_due h (did.Second t seconded.Back) (entry (did.Second t seconded.Back) ∷ h) + 8
second_back_falls c h t given = grind (arith, nat_tests)

-- a second look that takes the task out of the queue
pub second_back : (c : Config) (h : List Entry) (t : TaskId) → Legal c h → Given c h (did.Second t seconded.Back) →
    Effect (state c h) (did.Second t seconded.Back)
    (record (view (state c h)) {
      tasks = put t.0 (record (task_at (state c h) t.0) { place = at.Refused; second = false }) (task_at (state c h));
      queue = without t.0 (state c h).queue;
    }) 8 0
second_back c h t legal given =
    let d = did.Second t seconded.Back in
    record {
      reads = reads_by (state c h) d refl
          (task_turned c h d legal given refl refl refl t.0 refl refl (record (task_at (state c h) t.0) { place = at.Refused; second = false }) (rw (eq-eqb t.0 t.0 refl) refl))
          (queue_less c h d refl refl t.0 (rw (eq-eqb t.0 t.0 refl) refl) (λ u is ne. (ne_eqb u t.0 ne, refl)))
          (slots_kept c h d legal given refl refl refl refl)
          (done_same c h d legal given refl) refl;
      owes = owes_by c h d legal given refl 8 0 (second_back_falls c h t given);
    }
