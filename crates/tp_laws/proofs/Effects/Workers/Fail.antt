-- The factory made no worker.
use Rattle.std.proofs.Common.{◌≡◌, ◌+◌, ◌-◌, false, List, ◌∷◌, Some, None, refl, arith, ap}
use Rattle.std.specs.Prelude.{count_by}
use Rattle.std.proofs.lemmas.Bool.{eq-eqb}
use Rattle.std.proofs.lemmas.Bool.Decides.{nat_tests}
use Rattle.tp_types.specs.declared.configs.Config.{Config}
use Rattle.tp_types.specs.declared.ids.TaskId.{TaskId}
use Rattle.tp_types.specs.declared.ids.SlotId.{SlotId}
use Rattle.tp_types.specs.declared.tasks.Place.TheVariants as at
use Rattle.tp_record.specs.declared.entries.Entry.{Entry}
use Rattle.tp_record.specs.declared.entries.Did.TheVariants as did
use Rattle.tp_record.specs.declared.entries.Failed.TheVariants as failed
use Rattle.tp_record.specs.Fields.{slot_row, is_queued, is_queued_place, is_idle, is_idle_row, is_live}
use Rattle.tp_record.specs.State.{state, task_at, slot_at}
use Rattle.tp_record.specs.Step.{Legal, slot_count}
use Rattle.tp_laws.proofs.Model.Given.{Given}
use Rattle.tp_laws.specs.View.{view, Effect, put}
use Rattle.tp_laws.proofs.Effects.Rows.{moved_to, for_core, for_maximum, bare}
use Rattle.tp_laws.proofs.Effects.Next.{entry}
use Rattle.tp_laws.proofs.Effects.Sums.{named_due}
use Rattle.tp_laws.proofs.Effects.Lists.{only, nothing, slot_is, queue_same, idling_same}
use Rattle.tp_laws.proofs.Effects.Done.{done_same}
use Rattle.tp_laws.proofs.Effects.Shapes.{reads_by, owes_by, tasks_kept, task_turned, slot_turned}

fail_bare_falls : (c : Config) (h : List Entry) (w : SlotId) → Given c h (did.Fail w failed.Nothing) → named_due h (did.Fail w failed.Nothing) h + 0 ≡ named_due h (did.Fail w failed.Nothing) (entry (did.Fail w failed.Nothing) ∷ h) + 3
fail_bare_falls c h w given = grind (arith, nat_tests)

-- no worker for a bare slot
pub fail_bare : (c : Config) (h : List Entry) (w : SlotId) → Legal c h → Given c h (did.Fail w failed.Nothing) →
    Effect (state c h) (did.Fail w failed.Nothing)
    (record (view (state c h)) {
      slots = put w.0 None (slot_at (state c h).slots);
      taken = slot_count (state c h) - 1;
    }) 3 0
fail_bare c h w legal given =
    let d = did.Fail w failed.Nothing in
    record {
      reads = reads_by (state c h) d refl
          (tasks_kept c h d legal given refl refl refl refl refl)
          (queue_same c h d refl refl refl (λ u named. nothing u named))
          (slot_turned c h d legal given refl w.0 refl refl (slot_count (state c h) - 1) (count_by is_live (state c h).slots) (state c h).largest (state c h).idling (Some bare) None given (rw (eq-eqb w.0 w.0 refl) refl) (λ e. omega arith) (λ e. omega arith) (λ m. omega arith) (idling_same c h d refl refl (only (is_idle h) w.0 false (ap is_idle_row given)) (λ v named. nothing v named)))
          (done_same c h d legal given refl) refl;
      owes = owes_by c h d legal given refl 3 0 (fail_bare_falls c h w given);
    }

fail_offer_falls : (c : Config) (h : List Entry) (w : SlotId) (t : TaskId) → Given c h (did.Fail w (failed.Offer t)) → named_due h (did.Fail w (failed.Offer t)) h + 0 ≡ named_due h (did.Fail w (failed.Offer t)) (entry (did.Fail w (failed.Offer t)) ∷ h) + 1
fail_offer_falls c h w t given = grind (arith, nat_tests)

-- no worker for a slot of the core: its task is to be offered
pub fail_offer : (c : Config) (h : List Entry) (w : SlotId) (t : TaskId) → Legal c h → Given c h (did.Fail w (failed.Offer t)) →
    Effect (state c h) (did.Fail w (failed.Offer t))
    (record (view (state c h)) {
      tasks = put t.0 (moved_to at.ToOffer (task_at (state c h) t.0)) (task_at (state c h));
      slots = put w.0 None (slot_at (state c h).slots);
      taken = slot_count (state c h) - 1;
    }) 1 0
fail_offer c h w t legal given =
    let d = did.Fail w (failed.Offer t) in
    record {
      reads = reads_by (state c h) d refl
          (task_turned c h d legal given refl refl refl t.0 refl refl (moved_to at.ToOffer (task_at (state c h) t.0)) (rw (eq-eqb t.0 t.0 refl) refl))
          (queue_same c h d refl refl refl (only (is_queued h) t.0 false (ap is_queued_place given.1.1)))
          (slot_turned c h d legal given refl w.0 refl refl (slot_count (state c h) - 1) (count_by is_live (state c h).slots) (state c h).largest (state c h).idling (Some (for_core t)) None given.0 (rw (eq-eqb w.0 w.0 refl) refl) (λ e. omega arith) (λ e. omega arith) (λ m. omega arith) (idling_same c h d refl refl (only (is_idle h) w.0 false (ap is_idle_row given.0)) (λ v named. nothing v named)))
          (done_same c h d legal given refl) refl;
      owes = owes_by c h d legal given refl 1 0 (fail_offer_falls c h w t given);
    }

fail_refuse_core_falls : (c : Config) (h : List Entry) (w : SlotId) (t : TaskId) → Given c h (did.Fail w (failed.Refuse t)) → slot_row h w.0 ≡ Some (for_core t) → named_due h (did.Fail w (failed.Refuse t)) h + 0 ≡ named_due h (did.Fail w (failed.Refuse t)) (entry (did.Fail w (failed.Refuse t)) ∷ h) + 10
fail_refuse_core_falls c h w t given seat = grind (arith, nat_tests)

-- no worker for a slot of the core: its task is refused
pub fail_refuse_core : (c : Config) (h : List Entry) (w : SlotId) (t : TaskId) → Legal c h → Given c h (did.Fail w (failed.Refuse t)) → slot_at (state c h).slots w.0 ≡ Some (for_core t) →
    Effect (state c h) (did.Fail w (failed.Refuse t))
    (record (view (state c h)) {
      tasks = put t.0 (moved_to at.Refused (task_at (state c h) t.0)) (task_at (state c h));
      slots = put w.0 None (slot_at (state c h).slots);
      taken = slot_count (state c h) - 1;
    }) 10 0
fail_refuse_core c h w t legal given seat =
    let d = did.Fail w (failed.Refuse t) in
    record {
      reads = reads_by (state c h) d refl
          (task_turned c h d legal given refl refl refl t.0 refl refl (moved_to at.Refused (task_at (state c h) t.0)) (rw (eq-eqb t.0 t.0 refl) refl))
          (queue_same c h d refl refl refl (only (is_queued h) t.0 false (ap is_queued_place given.1.1)))
          (slot_turned c h d legal given refl w.0 refl refl (slot_count (state c h) - 1) (count_by is_live (state c h).slots) (state c h).largest (state c h).idling (Some (for_core t)) None (slot_is c h w.0 (Some (for_core t)) seat) (rw (eq-eqb w.0 w.0 refl) refl) (λ e. omega arith) (λ e. omega arith) (λ m. omega arith) (idling_same c h d refl refl (only (is_idle h) w.0 false (ap is_idle_row (slot_is c h w.0 (Some (for_core t)) seat))) (λ v named. nothing v named)))
          (done_same c h d legal given refl) refl;
      owes = owes_by c h d legal given refl 10 0 (fail_refuse_core_falls c h w t given (slot_is c h w.0 (Some (for_core t)) seat));
    }

fail_refuse_maximum_falls : (c : Config) (h : List Entry) (w : SlotId) (t : TaskId) → Given c h (did.Fail w (failed.Refuse t)) → slot_row h w.0 ≡ Some (for_maximum t) → named_due h (did.Fail w (failed.Refuse t)) h + 0 ≡ named_due h (did.Fail w (failed.Refuse t)) (entry (did.Fail w (failed.Refuse t)) ∷ h) + 6
fail_refuse_maximum_falls c h w t given seat = grind (arith, nat_tests)

-- no worker for a slot up to the maximum: its task is refused
pub fail_refuse_maximum : (c : Config) (h : List Entry) (w : SlotId) (t : TaskId) → Legal c h → Given c h (did.Fail w (failed.Refuse t)) → slot_at (state c h).slots w.0 ≡ Some (for_maximum t) →
    Effect (state c h) (did.Fail w (failed.Refuse t))
    (record (view (state c h)) {
      tasks = put t.0 (moved_to at.Refused (task_at (state c h) t.0)) (task_at (state c h));
      slots = put w.0 None (slot_at (state c h).slots);
      taken = slot_count (state c h) - 1;
    }) 6 0
fail_refuse_maximum c h w t legal given seat =
    let d = did.Fail w (failed.Refuse t) in
    record {
      reads = reads_by (state c h) d refl
          (task_turned c h d legal given refl refl refl t.0 refl refl (moved_to at.Refused (task_at (state c h) t.0)) (rw (eq-eqb t.0 t.0 refl) refl))
          (queue_same c h d refl refl refl (only (is_queued h) t.0 false (ap is_queued_place given.1.1)))
          (slot_turned c h d legal given refl w.0 refl refl (slot_count (state c h) - 1) (count_by is_live (state c h).slots) (state c h).largest (state c h).idling (Some (for_maximum t)) None (slot_is c h w.0 (Some (for_maximum t)) seat) (rw (eq-eqb w.0 w.0 refl) refl) (λ e. omega arith) (λ e. omega arith) (λ m. omega arith) (idling_same c h d refl refl (only (is_idle h) w.0 false (ap is_idle_row (slot_is c h w.0 (Some (for_maximum t)) seat))) (λ v named. nothing v named)))
          (done_same c h d legal given refl) refl;
      owes = owes_by c h d legal given refl 6 0 (fail_refuse_maximum_falls c h w t given (slot_is c h w.0 (Some (for_maximum t)) seat));
    }
