-- A look for a core slot, after a retry.
use Rattle.std.proofs.Common.{◌≡◌, suc, ◌+◌, false, List, ◌∷◌, Some, None, refl, arith, ap}
use Rattle.std.specs.Prelude.{count_by}
use Rattle.std.proofs.lemmas.Bool.{eq-eqb}
use Rattle.std.proofs.lemmas.Bool.Decides.{nat_tests}
use Rattle.tp_types.specs.declared.configs.Config.{Config}
use Rattle.tp_types.specs.declared.ids.TaskId.{TaskId}
use Rattle.tp_types.specs.declared.ids.SlotId.{SlotId}
use Rattle.tp_types.specs.declared.tasks.Place.TheVariants as at
use Rattle.tp_record.specs.declared.entries.Entry.{Entry}
use Rattle.tp_record.specs.declared.entries.Did.TheVariants as did
use Rattle.tp_record.specs.declared.entries.Looked.TheVariants as looked
use Rattle.tp_record.specs.Fields.{is_queued, is_queued_place, is_idle, is_idle_row, is_live}
use Rattle.tp_record.specs.State.{state, task_at, slot_at}
use Rattle.tp_record.specs.Step.{Legal, slot_count}
use Rattle.tp_laws.proofs.Model.Given.{Given}
use Rattle.tp_laws.specs.View.{view, Effect, put}
use Rattle.tp_laws.proofs.Effects.Rows.{moved_to, for_core}
use Rattle.tp_laws.proofs.Effects.Next.{entry}
use Rattle.tp_laws.proofs.Effects.Sums.{named_due}
use Rattle.tp_laws.proofs.Effects.Lists.{only, nothing, queue_same, idling_same}
use Rattle.tp_laws.proofs.Effects.Done.{done_same}
use Rattle.tp_laws.proofs.Effects.Shapes.{reads_by, owes_by, task_turned, slots_kept, slot_turned}

look_reserve_falls : (c : Config) (h : List Entry) (t : TaskId) (w : SlotId) → Given c h (did.Look t (looked.Reserve w)) → named_due h (did.Look t (looked.Reserve w)) h + 0 ≡ named_due h (did.Look t (looked.Reserve w)) (entry (did.Look t (looked.Reserve w)) ∷ h) + 1
look_reserve_falls c h t w given = grind (arith, nat_tests)

-- a look that reserves a slot for the core
pub look_reserve : (c : Config) (h : List Entry) (t : TaskId) (w : SlotId) → Legal c h → Given c h (did.Look t (looked.Reserve w)) →
    Effect (state c h) (did.Look t (looked.Reserve w))
    (record (view (state c h)) {
      tasks = put t.0 (moved_to (at.Held w) (task_at (state c h) t.0)) (task_at (state c h));
      slots = put w.0 (Some (for_core t)) (slot_at (state c h).slots);
      taken = suc (slot_count (state c h));
    }) 1 0
look_reserve c h t w legal given =
    let d = did.Look t (looked.Reserve w) in
    record {
      reads = reads_by (state c h) d refl
          (task_turned c h d legal given refl refl refl t.0 refl refl (moved_to (at.Held w) (task_at (state c h) t.0)) (rw (eq-eqb t.0 t.0 refl) refl))
          (queue_same c h d refl refl refl (only (is_queued h) t.0 false (ap is_queued_place given.0.1)))
          (slot_turned c h d legal given refl w.0 refl refl (suc (slot_count (state c h))) (count_by is_live (state c h).slots) (state c h).largest (state c h).idling None (Some (for_core t)) given.1.2 (rw (eq-eqb w.0 w.0 refl) refl) (λ e. omega arith) (λ e. omega arith) (λ m. omega arith) (idling_same c h d refl refl (only (is_idle h) w.0 false (ap is_idle_row given.1.2)) (λ v named. nothing v named)))
          (done_same c h d legal given refl) refl;
      owes = owes_by c h d legal given refl 1 0 (look_reserve_falls c h t w given);
    }

look_queue_falls : (c : Config) (h : List Entry) (t : TaskId) → Given c h (did.Look t looked.Queue) → named_due h (did.Look t looked.Queue) h + 0 ≡ named_due h (did.Look t looked.Queue) (entry (did.Look t looked.Queue) ∷ h) + 2
look_queue_falls c h t given = grind (arith, nat_tests)

-- a look after which the task is to be offered
pub look_queue : (c : Config) (h : List Entry) (t : TaskId) → Legal c h → Given c h (did.Look t looked.Queue) →
    Effect (state c h) (did.Look t looked.Queue)
    (record (view (state c h)) {
      tasks = put t.0 (moved_to at.ToOffer (task_at (state c h) t.0)) (task_at (state c h));
    }) 2 0
look_queue c h t legal given =
    let d = did.Look t looked.Queue in
    record {
      reads = reads_by (state c h) d refl
          (task_turned c h d legal given refl refl refl t.0 refl refl (moved_to at.ToOffer (task_at (state c h) t.0)) (rw (eq-eqb t.0 t.0 refl) refl))
          (queue_same c h d refl refl refl (only (is_queued h) t.0 false (ap is_queued_place given.0.1)))
          (slots_kept c h d legal given refl refl refl refl)
          (done_same c h d legal given refl) refl;
      owes = owes_by c h d legal given refl 2 0 (look_queue_falls c h t given);
    }

look_refuse_falls : (c : Config) (h : List Entry) (t : TaskId) → Given c h (did.Look t looked.Refuse) → named_due h (did.Look t looked.Refuse) h + 0 ≡ named_due h (did.Look t looked.Refuse) (entry (did.Look t looked.Refuse) ∷ h) + 11
look_refuse_falls c h t given = grind (arith, nat_tests)

-- a look that refuses
pub look_refuse : (c : Config) (h : List Entry) (t : TaskId) → Legal c h → Given c h (did.Look t looked.Refuse) →
    Effect (state c h) (did.Look t looked.Refuse)
    (record (view (state c h)) {
      tasks = put t.0 (moved_to at.Refused (task_at (state c h) t.0)) (task_at (state c h));
    }) 11 0
look_refuse c h t legal given =
    let d = did.Look t looked.Refuse in
    record {
      reads = reads_by (state c h) d refl
          (task_turned c h d legal given refl refl refl t.0 refl refl (moved_to at.Refused (task_at (state c h) t.0)) (rw (eq-eqb t.0 t.0 refl) refl))
          (queue_same c h d refl refl refl (only (is_queued h) t.0 false (ap is_queued_place given.0.1)))
          (slots_kept c h d legal given refl refl refl refl)
          (done_same c h d legal given refl) refl;
      owes = owes_by c h d legal given refl 11 0 (look_refuse_falls c h t given);
    }
