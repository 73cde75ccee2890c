-- An offer to the queue.
use Rattle.std.proofs.Common.{◌≡◌, ◌+◌, true, false, List, ◌∷◌, Some, refl, arith, ap, ◌∙◌}
use Rattle.std.specs.Prelude.{count_by, drop}
use Rattle.std.proofs.lemmas.Bool.{eq-eqb}
use Rattle.std.proofs.lemmas.Bool.Decides.{nat_tests}
use Rattle.tp_types.specs.declared.configs.Config.{Config}
use Rattle.tp_types.specs.declared.ids.TaskId.{TaskId}
use Rattle.tp_types.specs.declared.ids.SlotId.{SlotId}
use Rattle.tp_types.specs.declared.tasks.Place.TheVariants as at
use Rattle.tp_record.specs.declared.entries.Entry.{Entry}
use Rattle.tp_record.specs.declared.entries.Did.TheVariants as did
use Rattle.tp_record.specs.declared.entries.Offered.TheVariants as offered
use Rattle.tp_record.specs.Lists.{join_line}
use Rattle.tp_record.specs.Fields.{owes_second, is_queued, is_queued_place, is_live, idling}
use Rattle.tp_record.specs.State.{state, task_at, slot_at}
use Rattle.tp_record.specs.Step.{Legal, slot_count}
use Rattle.tp_laws.proofs.Model.Given.{Given}
use Rattle.tp_laws.proofs.Model.Queues.{once-idling}
use Rattle.tp_laws.specs.View.{view, Effect, put}
use Rattle.tp_laws.proofs.Effects.Rows.{moved_to, works_on, idle_since}
use Rattle.tp_laws.proofs.Effects.Next.{entry}
use Rattle.tp_laws.proofs.Effects.Sums.{named_due}
use Rattle.tp_laws.proofs.Effects.Lists.{only, without_head, queue_same, queue_more, idling_out}
use Rattle.tp_laws.proofs.Effects.Done.{done_same}
use Rattle.tp_laws.proofs.Effects.Invariants.{is_waiting, owes_none}
use Rattle.tp_laws.proofs.Effects.Shapes.{reads_by, owes_by, task_turned, slots_kept, slot_turned}

offer_queued_falls : (c : Config) (h : List Entry) (t : TaskId) → Given c h (did.Offer t offered.Queued) → owes_second h t.0 ≡ false → named_due h (did.Offer t offered.Queued) h + 0 ≡ named_due h (did.Offer t offered.Queued) (entry (did.Offer t offered.Queued) ∷ h) + 1
offer_queued_falls c h t given owes = grind (arith, nat_tests)

-- an offer that the queue takes
pub offer_queued : (c : Config) (h : List Entry) (t : TaskId) → Legal c h → Given c h (did.Offer t offered.Queued) →
    Effect (state c h) (did.Offer t offered.Queued)
    (record (view (state c h)) {
      tasks = put t.0 (record (task_at (state c h) t.0) { place = at.Queued; second = true }) (task_at (state c h));
      queue = join_line (state c h).ranked (λ u. (task_at (state c h) u).priority) (Some t.0) (state c h).queue;
    }) 1 0
offer_queued c h t legal given =
    let d = did.Offer t offered.Queued in
    record {
      reads = reads_by (state c h) d refl
          (task_turned c h d legal given refl refl refl t.0 refl refl (record (task_at (state c h) t.0) { place = at.Queued; second = true }) (rw (eq-eqb t.0 t.0 refl) refl))
          (queue_more c h d refl refl (only (is_queued h) t.0 false (ap is_queued_place given.0.1)))
          (slots_kept c h d legal given refl refl refl refl)
          (done_same c h d legal given refl) refl;
      owes = owes_by c h d legal given refl 1 0 (offer_queued_falls c h t given (owes_none c h legal t.0 (ap is_waiting given.0.1)));
    }

offer_hand_falls : (c : Config) (h : List Entry) (t : TaskId) (w : SlotId) → Given c h (did.Offer t (offered.Hand w)) → owes_second h t.0 ≡ false → named_due h (did.Offer t (offered.Hand w)) h + 0 ≡ named_due h (did.Offer t (offered.Hand w)) (entry (did.Offer t (offered.Hand w)) ∷ h) + 1
offer_hand_falls c h t w given owes = grind (arith, nat_tests)

-- an offer that the worker takes which is idle longest
pub offer_hand : (c : Config) (h : List Entry) (t : TaskId) (w : SlotId) → Legal c h → Given c h (did.Offer t (offered.Hand w)) →
    Effect (state c h) (did.Offer t (offered.Hand w))
    (record (view (state c h)) {
      tasks = put t.0 (record (task_at (state c h) t.0) { place = at.Held w; second = true }) (task_at (state c h));
      slots = put w.0 (Some (works_on t)) (slot_at (state c h).slots);
      idling = drop 1 (state c h).idling;
    }) 1 0
offer_hand c h t w legal given =
    let d = did.Offer t (offered.Hand w) in
    record {
      reads = reads_by (state c h) d refl
          (task_turned c h d legal given refl refl refl t.0 refl refl (record (task_at (state c h) t.0) { place = at.Held w; second = true }) (rw (eq-eqb t.0 t.0 refl) refl))
          (queue_same c h d refl refl refl (only (is_queued h) t.0 false (ap is_queued_place given.0.1)))
          (slot_turned c h d legal given refl w.0 refl refl (slot_count (state c h)) (count_by is_live (state c h).slots) (state c h).largest (drop 1 (state c h).idling) (Some (idle_since given.3.0)) (Some (works_on t)) given.3.1 (rw (eq-eqb w.0 w.0 refl) refl) (λ e. omega arith) (λ e. omega arith) (λ m. omega arith) (idling_out c h d refl refl w.0 refl refl (Some (idle_since given.3.0)) (Some (works_on t)) given.3.1 (rw (eq-eqb w.0 w.0 refl) refl) refl ∙ without_head w.0 (idling h) given.2.0 (once-idling h) given.2.1))
          (done_same c h d legal given refl) refl;
      owes = owes_by c h d legal given refl 1 0 (offer_hand_falls c h t w given (owes_none c h legal t.0 (ap is_waiting given.0.1)));
    }

offer_full_falls : (c : Config) (h : List Entry) (t : TaskId) → Given c h (did.Offer t offered.Full) → named_due h (did.Offer t offered.Full) h + 0 ≡ named_due h (did.Offer t offered.Full) (entry (did.Offer t offered.Full) ∷ h) + 2
offer_full_falls c h t given = grind (arith, nat_tests)

-- an offer that the queue does not take
pub offer_full : (c : Config) (h : List Entry) (t : TaskId) → Legal c h → Given c h (did.Offer t offered.Full) →
    Effect (state c h) (did.Offer t offered.Full)
    (record (view (state c h)) {
      tasks = put t.0 (moved_to at.ToGrow (task_at (state c h) t.0)) (task_at (state c h));
    }) 2 0
offer_full c h t legal given =
    let d = did.Offer t offered.Full in
    record {
      reads = reads_by (state c h) d refl
          (task_turned c h d legal given refl refl refl t.0 refl refl (moved_to at.ToGrow (task_at (state c h) t.0)) (rw (eq-eqb t.0 t.0 refl) refl))
          (queue_same c h d refl refl refl (only (is_queued h) t.0 false (ap is_queued_place given.1)))
          (slots_kept c h d legal given refl refl refl refl)
          (done_same c h d legal given refl) refl;
      owes = owes_by c h d legal given refl 2 0 (offer_full_falls c h t given);
    }
