-- A submission.
use Rattle.std.proofs.Common.{ℕ, ◌≡◌, suc, ◌+◌, false, List, ◌∷◌, length, Some, None, refl, arith, ap}
use Rattle.std.specs.Prelude.{count_by}
use Rattle.std.proofs.lemmas.Bool.{eq-eqb}
use Rattle.std.proofs.lemmas.Bool.Decides.{nat_tests}
use Rattle.tp_types.specs.declared.configs.Config.{Config}
use Rattle.tp_types.specs.declared.ids.TaskId.{TaskId}
use Rattle.tp_types.specs.declared.ids.SlotId.{SlotId}
use Rattle.tp_types.specs.declared.tasks.Kind.{Kind}
use Rattle.tp_types.specs.declared.tasks.Place.TheVariants as at
use Rattle.tp_record.specs.declared.entries.Entry.{Entry}
use Rattle.tp_record.specs.declared.entries.Did.TheVariants as did
use Rattle.tp_record.specs.declared.entries.Looked.TheVariants as looked
use Rattle.tp_record.specs.Fields.{place, owes_second, is_queued, is_queued_place, is_idle, is_idle_row, is_live}
use Rattle.tp_record.specs.State.{state, task_at, slot_at}
use Rattle.tp_record.specs.Step.{Legal, slot_count}
use Rattle.tp_laws.proofs.Model.Given.{Given}
use Rattle.tp_laws.specs.View.{view, Effect, put}
use Rattle.tp_laws.proofs.Effects.Rows.{new_row, for_core}
use Rattle.tp_laws.proofs.Effects.Next.{entry}
use Rattle.tp_laws.proofs.Effects.Sums.{named_due}
use Rattle.tp_laws.proofs.Effects.Lists.{only, nothing, queue_same, idling_same}
use Rattle.tp_laws.proofs.Effects.Done.{done_submit}
use Rattle.tp_laws.proofs.Effects.Facts.{new_gone, new_unowing}
use Rattle.tp_laws.proofs.Effects.Shapes.{reads_by, owes_by, task_new, slots_kept, slot_turned}

submit_reserve_falls : (c : Config) (h : List Entry) (t : TaskId) (k : Kind) (p : ℕ) (w : SlotId) → Given c h (did.Submit t k p (looked.Reserve w)) → place h t.0 ≡ at.Gone → owes_second h t.0 ≡ false → named_due h (did.Submit t k p (looked.Reserve w)) h + 12 ≡ named_due h (did.Submit t k p (looked.Reserve w)) (entry (did.Submit t k p (looked.Reserve w)) ∷ h) + 0
submit_reserve_falls c h t k p w given gone owes = grind (arith, nat_tests)

-- a submission that reserves a slot for the core
pub submit_reserve : (c : Config) (h : List Entry) (t : TaskId) (k : Kind) (p : ℕ) (w : SlotId) → Legal c h → Given c h (did.Submit t k p (looked.Reserve w)) →
    Effect (state c h) (did.Submit t k p (looked.Reserve w))
    (record (view (state c h)) {
      submitted = suc (length (state c h).tasks);
      tasks = put t.0 (new_row k p (at.Held w)) (task_at (state c h));
      slots = put w.0 (Some (for_core t)) (slot_at (state c h).slots);
      taken = suc (slot_count (state c h));
    }) 0 12
submit_reserve c h t k p w legal given =
    let d = did.Submit t k p (looked.Reserve w) in
    record {
      reads = reads_by (state c h) d refl
          (task_new c h d legal given refl t.0 refl refl refl refl given.0 (new_row k p (at.Held w)) (rw (eq-eqb t.0 t.0 refl) refl) refl)
          (queue_same c h d refl refl refl (only (is_queued h) t.0 false (ap is_queued_place (new_gone c h legal t.0 given.0))))
          (slot_turned c h d legal given refl w.0 refl refl (suc (slot_count (state c h))) (count_by is_live (state c h).slots) (state c h).largest (state c h).idling None (Some (for_core t)) given.1.2 (rw (eq-eqb w.0 w.0 refl) refl) (λ e. omega arith) (λ e. omega arith) (λ m. omega arith) (idling_same c h d refl refl (only (is_idle h) w.0 false (ap is_idle_row given.1.2)) (λ v named. nothing v named)))
          (done_submit c h t k p (looked.Reserve w) legal given) refl;
      owes = owes_by c h d legal given refl 0 12 (submit_reserve_falls c h t k p w given (new_gone c h legal t.0 given.0) (new_unowing c h legal t.0 given.0));
    }

submit_queue_falls : (c : Config) (h : List Entry) (t : TaskId) (k : Kind) (p : ℕ) → Given c h (did.Submit t k p looked.Queue) → place h t.0 ≡ at.Gone → owes_second h t.0 ≡ false → named_due h (did.Submit t k p looked.Queue) h + 11 ≡ named_due h (did.Submit t k p looked.Queue) (entry (did.Submit t k p looked.Queue) ∷ h) + 0
submit_queue_falls c h t k p given gone owes = grind (arith, nat_tests)

-- a submission that is to be offered
pub submit_queue : (c : Config) (h : List Entry) (t : TaskId) (k : Kind) (p : ℕ) → Legal c h → Given c h (did.Submit t k p looked.Queue) →
    Effect (state c h) (did.Submit t k p looked.Queue)
    (record (view (state c h)) {
      submitted = suc (length (state c h).tasks);
      tasks = put t.0 (new_row k p at.ToOffer) (task_at (state c h));
    }) 0 11
submit_queue c h t k p legal given =
    let d = did.Submit t k p looked.Queue in
    record {
      reads = reads_by (state c h) d refl
          (task_new c h d legal given refl t.0 refl refl refl refl given.0 (new_row k p at.ToOffer) (rw (eq-eqb t.0 t.0 refl) refl) refl)
          (queue_same c h d refl refl refl (only (is_queued h) t.0 false (ap is_queued_place (new_gone c h legal t.0 given.0))))
          (slots_kept c h d legal given refl refl refl refl)
          (done_submit c h t k p looked.Queue legal given) refl;
      owes = owes_by c h d legal given refl 0 11 (submit_queue_falls c h t k p given (new_gone c h legal t.0 given.0) (new_unowing c h legal t.0 given.0));
    }

submit_refuse_falls : (c : Config) (h : List Entry) (t : TaskId) (k : Kind) (p : ℕ) → Given c h (did.Submit t k p looked.Refuse) → place h t.0 ≡ at.Gone → owes_second h t.0 ≡ false → named_due h (did.Submit t k p looked.Refuse) h + 2 ≡ named_due h (did.Submit t k p looked.Refuse) (entry (did.Submit t k p looked.Refuse) ∷ h) + 0
submit_refuse_falls c h t k p given gone owes = grind (arith, nat_tests)

-- a submission that is refused
pub submit_refuse : (c : Config) (h : List Entry) (t : TaskId) (k : Kind) (p : ℕ) → Legal c h → Given c h (did.Submit t k p looked.Refuse) →
    Effect (state c h) (did.Submit t k p looked.Refuse)
    (record (view (state c h)) {
      submitted = suc (length (state c h).tasks);
      tasks = put t.0 (new_row k p at.Refused) (task_at (state c h));
    }) 0 2
submit_refuse c h t k p legal given =
    let d = did.Submit t k p looked.Refuse in
    record {
      reads = reads_by (state c h) d refl
          (task_new c h d legal given refl t.0 refl refl refl refl given.0 (new_row k p at.Refused) (rw (eq-eqb t.0 t.0 refl) refl) refl)
          (queue_same c h d refl refl refl (only (is_queued h) t.0 false (ap is_queued_place (new_gone c h legal t.0 given.0))))
          (slots_kept c h d legal given refl refl refl refl)
          (done_submit c h t k p looked.Refuse legal given) refl;
      owes = owes_by c h d legal given refl 0 2 (submit_refuse_falls c h t k p given (new_gone c h legal t.0 given.0) (new_unowing c h legal t.0 given.0));
    }
