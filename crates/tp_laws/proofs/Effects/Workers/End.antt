-- A worker ends its task.
use Rattle.std.proofs.Common.{◌≡◌, suc, ◌+◌, true, false, not, ◌&&◌, cond, List, [], ◌∷◌, ◌++◌, Some, None, refl, arith, ap, ◌∙◌}
use Rattle.std.specs.Prelude.{◌==◌, count_by, if◌then◌else◌}
use Rattle.std.proofs.lemmas.Bool.{eq-eqb}
use Rattle.std.proofs.lemmas.Bool.Decides.{nat_tests}
use Rattle.tp_types.specs.declared.configs.Config.{Config}
use Rattle.tp_types.specs.declared.ids.TaskId.{TaskId}
use Rattle.tp_types.specs.declared.ids.SlotId.{SlotId}
use Rattle.tp_types.specs.declared.tasks.Place.TheVariants as at
use Rattle.tp_types.specs.declared.tasks.Fate.TheVariants as fate
use Rattle.tp_record.specs.declared.entries.Entry.{Entry}
use Rattle.tp_record.specs.declared.entries.Did.TheVariants as did
use Rattle.tp_record.specs.Effects.{Outcome, is_plain_fault}
use Rattle.tp_record.specs.Fields.{kind, is_queued, is_queued_place, is_idle, is_idle_row, is_live}
use Rattle.tp_record.specs.State.{state, task_at, slot_at, fated, is_fate}
use Rattle.tp_record.specs.Step.{Legal, slot_count, done_of, is_of_group}
use Rattle.tp_laws.proofs.Model.Given.{Given}
use Rattle.tp_laws.specs.View.{view, Effect, put}
use Rattle.tp_laws.proofs.Effects.Rows.{works_on, at_take, dying}
use Rattle.tp_laws.proofs.Effects.Next.{entry}
use Rattle.tp_laws.proofs.Effects.Sums.{named_due}
use Rattle.tp_laws.proofs.Effects.Lists.{only, nothing, queue_same, idling_same}
use Rattle.tp_laws.proofs.Effects.Done.{done_more}
use Rattle.tp_laws.proofs.Effects.Invariants.{is_gone}
use Rattle.tp_laws.proofs.Effects.Facts.{open_row, undone, faults_read}
use Rattle.tp_laws.proofs.Effects.Shapes.{reads_by, owes_by, task_ended, slot_turned}

end_works_falls : (c : Config) (h : List Entry) (w : SlotId) (t : TaskId) (o : Outcome) → Given c h (did.End w t o) → is_plain_fault (did.End w t o) (kind h) ≡ false → named_due h (did.End w t o) h + (if (state c h).rank == 0 then 2 else 1) ≡ named_due h (did.End w t o) (entry (did.End w t o) ∷ h) + 5
end_works_falls c h w t o given faults = grind (arith, nat_tests)

-- a worker ends its task, and is about to take
pub end_works : (c : Config) (h : List Entry) (w : SlotId) (t : TaskId) (o : Outcome) → Legal c h → Given c h (did.End w t o) → is_plain_fault (did.End w t o) (λ x. (task_at (state c h) x).kind) ≡ false →
    Effect (state c h) (did.End w t o)
    (record (view (state c h)) {
      tasks = put t.0 (record (task_at (state c h) t.0) { place = at.Gone; ending = Some fate.Run; outcome = Some o }) (task_at (state c h));
      fates = λ f. fated f (state c h) + cond (is_fate f (if (task_at (state c h) t.0).cancelled then None else Some fate.Run)) 1 0;
      slots = put w.0 (Some at_take) (slot_at (state c h).slots);
      done = λ g. if is_of_group g (task_at (state c h) t.0).kind && not (task_at (state c h) t.0).cancelled then done_of (state c h) g ++ t.0 ∷ [] else done_of (state c h) g;
      completions = suc (state c h).completions;
    }) 5 (if (state c h).rank == 0 then 2 else 1)
end_works c h w t o legal given faults =
    let d = did.End w t o in
    record {
      reads = reads_by (state c h) d refl
          (task_ended c h d legal given refl refl t.0 refl refl refl (record (task_at (state c h) t.0) { place = at.Gone; ending = Some fate.Run; outcome = Some o }) (rw (eq-eqb t.0 t.0 refl) refl) fate.Run (open_row c h legal t.0 (ap is_gone given.1.1)) refl refl)
          (queue_same c h d refl refl refl (only (is_queued h) t.0 false (ap is_queued_place given.1.1)))
          (slot_turned c h d legal given refl w.0 refl refl (slot_count (state c h)) (count_by is_live (state c h).slots) (state c h).largest (state c h).idling (Some (works_on t)) (Some at_take) given.0 (rw (eq-eqb w.0 w.0 refl, faults) refl) (λ e. omega arith) (λ e. omega arith) (λ m. omega arith) (idling_same c h d refl refl (only (is_idle h) w.0 false (ap is_idle_row given.0)) (λ v named. nothing v named)))
          (done_more c h d legal given refl refl t.0 (not (task_at (state c h) t.0).cancelled) refl (undone c h legal t.0 (ap is_gone given.1.1))) refl;
      owes = owes_by c h d legal given refl 5 (if (state c h).rank == 0 then 2 else 1) (end_works_falls c h w t o given (faults_read c h legal (did.End w t o) ∙ faults));
    }

end_dies_falls : (c : Config) (h : List Entry) (w : SlotId) (t : TaskId) (o : Outcome) → Given c h (did.End w t o) → is_plain_fault (did.End w t o) (kind h) ≡ true → named_due h (did.End w t o) h + 4 ≡ named_due h (did.End w t o) (entry (did.End w t o) ∷ h) + 5
end_dies_falls c h w t o given faults = grind (arith, nat_tests)

-- a worker ends a plain task with a fault, and is about to leave
pub end_dies : (c : Config) (h : List Entry) (w : SlotId) (t : TaskId) (o : Outcome) → Legal c h → Given c h (did.End w t o) → is_plain_fault (did.End w t o) (λ x. (task_at (state c h) x).kind) ≡ true →
    Effect (state c h) (did.End w t o)
    (record (view (state c h)) {
      tasks = put t.0 (record (task_at (state c h) t.0) { place = at.Gone; ending = Some fate.Run; outcome = Some o }) (task_at (state c h));
      fates = λ f. fated f (state c h) + cond (is_fate f (if (task_at (state c h) t.0).cancelled then None else Some fate.Run)) 1 0;
      slots = put w.0 (Some dying) (slot_at (state c h).slots);
      done = λ g. if is_of_group g (task_at (state c h) t.0).kind && not (task_at (state c h) t.0).cancelled then done_of (state c h) g ++ t.0 ∷ [] else done_of (state c h) g;
      completions = suc (state c h).completions;
    }) 5 4
end_dies c h w t o legal given faults =
    let d = did.End w t o in
    record {
      reads = reads_by (state c h) d refl
          (task_ended c h d legal given refl refl t.0 refl refl refl (record (task_at (state c h) t.0) { place = at.Gone; ending = Some fate.Run; outcome = Some o }) (rw (eq-eqb t.0 t.0 refl) refl) fate.Run (open_row c h legal t.0 (ap is_gone given.1.1)) refl refl)
          (queue_same c h d refl refl refl (only (is_queued h) t.0 false (ap is_queued_place given.1.1)))
          (slot_turned c h d legal given refl w.0 refl refl (slot_count (state c h)) (count_by is_live (state c h).slots) (state c h).largest (state c h).idling (Some (works_on t)) (Some dying) given.0 (rw (eq-eqb w.0 w.0 refl, faults) refl) (λ e. omega arith) (λ e. omega arith) (λ m. omega arith) (idling_same c h d refl refl (only (is_idle h) w.0 false (ap is_idle_row given.0)) (λ v named. nothing v named)))
          (done_more c h d legal given refl refl t.0 (not (task_at (state c h) t.0).cancelled) refl (undone c h legal t.0 (ap is_gone given.1.1))) refl;
      owes = owes_by c h d legal given refl 5 4 (end_dies_falls c h w t o given (faults_read c h legal (did.End w t o) ∙ faults));
    }
