-- A removal.
use Rattle.std.proofs.Common.{◌≡◌, ◌+◌, true, false, cond, List, ◌∷◌, Some, None, refl, arith, ap}
use Rattle.std.specs.Prelude.{if◌then◌else◌}
use Rattle.std.proofs.lemmas.Bool.{eq-eqb, ne_eqb}
use Rattle.std.proofs.lemmas.Bool.Decides.{nat_tests}
use Rattle.tp_types.specs.declared.configs.Config.{Config}
use Rattle.tp_types.specs.declared.ids.TaskId.{TaskId}
use Rattle.tp_types.specs.declared.tasks.Place.TheVariants as at
use Rattle.tp_types.specs.declared.tasks.Fate.TheVariants as fate
use Rattle.tp_record.specs.declared.entries.Entry.{Entry}
use Rattle.tp_record.specs.declared.entries.Did.TheVariants as did
use Rattle.tp_record.specs.Lists.{without}
use Rattle.tp_record.specs.State.{state, task_at, fated, is_fate}
use Rattle.tp_record.specs.Step.{Legal}
use Rattle.tp_laws.proofs.Model.Given.{Given}
use Rattle.tp_laws.specs.View.{view, Effect, put}
use Rattle.tp_laws.proofs.Effects.Next.{entry}
use Rattle.tp_laws.proofs.Effects.Sums.{named_due}
use Rattle.tp_laws.proofs.Effects.Lists.{queue_still, queue_less}
use Rattle.tp_laws.proofs.Effects.Done.{done_same}
use Rattle.tp_laws.proofs.Effects.Invariants.{is_gone}
use Rattle.tp_laws.proofs.Effects.Facts.{open_row}
use Rattle.tp_laws.proofs.Effects.Shapes.{reads_by, owes_by, tasks_kept, task_ended, slots_kept}

remove_falls : (c : Config) (h : List Entry) (t : TaskId) → Given c h (did.Remove t true) → named_due h (did.Remove t true) h + 0 ≡ named_due h (did.Remove t true) (entry (did.Remove t true) ∷ h) + 6
remove_falls c h t given = grind (arith, nat_tests)

-- a queued task is removed
pub remove : (c : Config) (h : List Entry) (t : TaskId) → Legal c h → Given c h (did.Remove t true) →
    Effect (state c h) (did.Remove t true)
    (record (view (state c h)) {
      tasks = put t.0 (record (task_at (state c h) t.0) { place = at.Gone; ending = Some fate.Removed }) (task_at (state c h));
      fates = λ f. fated f (state c h) + cond (is_fate f (if (task_at (state c h) t.0).cancelled then None else Some fate.Removed)) 1 0;
      queue = without t.0 (state c h).queue;
    }) 6 0
remove c h t legal given =
    let d = did.Remove t true in
    record {
      reads = reads_by (state c h) d refl
          (task_ended c h d legal given refl refl t.0 refl refl refl (record (task_at (state c h) t.0) { place = at.Gone; ending = Some fate.Removed }) (rw (eq-eqb t.0 t.0 refl) refl) fate.Removed (open_row c h legal t.0 (ap is_gone given.1)) refl refl)
          (queue_less c h d refl refl t.0 (rw (eq-eqb t.0 t.0 refl) refl) (λ u is ne. (ne_eqb u t.0 ne, refl)))
          (slots_kept c h d legal given refl refl refl refl)
          (done_same c h d legal given refl) refl;
      owes = owes_by c h d legal given refl 6 0 (remove_falls c h t given);
    }

remove_absent_falls : (c : Config) (h : List Entry) (t : TaskId) → Given c h (did.Remove t false) → named_due h (did.Remove t false) h + 0 ≡ named_due h (did.Remove t false) (entry (did.Remove t false) ∷ h) + 0
remove_absent_falls c h t given = grind (arith, nat_tests)

-- a task that is not queued is not removed
pub remove_absent : (c : Config) (h : List Entry) (t : TaskId) → Legal c h → Given c h (did.Remove t false) →
    Effect (state c h) (did.Remove t false)
    (view (state c h)) 0 0
remove_absent c h t legal given =
    let d = did.Remove t false in
    record {
      reads = reads_by (state c h) d refl
          (tasks_kept c h d legal given refl refl refl refl refl)
          (queue_still c h d refl refl refl)
          (slots_kept c h d legal given refl refl refl refl)
          (done_same c h d legal given refl) refl;
      owes = owes_by c h d legal given refl 0 0 (remove_absent_falls c h t given);
    }
