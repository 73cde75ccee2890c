-- A task that its submitter ends.
use Rattle.std.proofs.Common.{◌≡◌, ◌+◌, false, not, ◌&&◌, cond, List, [], ◌∷◌, ◌++◌, Some, None, refl, arith, ap}
use Rattle.std.specs.Prelude.{if◌then◌else◌}
use Rattle.std.proofs.lemmas.Bool.{eq-eqb}
use Rattle.std.proofs.lemmas.Bool.Decides.{nat_tests}
use Rattle.tp_types.specs.declared.configs.Config.{Config}
use Rattle.tp_types.specs.declared.ids.TaskId.{TaskId}
use Rattle.tp_types.specs.declared.tasks.Place.TheVariants as at
use Rattle.tp_types.specs.declared.tasks.Fate.TheVariants as fate
use Rattle.tp_record.specs.declared.entries.Entry.{Entry}
use Rattle.tp_record.specs.declared.entries.Did.TheVariants as did
use Rattle.tp_record.specs.Effects.{Outcome}
use Rattle.tp_record.specs.Fields.{is_queued, is_queued_place}
use Rattle.tp_record.specs.State.{state, task_at, fated, is_fate}
use Rattle.tp_record.specs.Step.{Legal, done_of, is_of_group}
use Rattle.tp_laws.proofs.Model.Given.{Given}
use Rattle.tp_laws.specs.View.{view, Effect, put}
use Rattle.tp_laws.proofs.Effects.Next.{entry}
use Rattle.tp_laws.proofs.Effects.Sums.{named_due}
use Rattle.tp_laws.proofs.Effects.Lists.{only, queue_same}
use Rattle.tp_laws.proofs.Effects.Done.{done_more}
use Rattle.tp_laws.proofs.Effects.Invariants.{is_gone}
use Rattle.tp_laws.proofs.Effects.Facts.{open_row, undone}
use Rattle.tp_laws.proofs.Effects.Shapes.{reads_by, owes_by, task_ended, slots_kept}

caller_end_falls : (c : Config) (h : List Entry) (t : TaskId) (o : Outcome) → Given c h (did.CallerEnd t o) → named_due h (did.CallerEnd t o) h + 0 ≡ named_due h (did.CallerEnd t o) (entry (did.CallerEnd t o) ∷ h) + 1
caller_end_falls c h t o given = grind (arith, nat_tests)

-- a task that its submitter ends
pub caller_end : (c : Config) (h : List Entry) (t : TaskId) (o : Outcome) → Legal c h → Given c h (did.CallerEnd t o) →
    Effect (state c h) (did.CallerEnd t o)
    (record (view (state c h)) {
      tasks = put t.0 (record (task_at (state c h) t.0) { place = at.Gone; ending = Some fate.RunByCaller; outcome = Some o }) (task_at (state c h));
      fates = λ f. fated f (state c h) + cond (is_fate f (if (task_at (state c h) t.0).cancelled then None else Some fate.RunByCaller)) 1 0;
      done = λ g. if is_of_group g (task_at (state c h) t.0).kind && not (task_at (state c h) t.0).cancelled then done_of (state c h) g ++ t.0 ∷ [] else done_of (state c h) g;
    }) 1 0
caller_end c h t o legal given =
    let d = did.CallerEnd t o in
    record {
      reads = reads_by (state c h) d refl
          (task_ended c h d legal given refl refl t.0 refl refl refl (record (task_at (state c h) t.0) { place = at.Gone; ending = Some fate.RunByCaller; outcome = Some o }) (rw (eq-eqb t.0 t.0 refl) refl) fate.RunByCaller (open_row c h legal t.0 (ap is_gone given.1)) refl refl)
          (queue_same c h d refl refl refl (only (is_queued h) t.0 false (ap is_queued_place given.1)))
          (slots_kept c h d legal given refl refl refl refl)
          (done_more c h d legal given refl refl t.0 (not (task_at (state c h) t.0).cancelled) refl (undone c h legal t.0 (ap is_gone given.1))) refl;
      owes = owes_by c h d legal given refl 1 0 (caller_end_falls c h t o given);
    }
