-- A completion of a group is taken.
use Rattle.std.proofs.Common.{◌≡◌, ℕ, ◌+◌, List, ◌∷◌, refl, arith}
use Rattle.std.specs.Prelude.{◌==◌, drop, if◌then◌else◌}
use Rattle.std.proofs.lemmas.Bool.Decides.{nat_tests}
use Rattle.tp_types.specs.declared.configs.Config.{Config}
use Rattle.tp_types.specs.declared.ids.TaskId.{TaskId}
use Rattle.tp_record.specs.declared.entries.Entry.{Entry}
use Rattle.tp_record.specs.declared.entries.Did.TheVariants as did
use Rattle.tp_record.specs.State.{state}
use Rattle.tp_record.specs.Step.{Legal, done_of}
use Rattle.tp_laws.proofs.Model.Given.{Given}
use Rattle.tp_laws.specs.View.{view, Effect}
use Rattle.tp_laws.proofs.Effects.Next.{entry}
use Rattle.tp_laws.proofs.Effects.Sums.{named_due}
use Rattle.tp_laws.proofs.Effects.Lists.{queue_still}
use Rattle.tp_laws.proofs.Effects.Done.{done_taken}
use Rattle.tp_laws.proofs.Effects.Shapes.{reads_by, owes_by, tasks_kept, slots_kept}

take_done_falls : (c : Config) (h : List Entry) (n : ℕ) (t : TaskId) → Given c h (did.TakeDone n t) → named_due h (did.TakeDone n t) h + 0 ≡ named_due h (did.TakeDone n t) (entry (did.TakeDone n t) ∷ h) + 0
take_done_falls c h n t given = grind (arith, nat_tests)

-- a completion is handed out
pub take_done : (c : Config) (h : List Entry) (n : ℕ) (t : TaskId) → Legal c h → Given c h (did.TakeDone n t) →
    Effect (state c h) (did.TakeDone n t)
    (record (view (state c h)) {
      done = λ g. if g == n then drop 1 (done_of (state c h) g) else done_of (state c h) g;
    }) 0 0
take_done c h n t legal given =
    let d = did.TakeDone n t in
    record {
      reads = reads_by (state c h) d refl
          (tasks_kept c h d legal given refl refl refl refl refl)
          (queue_still c h d refl refl refl)
          (slots_kept c h d legal given refl refl refl refl)
          (done_taken c h n t legal given) refl;
      owes = owes_by c h d legal given refl 0 0 (take_done_falls c h n t given);
    }
