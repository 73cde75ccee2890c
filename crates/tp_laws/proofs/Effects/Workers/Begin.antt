-- A worker begins.
use Rattle.std.proofs.Common.{◌≡◌, suc, ◌+◌, false, List, ◌∷◌, Some, refl, arith, ap}
use Rattle.std.specs.Prelude.{◌==◌, count_by, if◌then◌else◌}
use Rattle.std.proofs.lemmas.Bool.{eq-eqb}
use Rattle.std.proofs.lemmas.Bool.Decides.{nat_tests}
use Rattle.tp_types.specs.declared.configs.Config.{Config}
use Rattle.tp_types.specs.declared.ids.TaskId.{TaskId}
use Rattle.tp_types.specs.declared.ids.SlotId.{SlotId}
use Rattle.tp_types.specs.declared.tasks.Place.TheVariants as at
use Rattle.tp_record.specs.declared.entries.Entry.{Entry}
use Rattle.tp_record.specs.declared.entries.Did.TheVariants as did
use Rattle.tp_record.specs.declared.entries.Started.TheVariants as started
use Rattle.tp_record.specs.Fields.{is_queued, is_queued_place, is_idle, is_idle_row, is_live}
use Rattle.tp_record.specs.State.{state, task_at, slot_at}
use Rattle.tp_record.specs.Step.{Legal, slot_count}
use Rattle.tp_laws.proofs.Model.Given.{Given}
use Rattle.tp_laws.specs.View.{view, Effect, put}
use Rattle.tp_laws.proofs.Effects.Rows.{moved_to, works_on, at_take}
use Rattle.tp_laws.proofs.Effects.Next.{entry}
use Rattle.tp_laws.proofs.Effects.Sums.{named_due}
use Rattle.tp_laws.proofs.Effects.Lists.{only, nothing, queue_same, idling_same}
use Rattle.tp_laws.proofs.Effects.Done.{done_same}
use Rattle.tp_laws.proofs.Effects.Shapes.{reads_by, owes_by, task_turned, slot_turned}

begin_run_falls : (c : Config) (h : List Entry) (w : SlotId) (t : TaskId) → Given c h (did.Begin w (started.Run t)) → named_due h (did.Begin w (started.Run t)) h + 0 ≡ named_due h (did.Begin w (started.Run t)) (entry (did.Begin w (started.Run t)) ∷ h) + 1
begin_run_falls c h w t given = grind (arith, nat_tests)

-- a worker begins its task
pub begin_run : (c : Config) (h : List Entry) (w : SlotId) (t : TaskId) → Legal c h → Given c h (did.Begin w (started.Run t)) →
    Effect (state c h) (did.Begin w (started.Run t))
    (record (view (state c h)) {
      tasks = put t.0 (moved_to (at.Running w) (task_at (state c h) t.0)) (task_at (state c h));
      slots = put w.0 (Some (works_on t)) (slot_at (state c h).slots);
    }) 1 0
begin_run c h w t legal given =
    let d = did.Begin w (started.Run t) in
    record {
      reads = reads_by (state c h) d refl
          (task_turned c h d legal given refl refl refl t.0 refl refl (moved_to (at.Running w) (task_at (state c h) t.0)) (rw (eq-eqb t.0 t.0 refl) refl))
          (queue_same c h d refl refl refl (only (is_queued h) t.0 false (ap is_queued_place given.1.1)))
          (slot_turned c h d legal given refl w.0 refl refl (slot_count (state c h)) (count_by is_live (state c h).slots) (state c h).largest (state c h).idling (Some (works_on t)) (Some (works_on t)) given.0 (rw (eq-eqb w.0 w.0 refl) refl) (λ e. omega arith) (λ e. omega arith) (λ m. omega arith) (idling_same c h d refl refl (only (is_idle h) w.0 false (ap is_idle_row given.0)) (λ v named. nothing v named)))
          (done_same c h d legal given refl) refl;
      owes = owes_by c h d legal given refl 1 0 (begin_run_falls c h w t given);
    }

begin_skip_falls : (c : Config) (h : List Entry) (w : SlotId) (t : TaskId) → Given c h (did.Begin w (started.Skip t)) → named_due h (did.Begin w (started.Skip t)) h + (if (state c h).rank == 0 then 2 else 1) ≡ named_due h (did.Begin w (started.Skip t)) (entry (did.Begin w (started.Skip t)) ∷ h) + 6
begin_skip_falls c h w t given = grind (arith, nat_tests)

-- a worker skips its cancelled task
pub begin_skip : (c : Config) (h : List Entry) (w : SlotId) (t : TaskId) → Legal c h → Given c h (did.Begin w (started.Skip t)) →
    Effect (state c h) (did.Begin w (started.Skip t))
    (record (view (state c h)) {
      tasks = put t.0 (moved_to at.Gone (task_at (state c h) t.0)) (task_at (state c h));
      slots = put w.0 (Some at_take) (slot_at (state c h).slots);
      completions = suc (state c h).completions;
    }) 6 (if (state c h).rank == 0 then 2 else 1)
begin_skip c h w t legal given =
    let d = did.Begin w (started.Skip t) in
    record {
      reads = reads_by (state c h) d refl
          (task_turned c h d legal given refl refl refl t.0 refl refl (moved_to at.Gone (task_at (state c h) t.0)) (rw (eq-eqb t.0 t.0 refl) refl))
          (queue_same c h d refl refl refl (only (is_queued h) t.0 false (ap is_queued_place given.1.1)))
          (slot_turned c h d legal given refl w.0 refl refl (slot_count (state c h)) (count_by is_live (state c h).slots) (state c h).largest (state c h).idling (Some (works_on t)) (Some at_take) given.0 (rw (eq-eqb w.0 w.0 refl) refl) (λ e. omega arith) (λ e. omega arith) (λ m. omega arith) (idling_same c h d refl refl (only (is_idle h) w.0 false (ap is_idle_row given.0)) (λ v named. nothing v named)))
          (done_same c h d legal given refl) refl;
      owes = owes_by c h d legal given refl 6 (if (state c h).rank == 0 then 2 else 1) (begin_skip_falls c h w t given);
    }
