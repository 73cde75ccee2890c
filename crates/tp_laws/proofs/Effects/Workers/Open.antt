-- The factory made a worker.
use Rattle.std.proofs.Common.{◌≡◌, suc, ◌+◌, ◌-◌, max, false, List, ◌∷◌, Some, None, refl, arith, ap, inl, inr}
use Rattle.std.specs.Prelude.{◌==◌, count_by, if◌then◌else◌}
use Rattle.std.proofs.lemmas.Bool.{eq-eqb}
use Rattle.std.proofs.lemmas.Bool.Decides.{nat_tests}
use Rattle.tp_types.specs.declared.configs.Config.{Config}
use Rattle.tp_types.specs.declared.ids.TaskId.{TaskId}
use Rattle.tp_types.specs.declared.ids.SlotId.{SlotId}
use Rattle.tp_types.specs.declared.tasks.Place.TheVariants as at
use Rattle.tp_record.specs.declared.entries.Entry.{Entry}
use Rattle.tp_record.specs.declared.entries.Did.TheVariants as did
use Rattle.tp_record.specs.declared.entries.Opened.TheVariants as opened
use Rattle.tp_record.specs.Fields.{place, slot_row, is_queued, is_queued_place, is_idle, is_idle_row, is_live}
use Rattle.tp_record.specs.State.{state, task_at, slot_at}
use Rattle.tp_record.specs.Step.{Legal, slot_count}
use Rattle.tp_laws.proofs.Model.Given.{Given}
use Rattle.tp_laws.proofs.Model.Places.{reserved_holds}
use Rattle.tp_laws.specs.View.{view, Effect, put}
use Rattle.tp_laws.proofs.Effects.Rows.{moved_to, works_on, at_take, for_core, for_maximum, bare}
use Rattle.tp_laws.proofs.Effects.Next.{entry}
use Rattle.tp_laws.proofs.Effects.Sums.{named_due}
use Rattle.tp_laws.proofs.Effects.Lists.{only, nothing, slot_is, queue_same, idling_same}
use Rattle.tp_laws.proofs.Effects.Done.{done_same}
use Rattle.tp_laws.proofs.Effects.Shapes.{reads_by, owes_by, tasks_kept, task_turned, slot_turned}

open_bare_falls : (c : Config) (h : List Entry) (w : SlotId) → Given c h (did.Open w opened.Live) → slot_row h w.0 ≡ Some bare → named_due h (did.Open w opened.Live) h + (if (state c h).rank == 0 then 2 else 1) ≡ named_due h (did.Open w opened.Live) (entry (did.Open w opened.Live) ∷ h) + 3
open_bare_falls c h w given seat = grind (arith, nat_tests)

-- a bare slot becomes live
pub open_bare : (c : Config) (h : List Entry) (w : SlotId) → Legal c h → Given c h (did.Open w opened.Live) → slot_at (state c h).slots w.0 ≡ Some bare →
    Effect (state c h) (did.Open w opened.Live)
    (record (view (state c h)) {
      slots = put w.0 (Some at_take) (slot_at (state c h).slots);
      live = suc (count_by is_live (state c h).slots);
      largest = max (suc (count_by is_live (state c h).slots)) (state c h).largest;
    }) 3 (if (state c h).rank == 0 then 2 else 1)
open_bare c h w legal given seat =
    let d = did.Open w opened.Live in
    record {
      reads = reads_by (state c h) d refl
          (tasks_kept c h d legal given refl refl refl refl refl)
          (queue_same c h d refl refl refl (λ u named. nothing u named))
          (slot_turned c h d legal given refl w.0 refl refl (slot_count (state c h)) (suc (count_by is_live (state c h).slots)) (max (suc (count_by is_live (state c h).slots)) (state c h).largest) (state c h).idling (Some bare) (Some at_take) (slot_is c h w.0 (Some bare) seat) (rw (eq-eqb w.0 w.0 refl) refl) (λ e. omega arith) (λ e. omega arith) (λ m. refl) (idling_same c h d refl refl (only (is_idle h) w.0 false (ap is_idle_row (slot_is c h w.0 (Some bare) seat))) (λ v named. nothing v named)))
          (done_same c h d legal given refl) refl;
      owes = owes_by c h d legal given refl 3 (if (state c h).rank == 0 then 2 else 1) (open_bare_falls c h w given (slot_is c h w.0 (Some bare) seat));
    }

open_core_falls : (c : Config) (h : List Entry) (w : SlotId) (t : TaskId) → Given c h (did.Open w opened.Live) → slot_row h w.0 ≡ Some (for_core t) → place h t.0 ≡ at.Held w → named_due h (did.Open w opened.Live) h + 0 ≡ named_due h (did.Open w opened.Live) (entry (did.Open w opened.Live) ∷ h) + 5
open_core_falls c h w t given seat held = grind (arith, nat_tests)

-- a slot of the core becomes live, with its task
pub open_core : (c : Config) (h : List Entry) (w : SlotId) (t : TaskId) → Legal c h → Given c h (did.Open w opened.Live) → slot_at (state c h).slots w.0 ≡ Some (for_core t) →
    Effect (state c h) (did.Open w opened.Live)
    (record (view (state c h)) {
      slots = put w.0 (Some (works_on t)) (slot_at (state c h).slots);
      live = suc (count_by is_live (state c h).slots);
      largest = max (suc (count_by is_live (state c h).slots)) (state c h).largest;
    }) 5 0
open_core c h w t legal given seat =
    let d = did.Open w opened.Live in
    record {
      reads = reads_by (state c h) d refl
          (tasks_kept c h d legal given refl refl refl refl refl)
          (queue_same c h d refl refl refl (λ u named. nothing u named))
          (slot_turned c h d legal given refl w.0 refl refl (slot_count (state c h)) (suc (count_by is_live (state c h).slots)) (max (suc (count_by is_live (state c h).slots)) (state c h).largest) (state c h).idling (Some (for_core t)) (Some (works_on t)) (slot_is c h w.0 (Some (for_core t)) seat) (rw (eq-eqb w.0 w.0 refl) refl) (λ e. omega arith) (λ e. omega arith) (λ m. refl) (idling_same c h d refl refl (only (is_idle h) w.0 false (ap is_idle_row (slot_is c h w.0 (Some (for_core t)) seat))) (λ v named. nothing v named)))
          (done_same c h d legal given refl) refl;
      owes = owes_by c h d legal given refl 5 0 (open_core_falls c h w t given (slot_is c h w.0 (Some (for_core t)) seat) (reserved_holds c h legal w t (inl (slot_is c h w.0 (Some (for_core t)) seat))).1);
    }

open_maximum_falls : (c : Config) (h : List Entry) (w : SlotId) (t : TaskId) → Given c h (did.Open w opened.Live) → slot_row h w.0 ≡ Some (for_maximum t) → place h t.0 ≡ at.Held w → named_due h (did.Open w opened.Live) h + 0 ≡ named_due h (did.Open w opened.Live) (entry (did.Open w opened.Live) ∷ h) + 1
open_maximum_falls c h w t given seat held = grind (arith, nat_tests)

-- a slot up to the maximum becomes live, with its task
pub open_maximum : (c : Config) (h : List Entry) (w : SlotId) (t : TaskId) → Legal c h → Given c h (did.Open w opened.Live) → slot_at (state c h).slots w.0 ≡ Some (for_maximum t) →
    Effect (state c h) (did.Open w opened.Live)
    (record (view (state c h)) {
      slots = put w.0 (Some (works_on t)) (slot_at (state c h).slots);
      live = suc (count_by is_live (state c h).slots);
      largest = max (suc (count_by is_live (state c h).slots)) (state c h).largest;
    }) 1 0
open_maximum c h w t legal given seat =
    let d = did.Open w opened.Live in
    record {
      reads = reads_by (state c h) d refl
          (tasks_kept c h d legal given refl refl refl refl refl)
          (queue_same c h d refl refl refl (λ u named. nothing u named))
          (slot_turned c h d legal given refl w.0 refl refl (slot_count (state c h)) (suc (count_by is_live (state c h).slots)) (max (suc (count_by is_live (state c h).slots)) (state c h).largest) (state c h).idling (Some (for_maximum t)) (Some (works_on t)) (slot_is c h w.0 (Some (for_maximum t)) seat) (rw (eq-eqb w.0 w.0 refl) refl) (λ e. omega arith) (λ e. omega arith) (λ m. refl) (idling_same c h d refl refl (only (is_idle h) w.0 false (ap is_idle_row (slot_is c h w.0 (Some (for_maximum t)) seat))) (λ v named. nothing v named)))
          (done_same c h d legal given refl) refl;
      owes = owes_by c h d legal given refl 1 0 (open_maximum_falls c h w t given (slot_is c h w.0 (Some (for_maximum t)) seat) (reserved_holds c h legal w t (inr (slot_is c h w.0 (Some (for_maximum t)) seat))).1);
    }

open_given_up_falls : (c : Config) (h : List Entry) (w : SlotId) → Given c h (did.Open w opened.GivenUp) → named_due h (did.Open w opened.GivenUp) h + 0 ≡ named_due h (did.Open w opened.GivenUp) (entry (did.Open w opened.GivenUp) ∷ h) + 3
open_given_up_falls c h w given = grind (arith, nat_tests)

-- a bare slot is given up
pub open_given_up : (c : Config) (h : List Entry) (w : SlotId) → Legal c h → Given c h (did.Open w opened.GivenUp) →
    Effect (state c h) (did.Open w opened.GivenUp)
    (record (view (state c h)) {
      slots = put w.0 None (slot_at (state c h).slots);
      taken = slot_count (state c h) - 1;
    }) 3 0
open_given_up c h w legal given =
    let d = did.Open w opened.GivenUp in
    record {
      reads = reads_by (state c h) d refl
          (tasks_kept c h d legal given refl refl refl refl refl)
          (queue_same c h d refl refl refl (λ u named. nothing u named))
          (slot_turned c h d legal given refl w.0 refl refl (slot_count (state c h) - 1) (count_by is_live (state c h).slots) (state c h).largest (state c h).idling (Some bare) None given.0 (rw (eq-eqb w.0 w.0 refl) refl) (λ e. omega arith) (λ e. omega arith) (λ m. omega arith) (idling_same c h d refl refl (only (is_idle h) w.0 false (ap is_idle_row given.0)) (λ v named. nothing v named)))
          (done_same c h d legal given refl) refl;
      owes = owes_by c h d legal given refl 3 0 (open_given_up_falls c h w given);
    }

open_refuse_core_falls : (c : Config) (h : List Entry) (w : SlotId) (t : TaskId) → Given c h (did.Open w (opened.GivenUpRefuse t)) → slot_row h w.0 ≡ Some (for_core t) → named_due h (did.Open w (opened.GivenUpRefuse t)) h + 0 ≡ named_due h (did.Open w (opened.GivenUpRefuse t)) (entry (did.Open w (opened.GivenUpRefuse t)) ∷ h) + 10
open_refuse_core_falls c h w t given seat = grind (arith, nat_tests)

-- a slot of the core is given up, and its task refused
pub open_refuse_core : (c : Config) (h : List Entry) (w : SlotId) (t : TaskId) → Legal c h → Given c h (did.Open w (opened.GivenUpRefuse t)) → slot_at (state c h).slots w.0 ≡ Some (for_core t) →
    Effect (state c h) (did.Open w (opened.GivenUpRefuse t))
    (record (view (state c h)) {
      tasks = put t.0 (moved_to at.Refused (task_at (state c h) t.0)) (task_at (state c h));
      slots = put w.0 None (slot_at (state c h).slots);
      taken = slot_count (state c h) - 1;
    }) 10 0
open_refuse_core c h w t legal given seat =
    let d = did.Open w (opened.GivenUpRefuse t) in
    record {
      reads = reads_by (state c h) d refl
          (task_turned c h d legal given refl refl refl t.0 refl refl (moved_to at.Refused (task_at (state c h) t.0)) (rw (eq-eqb t.0 t.0 refl) refl))
          (queue_same c h d refl refl refl (only (is_queued h) t.0 false (ap is_queued_place given.1.1)))
          (slot_turned c h d legal given refl w.0 refl refl (slot_count (state c h) - 1) (count_by is_live (state c h).slots) (state c h).largest (state c h).idling (Some (for_core t)) None (slot_is c h w.0 (Some (for_core t)) seat) (rw (eq-eqb w.0 w.0 refl) refl) (λ e. omega arith) (λ e. omega arith) (λ m. omega arith) (idling_same c h d refl refl (only (is_idle h) w.0 false (ap is_idle_row (slot_is c h w.0 (Some (for_core t)) seat))) (λ v named. nothing v named)))
          (done_same c h d legal given refl) refl;
      owes = owes_by c h d legal given refl 10 0 (open_refuse_core_falls c h w t given (slot_is c h w.0 (Some (for_core t)) seat));
    }

open_refuse_maximum_falls : (c : Config) (h : List Entry) (w : SlotId) (t : TaskId) → Given c h (did.Open w (opened.GivenUpRefuse t)) → slot_row h w.0 ≡ Some (for_maximum t) → named_due h (did.Open w (opened.GivenUpRefuse t)) h + 0 ≡ named_due h (did.Open w (opened.GivenUpRefuse t)) (entry (did.Open w (opened.GivenUpRefuse t)) ∷ h) + 6
open_refuse_maximum_falls c h w t given seat = grind (arith, nat_tests)

-- a slot up to the maximum is given up, and its task refused
pub open_refuse_maximum : (c : Config) (h : List Entry) (w : SlotId) (t : TaskId) → Legal c h → Given c h (did.Open w (opened.GivenUpRefuse t)) → slot_at (state c h).slots w.0 ≡ Some (for_maximum t) →
    Effect (state c h) (did.Open w (opened.GivenUpRefuse t))
    (record (view (state c h)) {
      tasks = put t.0 (moved_to at.Refused (task_at (state c h) t.0)) (task_at (state c h));
      slots = put w.0 None (slot_at (state c h).slots);
      taken = slot_count (state c h) - 1;
    }) 6 0
open_refuse_maximum c h w t legal given seat =
    let d = did.Open w (opened.GivenUpRefuse t) in
    record {
      reads = reads_by (state c h) d refl
          (task_turned c h d legal given refl refl refl t.0 refl refl (moved_to at.Refused (task_at (state c h) t.0)) (rw (eq-eqb t.0 t.0 refl) refl))
          (queue_same c h d refl refl refl (only (is_queued h) t.0 false (ap is_queued_place given.1.1)))
          (slot_turned c h d legal given refl w.0 refl refl (slot_count (state c h) - 1) (count_by is_live (state c h).slots) (state c h).largest (state c h).idling (Some (for_maximum t)) None (slot_is c h w.0 (Some (for_maximum t)) seat) (rw (eq-eqb w.0 w.0 refl) refl) (λ e. omega arith) (λ e. omega arith) (λ m. omega arith) (idling_same c h d refl refl (only (is_idle h) w.0 false (ap is_idle_row (slot_is c h w.0 (Some (for_maximum t)) seat))) (λ v named. nothing v named)))
          (done_same c h d legal given refl) refl;
      owes = owes_by c h d legal given refl 6 0 (open_refuse_maximum_falls c h w t given (slot_is c h w.0 (Some (for_maximum t)) seat));
    }
