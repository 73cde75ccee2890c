-- A worker takes.
use Rattle.std.proofs.Common.{◌≡◌, ℕ, ◌+◌, ◌-◌, false, List, [], ◌∷◌, ◌++◌, Some, None, refl, arith, ap}
use Rattle.std.specs.Prelude.{◌==◌, count_by, drop, if◌then◌else◌}
use Rattle.std.proofs.lemmas.Bool.{eq-eqb, ne_eqb}
use Rattle.std.proofs.lemmas.Bool.Decides.{nat_tests}
use Rattle.tp_types.specs.declared.configs.Config.{Config}
use Rattle.tp_types.specs.declared.ids.TaskId.{TaskId}
use Rattle.tp_types.specs.declared.ids.SlotId.{SlotId}
use Rattle.tp_types.specs.declared.tasks.Place.TheVariants as at
use Rattle.tp_record.specs.declared.entries.Entry.{Entry}
use Rattle.tp_record.specs.declared.entries.Did.TheVariants as did
use Rattle.tp_record.specs.declared.entries.Took.TheVariants as took
use Rattle.tp_record.specs.Lists.{without}
use Rattle.tp_record.specs.Fields.{slot_row, is_queued, is_queued_place, is_idle, is_idle_row, is_live}
use Rattle.tp_record.specs.State.{state, task_at, slot_at}
use Rattle.tp_record.specs.Step.{Legal, slot_count}
use Rattle.tp_laws.proofs.Model.Given.{Given}
use Rattle.tp_laws.specs.View.{view, Effect, put}
use Rattle.tp_laws.proofs.Effects.Rows.{moved_to, works_on, at_take, idle_since}
use Rattle.tp_laws.proofs.Effects.Next.{entry}
use Rattle.tp_laws.proofs.Effects.Sums.{named_due}
use Rattle.tp_laws.proofs.Effects.Lists.{only, nothing, slot_is, queue_same, queue_rest, idling_same, idling_more, idling_out}
use Rattle.tp_laws.proofs.Effects.Done.{done_same}
use Rattle.tp_laws.proofs.Effects.Shapes.{reads_by, owes_by, tasks_kept, task_turned, slot_turned}

take_held_falls : (c : Config) (h : List Entry) (w : SlotId) (t : TaskId) → Given c h (did.Take w (took.Held t)) → named_due h (did.Take w (took.Held t)) h + 0 ≡ named_due h (did.Take w (took.Held t)) (entry (did.Take w (took.Held t)) ∷ h) + 1
take_held_falls c h w t given = grind (arith, nat_tests)

-- a worker takes the task that its slot holds
pub take_held : (c : Config) (h : List Entry) (w : SlotId) (t : TaskId) → Legal c h → Given c h (did.Take w (took.Held t)) →
    Effect (state c h) (did.Take w (took.Held t))
    (record (view (state c h)) {
      tasks = put t.0 (moved_to (at.Taken w) (task_at (state c h) t.0)) (task_at (state c h));
      slots = put w.0 (Some (works_on t)) (slot_at (state c h).slots);
    }) 1 0
take_held c h w t legal given =
    let d = did.Take w (took.Held t) in
    record {
      reads = reads_by (state c h) d refl
          (task_turned c h d legal given refl refl refl t.0 refl refl (moved_to (at.Taken w) (task_at (state c h) t.0)) (rw (eq-eqb t.0 t.0 refl) refl))
          (queue_same c h d refl refl refl (only (is_queued h) t.0 false (ap is_queued_place given.1.1)))
          (slot_turned c h d legal given refl w.0 refl refl (slot_count (state c h)) (count_by is_live (state c h).slots) (state c h).largest (state c h).idling (Some (works_on t)) (Some (works_on t)) given.0 (rw (eq-eqb w.0 w.0 refl) refl) (λ e. omega arith) (λ e. omega arith) (λ m. omega arith) (idling_same c h d refl refl (only (is_idle h) w.0 false (ap is_idle_row given.0)) (λ v named. nothing v named)))
          (done_same c h d legal given refl) refl;
      owes = owes_by c h d legal given refl 1 0 (take_held_falls c h w t given);
    }

take_head_falls : (c : Config) (h : List Entry) (w : SlotId) (t : TaskId) → Given c h (did.Take w (took.Head t)) → slot_row h w.0 ≡ Some at_take → named_due h (did.Take w (took.Head t)) h + 0 ≡ named_due h (did.Take w (took.Head t)) (entry (did.Take w (took.Head t)) ∷ h) + (if (state c h).rank == 0 then 2 else 1)
take_head_falls c h w t given seat = grind (arith, nat_tests)

-- a worker takes the queue's head
pub take_head : (c : Config) (h : List Entry) (w : SlotId) (t : TaskId) → Legal c h → Given c h (did.Take w (took.Head t)) → slot_at (state c h).slots w.0 ≡ Some at_take →
    Effect (state c h) (did.Take w (took.Head t))
    (record (view (state c h)) {
      tasks = put t.0 (moved_to (at.Taken w) (task_at (state c h) t.0)) (task_at (state c h));
      slots = put w.0 (Some (works_on t)) (slot_at (state c h).slots);
      queue = drop 1 (state c h).queue;
    }) (if (state c h).rank == 0 then 2 else 1) 0
take_head c h w t legal given seat =
    let d = did.Take w (took.Head t) in
    record {
      reads = reads_by (state c h) d refl
          (task_turned c h d legal given refl refl refl t.0 refl refl (moved_to (at.Taken w) (task_at (state c h) t.0)) (rw (eq-eqb t.0 t.0 refl) refl))
          (queue_rest c h d refl refl t.0 given.1.0 given.1.1 (rw (eq-eqb t.0 t.0 refl) refl) (λ u is ne. (ne_eqb u t.0 ne, refl)))
          (slot_turned c h d legal given refl w.0 refl refl (slot_count (state c h)) (count_by is_live (state c h).slots) (state c h).largest (state c h).idling (Some at_take) (Some (works_on t)) (slot_is c h w.0 (Some at_take) seat) (rw (eq-eqb w.0 w.0 refl) refl) (λ e. omega arith) (λ e. omega arith) (λ m. omega arith) (idling_same c h d refl refl (only (is_idle h) w.0 false (ap is_idle_row (slot_is c h w.0 (Some at_take) seat))) (λ v named. nothing v named)))
          (done_same c h d legal given refl) refl;
      owes = owes_by c h d legal given refl (if (state c h).rank == 0 then 2 else 1) 0 (take_head_falls c h w t given (slot_is c h w.0 (Some at_take) seat));
    }

take_head_idle_falls : (c : Config) (h : List Entry) (w : SlotId) (t : TaskId) (m : ℕ) → Given c h (did.Take w (took.Head t)) → slot_row h w.0 ≡ Some (idle_since m) → named_due h (did.Take w (took.Head t)) h + 0 ≡ named_due h (did.Take w (took.Head t)) (entry (did.Take w (took.Head t)) ∷ h) + 1
take_head_idle_falls c h w t m given seat = grind (arith, nat_tests)

-- an idle worker takes the queue's head
pub take_head_idle : (c : Config) (h : List Entry) (w : SlotId) (t : TaskId) (m : ℕ) → Legal c h → Given c h (did.Take w (took.Head t)) → slot_at (state c h).slots w.0 ≡ Some (idle_since m) →
    Effect (state c h) (did.Take w (took.Head t))
    (record (view (state c h)) {
      tasks = put t.0 (moved_to (at.Taken w) (task_at (state c h) t.0)) (task_at (state c h));
      slots = put w.0 (Some (works_on t)) (slot_at (state c h).slots);
      queue = drop 1 (state c h).queue;
      idling = without w.0 (state c h).idling;
    }) 1 0
take_head_idle c h w t m legal given seat =
    let d = did.Take w (took.Head t) in
    record {
      reads = reads_by (state c h) d refl
          (task_turned c h d legal given refl refl refl t.0 refl refl (moved_to (at.Taken w) (task_at (state c h) t.0)) (rw (eq-eqb t.0 t.0 refl) refl))
          (queue_rest c h d refl refl t.0 given.1.0 given.1.1 (rw (eq-eqb t.0 t.0 refl) refl) (λ u is ne. (ne_eqb u t.0 ne, refl)))
          (slot_turned c h d legal given refl w.0 refl refl (slot_count (state c h)) (count_by is_live (state c h).slots) (state c h).largest (without w.0 (state c h).idling) (Some (idle_since m)) (Some (works_on t)) (slot_is c h w.0 (Some (idle_since m)) seat) (rw (eq-eqb w.0 w.0 refl) refl) (λ e. omega arith) (λ e. omega arith) (λ m. omega arith) (idling_out c h d refl refl w.0 refl refl (Some (idle_since m)) (Some (works_on t)) (slot_is c h w.0 (Some (idle_since m)) seat) (rw (eq-eqb w.0 w.0 refl) refl) refl))
          (done_same c h d legal given refl) refl;
      owes = owes_by c h d legal given refl 1 0 (take_head_idle_falls c h w t m given (slot_is c h w.0 (Some (idle_since m)) seat));
    }

take_leave_falls : (c : Config) (h : List Entry) (w : SlotId) → Given c h (did.Take w took.Leave) → slot_row h w.0 ≡ Some at_take → named_due h (did.Take w took.Leave) h + 0 ≡ named_due h (did.Take w took.Leave) (entry (did.Take w took.Leave) ∷ h) + (if (state c h).rank == 0 then 2 else 1)
take_leave_falls c h w given seat = grind (arith, nat_tests)

-- a worker leaves
pub take_leave : (c : Config) (h : List Entry) (w : SlotId) → Legal c h → Given c h (did.Take w took.Leave) → slot_at (state c h).slots w.0 ≡ Some at_take →
    Effect (state c h) (did.Take w took.Leave)
    (record (view (state c h)) {
      slots = put w.0 None (slot_at (state c h).slots);
      taken = slot_count (state c h) - 1;
      live = count_by is_live (state c h).slots - 1;
    }) (if (state c h).rank == 0 then 2 else 1) 0
take_leave c h w legal given seat =
    let d = did.Take w took.Leave in
    record {
      reads = reads_by (state c h) d refl
          (tasks_kept c h d legal given refl refl refl refl refl)
          (queue_same c h d refl refl refl (λ u named. nothing u named))
          (slot_turned c h d legal given refl w.0 refl refl (slot_count (state c h) - 1) (count_by is_live (state c h).slots - 1) (state c h).largest (state c h).idling (Some at_take) None (slot_is c h w.0 (Some at_take) seat) (rw (eq-eqb w.0 w.0 refl) refl) (λ e. omega arith) (λ e. omega arith) (λ m. omega arith) (idling_same c h d refl refl (only (is_idle h) w.0 false (ap is_idle_row (slot_is c h w.0 (Some at_take) seat))) (λ v named. nothing v named)))
          (done_same c h d legal given refl) refl;
      owes = owes_by c h d legal given refl (if (state c h).rank == 0 then 2 else 1) 0 (take_leave_falls c h w given (slot_is c h w.0 (Some at_take) seat));
    }

take_leave_idle_falls : (c : Config) (h : List Entry) (w : SlotId) (m : ℕ) → Given c h (did.Take w took.Leave) → slot_row h w.0 ≡ Some (idle_since m) → named_due h (did.Take w took.Leave) h + 0 ≡ named_due h (did.Take w took.Leave) (entry (did.Take w took.Leave) ∷ h) + 1
take_leave_idle_falls c h w m given seat = grind (arith, nat_tests)

-- an idle worker leaves
pub take_leave_idle : (c : Config) (h : List Entry) (w : SlotId) (m : ℕ) → Legal c h → Given c h (did.Take w took.Leave) → slot_at (state c h).slots w.0 ≡ Some (idle_since m) →
    Effect (state c h) (did.Take w took.Leave)
    (record (view (state c h)) {
      slots = put w.0 None (slot_at (state c h).slots);
      taken = slot_count (state c h) - 1;
      live = count_by is_live (state c h).slots - 1;
      idling = without w.0 (state c h).idling;
    }) 1 0
take_leave_idle c h w m legal given seat =
    let d = did.Take w took.Leave in
    record {
      reads = reads_by (state c h) d refl
          (tasks_kept c h d legal given refl refl refl refl refl)
          (queue_same c h d refl refl refl (λ u named. nothing u named))
          (slot_turned c h d legal given refl w.0 refl refl (slot_count (state c h) - 1) (count_by is_live (state c h).slots - 1) (state c h).largest (without w.0 (state c h).idling) (Some (idle_since m)) None (slot_is c h w.0 (Some (idle_since m)) seat) (rw (eq-eqb w.0 w.0 refl) refl) (λ e. omega arith) (λ e. omega arith) (λ m. omega arith) (idling_out c h d refl refl w.0 refl refl (Some (idle_since m)) None (slot_is c h w.0 (Some (idle_since m)) seat) (rw (eq-eqb w.0 w.0 refl) refl) refl))
          (done_same c h d legal given refl) refl;
      owes = owes_by c h d legal given refl 1 0 (take_leave_idle_falls c h w m given (slot_is c h w.0 (Some (idle_since m)) seat));
    }

take_idle_falls : (c : Config) (h : List Entry) (w : SlotId) → Given c h (did.Take w took.Idle) → named_due h (did.Take w took.Idle) h + 0 ≡ named_due h (did.Take w took.Idle) (entry (did.Take w took.Idle) ∷ h) + 1
take_idle_falls c h w given = grind (arith, nat_tests)

-- a worker is idle
pub take_idle : (c : Config) (h : List Entry) (w : SlotId) → Legal c h → Given c h (did.Take w took.Idle) →
    Effect (state c h) (did.Take w took.Idle)
    (record (view (state c h)) {
      slots = put w.0 (Some (idle_since (state c h).now)) (slot_at (state c h).slots);
      idling = (state c h).idling ++ w.0 ∷ [];
    }) 1 0
take_idle c h w legal given =
    let d = did.Take w took.Idle in
    record {
      reads = reads_by (state c h) d refl
          (tasks_kept c h d legal given refl refl refl refl refl)
          (queue_same c h d refl refl refl (λ u named. nothing u named))
          (slot_turned c h d legal given refl w.0 refl refl (slot_count (state c h)) (count_by is_live (state c h).slots) (state c h).largest ((state c h).idling ++ w.0 ∷ []) (Some at_take) (Some (idle_since (state c h).now)) given.0 (rw (eq-eqb w.0 w.0 refl) refl) (λ e. omega arith) (λ e. omega arith) (λ m. omega arith) (idling_more c h d refl (only (is_idle h) w.0 false (ap is_idle_row given.0)) (λ v named. nothing v named)))
          (done_same c h d legal given refl) refl;
      owes = owes_by c h d legal given refl 1 0 (take_idle_falls c h w given);
    }
