-- The task that a machine reads in a slot is the one that is there by the words of the rules.
use Rattle.std.proofs.Common.{◌≡◌, ℕ, List, Option, Some, None, arith, sym, ap, subst, ◌∙◌}
use Rattle.std.specs.Prelude.{◌↔◌}
use Rattle.tp_types.specs.declared.ids.TaskId.{TaskId}
use Rattle.tp_record.specs.declared.entries.Entry.{Entry}
use Rattle.tp_record.specs.declared.rows.SlotRow.{SlotRow}
use Rattle.tp_record.specs.Fields.{slot_row}
use Rattle.tp_record.specs.State.{state, slot_at}
use Rattle.tp_record.specs.Words.{in_slot}
use Rattle.tp_laws.specs.Seats.{number_of, seat_of}
use Rattle.tp_laws.proofs.Model.Readings.{slot_read}
use Rattle.tp_laws.proofs.Model.Told.{told_legal}
use Rattle.tp_laws.proofs.WordsSlots.{seat_agrees}
use Rattle.tp_laws.proofs.Left.Marks.{left_slots}
use Rattle.tp_machine_state.specs.declared.parts.Parts.{Parts}
use Rattle.tp_machine_state.specs.Terms.{terms}
use Rattle.tp_machine.specs.Seen.{Seen, task_of_row}
use Rattle.tp_machine.specs.Readings.{EachHistory}

numbered : (o : Option TaskId) (t : TaskId) → number_of o ≡ Some t.0 → o ≡ Some t
numbered o t is = grind arith

-- a row names a task just where its number is the task's
named : (r : Option SlotRow) (t : TaskId) → seat_of r ≡ Some t.0 → task_of_row r ≡ Some t
named None t is = absurd cc
named (Some r) t is = numbered r.task t is

numbers : (r : Option SlotRow) (t : TaskId) → task_of_row r ≡ Some t → seat_of r ≡ Some t.0
numbers None t is = absurd cc
numbers (Some r) t is = ap number_of is

pub seated : {P R : Type 0} (tells : R → List Entry → List ℕ → Type 0) (p : Parts P) (noted : R) (m : Seen P R) → record { parts = p; noted = noted } ≡ m → (w : ℕ) (o : Option TaskId) →
    o ≡ task_of_row (slot_at p.slots.slots w) → EachHistory tells m (λ h. (t : TaskId) → in_slot h t.0 ≡ Some w ↔ o ≡ Some t)
seated {P} {R} tells p noted m is w o reads =
    subst (λ (x : Seen P R). EachHistory tells x (λ h. (t : TaskId) → in_slot h t.0 ≡ Some w ↔ o ≡ Some t)) is (λ h rs at t.
    let row : slot_at p.slots.slots w ≡ slot_row h w =
    sym (at.shows.seen.seats w) ∙ ap (λ slots. slot_at slots w) (left_slots rs (state (terms p) h)) ∙ slot_read h w in
    let here : o ≡ task_of_row (slot_row h w) = reads ∙ ap task_of_row row in
    let agree = seat_agrees (terms p) h (told_legal (terms p) h at.legal) w t.0 in (
      (λ in_it. here ∙ named (slot_row h w) t (agree.0 in_it)),
      (λ read. agree.1 (numbers (slot_row h w) t (sym here ∙ read))),
    ))
