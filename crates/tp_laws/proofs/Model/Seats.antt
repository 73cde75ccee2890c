-- Places and slots agree in the state of a legal record: the keystone, read in the state.
use Rattle.std.proofs.Common.{◌≡◌, ℕ, Bool, true, false, List, length, Option, Some, None, arith, sym, subst, ap, ◌∙◌, inl, inr}
use Rattle.std.specs.Prelude.{◌==◌}
use Rattle.std.proofs.lemmas.Bool.{cases_lt, false_from_ne_true}
use Rattle.std.proofs.lemmas.Bool.Decides.{nat_tests}
use Rattle.tp_types.specs.declared.tasks.Place.{Place}
use Rattle.tp_types.specs.declared.tasks.Place.TheVariants as at
use Rattle.tp_types.specs.declared.configs.Config.{Config}
use Rattle.tp_record.specs.declared.entries.Entry.{Entry}
use Rattle.tp_record.specs.declared.rows.TaskRow.{TaskRow}
use Rattle.tp_record.specs.declared.rows.SlotRow.{SlotRow}
use Rattle.tp_record.specs.Fields.{submitted, task_row, task_rows, slot_row}
use Rattle.tp_record.specs.State.{State, state, task_at, slot_at}
use Rattle.tp_record.specs.Step.{Legal}
use Rattle.tp_laws.specs.Seats.{slot_of, seat_of}
use Rattle.tp_laws.proofs.Model.Readings.{tasks_counted, row_read, row_past, slot_read}
use Rattle.tp_laws.proofs.Model.Keystone.{Agrees}
use Rattle.tp_laws.proofs.Model.Places.{task_row-past}
use Rattle.tp_laws.proofs.Model.Told.{sound_legal}

-- what is known together of each task and each slot of a state
abbrev pub AllSeated : State → Type 0
AllSeated s = (t w : ℕ) → Agrees (length s.tasks) t w (task_at s t) (slot_at s.slots w)

-- a task of a legal record reads as its row, also one that was never submitted
pub task_read : (c : Config) (h : List Entry) → Legal c h → (t : ℕ) → task_at (state c h) t ≡ task_row h t
task_read c h legal t =
    elim (cases_lt t (submitted h)) [
      | inl known ↦ row_read h t known
      | inr past ↦ row_past h t past ∙ sym (task_row-past c h legal t past)
    ]

pub seated_legal : (c : Config) (h : List Entry) → Legal c h → AllSeated (state c h)
seated_legal c h legal t w =
    let N : ℕ → Type 0 = λ n. Agrees n t w (task_row h t) (slot_row h w) in
    let R : TaskRow → Type 0 = λ r. Agrees (length (task_rows h)) t w r (slot_row h w) in
    let O : Option SlotRow → Type 0 = λ o. Agrees (length (task_rows h)) t w (task_at (state c h) t) o in
    subst O (sym (slot_read h w)) (subst R (sym (task_read c h legal t)) (subst N (sym (tasks_counted h)) (sound_legal c h legal t w)))

-- the task is held in w
abbrev pub is_held_by : ℕ → Place → Bool
is_held_by w (at.Held u) = u.0 == w
is_held_by w _ = false

-- so w is its slot
pub held_in : (w : ℕ) (p : Place) → is_held_by w p ≡ true → slot_of p ≡ Some w
held_in w p is = grind (arith, nat_tests)

-- a task that is held in w is the slot's task
pub held_seat : (s : State) → AllSeated s → (t w : ℕ) → is_held_by w (task_at s t).place ≡ true → seat_of (slot_at s.slots w) ≡ Some t
held_seat s seated t w held = (seated t w).seated_where_placed (held_in w (task_at s t).place held)

-- no task is held in a number that is no slot
pub unheld : (s : State) → AllSeated s → (w : ℕ) → slot_at s.slots w ≡ None → (t : ℕ) → is_held_by w (task_at s t).place ≡ false
unheld s seated w free t =
    false_from_ne_true _ (λ held. let e : seat_of None ≡ Some t = ap seat_of (sym free) ∙ held_seat s seated t w held in cc)
