-- What is owed, as sums over the numbers of tasks and slots, and what an entry leaves as it was or lowers.
use Rattle.std.proofs.Common.{◌≡◌, ℕ, ◌+◌, ◌-◌, ◌≤◌, Bool, false, List, refl, sym, ap, ◌∙◌}
use mathlib.Core.Path.{ap₂}
use Rattle.std.specs.Prelude.{sum_by, if◌then◌else◌}
use Rattle.tp_types.specs.declared.configs.Config.{Config}
use Rattle.tp_types.specs.declared.tasks.Place.{Place}
use Rattle.tp_types.specs.declared.tasks.Place.TheVariants as at
use Rattle.tp_record.specs.declared.entries.Entry.{Entry}
use Rattle.tp_record.specs.declared.rows.TaskRow.{TaskRow}
use Rattle.tp_record.specs.Fields.{rank, submitted, task_row, task_rows, slot_row, slot_rows, slot_bound}
use Rattle.tp_record.specs.State.{state, due, is_core_slot, is_held_for_core, place_weight, task_weight, slot_weight}
use Rattle.tp_laws.proofs.Model.Readings.{slot_read, slot_below}
use Rattle.tp_laws.proofs.Model.Keystone.{IsSound}
use Rattle.tp_laws.proofs.Model.Totals.{total, sum_by-table, total-longer, total-agree}

-- the slot of a held task is reserved for the core
abbrev pub held_core : (ℕ → Bool) → Place → Bool
held_core f (at.Held w) = f w.0
held_core f _ = false

-- what is owed by a task, where f says which slots are reserved for the core
abbrev pub weight_of : (ℕ → Bool) → TaskRow → ℕ
weight_of f r = place_weight (held_core f r.place) r.place + (if r.second then 4 else 0)

abbrev pub is_core : List Entry → ℕ → Bool
is_core h w = is_core_slot (slot_row h w)

-- what is owed by task t, and by slot w
abbrev pub task_due : List Entry → ℕ → ℕ
task_due h t = weight_of (is_core h) (task_row h t)

abbrev pub slot_due : List Entry → ℕ → ℕ
slot_due h w = slot_weight (rank h) (slot_row h w)

-- what the state reads of a held task's slot is what the history says
core_read : (h : List Entry) (p : Place) → is_held_for_core (slot_rows h) p ≡ held_core (is_core h) p
core_read h (at.Held w) = ap is_core_slot (slot_read h w.0)
core_read h _ = refl

-- a task owes in the state what it owes in the history
weight_read : (h : List Entry) (t : ℕ) → task_weight (slot_rows h) (task_row h t) ≡ task_due h t
weight_read h t = ap (λ b. place_weight b (task_row h t).place + (if (task_row h t).second then 4 else 0)) (core_read h (task_row h t).place)

-- what is owed, over any numbers of tasks and slots that are enough
pub due_totals : (c : Config) (h : List Entry) (m n : ℕ) → IsSound h → submitted h ≤ m → slot_bound h ≤ n →
    due (state c h) ≡ total (task_due h) m + total (slot_due h) n + (4 - rank h)
due_totals c h m n sound tasks slots = ap₂ (λ a b. a + b + (4 - rank h)) by_task by_slot
  where
    by_task : sum_by (task_weight (slot_rows h)) (task_rows h) ≡ total (task_due h) m
    by_task =
        sum_by-table (task_weight (slot_rows h)) (task_row h) (submitted h)
        ∙ total-agree (task_due h) (λ t. task_weight (slot_rows h) (task_row h t)) (submitted h) (λ t below. weight_read h t)
        ∙ sym (total-longer (task_due h) (submitted h) m (λ t past. ap (weight_of (is_core h)) ((sound t 0).fresh past)) tasks)

    by_slot : sum_by (slot_weight (rank h)) (slot_rows h) ≡ total (slot_due h) n
    by_slot =
        sum_by-table (slot_weight (rank h)) (slot_row h) (slot_bound h)
        ∙ sym (total-longer (slot_due h) (slot_bound h) n (λ w past. rw (slot_below h w past) refl) slots)
