-- What a thread that watches a pool reads in one hold.
use Rattle.std.specs.Prelude.{◌≡◌, ℕ, zero, suc, List, [], ◌++◌, Option, option_map, option_to_list}
use Rattle.tp_record.specs.declared.rows.SlotRow.{SlotRow}
use Rattle.tp_record.specs.State.{slot_at}
use Rattle.tp_machine.specs.Seen.{task_of_row}
use Rattle.tp_pool_holds.specs.declared.locked.watching.Busy.{Busy}

-- slot w with its task, where it has one
abbrev pub busy_at : List (Option SlotRow) → ℕ → List Busy
busy_at slots w = option_to_list (option_map (λ t. record { slot = record { 0 = w }; task = t }) (task_of_row (slot_at slots w)))

-- the slots of numbers below n that have a task, in the order of their numbers
abbrev pub busy_below : List (Option SlotRow) → ℕ → List Busy
busy_below slots zero = []
busy_below slots (suc n) = busy_below slots n ++ busy_at slots n

-- these are the slots that have a task, in the order of their numbers, of which none is 1,024 or more
pub record AreBusy (slots : List (Option SlotRow)) (busy : List Busy) : Type 0 where
  pub most : ℕ
  pub all : most ≡ 1024
  pub are : busy ≡ busy_below slots most
