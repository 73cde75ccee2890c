-- What is owed at what an entry names, before the entry and after it.
use Rattle.std.specs.Prelude.{suc, nat_le, ℕ, ◌+◌, ◌-◌, ◌*◌, ◌==◌, Bool, count_by, Option, Some, None, if◌then◌else◌}
use Rattle.tp_types.specs.declared.configs.Config.{Config}
use Rattle.tp_record.specs.declared.entries.Did.{Did}
use Rattle.tp_record.specs.declared.entries.Did.TheVariants as did
use Rattle.tp_record.specs.declared.entries.Ruled.TheVariants as ruled
use Rattle.tp_record.specs.declared.entries.Opened.TheVariants as opened
use Rattle.tp_record.specs.declared.rows.SlotRow.{SlotRow}
use Rattle.tp_record.specs.State.{State, task_at, slot_at, row_after, slot_after, slot_weight, is_core_slot}
use Rattle.tp_laws.specs.Seats.{number_of}
use Rattle.tp_laws.proofs.Model.Totals.{at_named}
use Rattle.tp_laws.proofs.Model.Weights.{weight_of}
use Rattle.tp_laws.proofs.Effects.Names.{is_wide, names, seats, replaces}
use Rattle.tp_audit.specs.SlotTable.{is_at_take}

abbrev pub seated_number : Option SlotRow → Option ℕ
seated_number None = None
seated_number (Some r) = number_of r.task

-- a second task that comes to owe more or less: the head that a retry drops, the task of a slot that becomes live
abbrev pub beside_in : State → Did → Option ℕ
beside_in s (did.Verdict t v (ruled.RetryDrop u)) = Some u.0
beside_in s (did.Open w opened.Live) = seated_number (slot_at s.slots w.0)
beside_in s _ = None

-- slot w is reserved for the core, before the entry and after it
abbrev pub core_now : State → ℕ → Bool
core_now s w = is_core_slot (slot_at s.slots w)

abbrev pub core_then : Did → State → ℕ → Bool
core_then d s w = is_core_slot (slot_after d s w (slot_at s.slots w))

-- what task t and slot w owe before the entry and after it, where it leaves the rank
abbrev pub task_now : State → ℕ → ℕ
task_now s t = weight_of (core_now s) (task_at s t)

abbrev pub task_then : Did → State → ℕ → ℕ
task_then d s t = weight_of (core_then d s) (row_after d t (task_at s t))

abbrev pub slot_now : State → ℕ → ℕ
slot_now s w = slot_weight s.rank (slot_at s.slots w)

abbrev pub slot_then : Did → State → ℕ → ℕ
slot_then d s w = slot_weight s.rank (slot_after d s w (slot_at s.slots w))

abbrev pub owed_now : Did → State → ℕ
owed_now d s = at_named (task_now s) (names d) + at_named (task_now s) (beside_in s d) + (at_named (slot_now s) (seats d) + at_named (slot_now s) (replaces d))

abbrev pub owed_then : Did → State → ℕ
owed_then d s = at_named (task_then d s) (names d) + at_named (task_then d s) (beside_in s d) + (at_named (slot_then d s) (seats d) + at_named (slot_then d s) (replaces d))

-- workers about to take, each of which owes one less once the pool does not run
abbrev pub takers : State → ℕ
takers s = if s.rank == 0 then count_by is_at_take s.slots else 0

-- by how much what is owed falls with an entry that changes rows which it does not name, or the rank
abbrev pub falls : Did → State → ℕ
falls did.Shutdown s = takers s + (1 - s.rank)
falls (did.Stop n) s = 6 * n + takers s + (2 - s.rank)
falls did.Tidy s = 3 - s.rank
falls did.Ended s = 1
falls (did.Purge n) s = 6 * n
falls _ s = 0

-- what is owed after the entry, where n is owed before it
abbrev pub due_by : Did → State → ℕ → ℕ
due_by d s n = if is_wide d then n - falls d s else n + owed_then d s - owed_now d s

-- whether the room left after the entry is at least what is owed then, where n is owed before it
abbrev pub room_by : Config → Did → State → ℕ → Bool
room_by c d s n = nat_le (suc s.steps + due_by d s n) c.record_limit
