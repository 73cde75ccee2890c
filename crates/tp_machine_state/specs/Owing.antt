-- By how much what is owed falls as the pool goes on.
use Rattle.std.specs.Prelude.{ℕ, ◌+◌, ◌-◌, ◌==◌, count_by, if◌then◌else◌}
use Rattle.tp_types.specs.RunState.{state_rank}
use Rattle.tp_slots.specs.Table.{is_at_take}
use Rattle.tp_machine_state.specs.declared.parts.Parts.{Parts}

-- by how many entries, until the run state of the rank n: a worker that is about to take may not be idle once the pool is shut
-- down, and each run state that is reached was owed
abbrev pub owed_until : {P : Type 0} → Parts P → ℕ → ℕ
owed_until p n = (if state_rank p.state == 0 then count_by is_at_take p.slots.slots else 0) + (n - state_rank p.state)
