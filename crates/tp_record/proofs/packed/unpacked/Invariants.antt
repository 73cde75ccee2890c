use Rattle.std.proofs.Common.{◌≡◌, take}
use Rattle.std.specs.Prelude.{vec_len, vec_capacity, length, ◌≤◌}
use Rattle.tp_record.proofs.packed.unpacked.Given as goal

abbrev pub invariant-loop-one : goal.invariant-loop-one
invariant-loop-one l = (l.entries.items ≡ take l.one-index l.packed) × (vec_len l.entries ≡ l.one-index) × (length l.packed ≤ vec_capacity l.entries)
