use Rattle.std.proofs.Common.{◌≡◌, take}
use Rattle.std.specs.Prelude.{vec_len, vec_capacity}
use Rattle.tp_record.proofs.packed.write_room.Given as goal

abbrev pub invariant-loop : goal.invariant-loop
invariant-loop l = record {
  filled : vec_len l.entries ≡ l.counter;
  room : vec_capacity l.entries ≡ vec_capacity l.initial.entries;
  kept : take l.count l.entries.items ≡ l.initial.entries.items;
}
