use Rattle.std.proofs.Common.{◌≡◌, reverse, take}
use Rattle.tp_record.specs.Fields as fields
use Rattle.tp_rules.proofs.slots.stage.Given as goal

abbrev pub invariant-loop-i : goal.invariant-loop-i
invariant-loop-i l = record {
  staged : l.stage ≡ fields.stage (reverse (take l.i l.entries)) l.w.0;
  moment : l.now ≡ fields.now (reverse (take l.i l.entries));
}
