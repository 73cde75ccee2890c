use Rattle.std.proofs.Common.{◌≡◌, reverse, take}
use Rattle.tp_record.specs.Fields as fields
use Rattle.tp_rules.proofs.tasks.kind.Given as goal

abbrev pub invariant-loop-entry : goal.invariant-loop-entry
invariant-loop-entry l = l.kind ≡ fields.kind (reverse (take l.entry-index l.entries)) l.t.0
