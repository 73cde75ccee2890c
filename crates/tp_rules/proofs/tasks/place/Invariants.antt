use Rattle.std.proofs.Common.{◌≡◌, reverse, take}
use Rattle.tp_record.specs.Fields as fields
use Rattle.tp_rules.proofs.tasks.place.Given as goal

abbrev pub invariant-loop-entry : goal.invariant-loop-entry
invariant-loop-entry l = record {
  placed : l.place ≡ fields.place (reverse (take l.entry-index l.entries)) l.t.0;
  cancelled : l.cancelled ≡ fields.is_cancelled (reverse (take l.entry-index l.entries)) l.t.0;
}
