use Rattle.std.proofs.Common.{◌≡◌, map, take}
use Rattle.tp_record.specs.State as states
use Rattle.tp_audit_plain.proofs.plain.fates_of.Given as goal

abbrev pub invariant-loop-row : goal.invariant-loop-row
invariant-loop-row l = l.fates.items ≡ map states.fate_of (take l.row-index l.tasks)
