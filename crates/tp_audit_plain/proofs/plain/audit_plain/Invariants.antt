use Rattle.std.proofs.Common.{reverse, take}
use Rattle.tp_record.specs.Step.{Legal}
use Rattle.tp_audit_plain.proofs.plain.audit_plain.Given as goal

abbrev pub invariant-loop-i : goal.invariant-loop-i
invariant-loop-i l = Legal l.config (reverse (take l.i l.entries))
