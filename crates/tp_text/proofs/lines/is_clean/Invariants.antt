use Rattle.tp_text.proofs.TextLaws.{IsCleanUpTo}
use Rattle.tp_text.proofs.lines.is_clean.Given as goal

abbrev pub invariant-loop-byte : goal.invariant-loop-byte
invariant-loop-byte l = IsCleanUpTo l.line l.byte-index l.before
