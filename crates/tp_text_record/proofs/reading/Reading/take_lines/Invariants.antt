use Rattle.std.proofs.Common.{length}
use Rattle.tp_text_record.proofs.LinesRead.{TakesLines}
use Rattle.tp_text_record.proofs.reading.Reading.take_lines.Given as goal

abbrev pub invariant-loop-line : goal.invariant-loop-line
invariant-loop-line g l = TakesLines (g.T.Taker.about l.question) g.T.Taker.took l.fn.self l.self l.text l.rest

abbrev pub decreases-loop-line : goal.decreases-loop-line
decreases-loop-line g l = length l.rest
