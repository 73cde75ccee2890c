use Rattle.tp_text_record.proofs.LinesRead.{Streams}
use Rattle.tp_text_record.proofs.reading.read_stream.Given as goal

abbrev pub invariant-loop : goal.invariant-loop
invariant-loop g l = Streams g.R.Read.remaining (g.T.Taker.about l.question) g.T.Taker.took l.fn.reader l.reader l.stream l.counter
