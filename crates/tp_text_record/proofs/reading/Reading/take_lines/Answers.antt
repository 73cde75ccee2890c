use Rattle.tp_text_record.proofs.LinesRead.{stops_at}
use Rattle.tp_text_record.proofs.reading.Reading.take_lines.Goals as goal

pub returns-in-Err-clause-refused : goal.returns-in-Err-clause-refused
returns-in-Err-clause-refused g c = λ lines is.
    stops_at (g.T.Taker.about c.args.question.now) g.T.Taker.took c.args.self.now c.loop-line.self c.args.text.now c.loop-line.rest.now c.in-Some.line.now c.in-Some.behind.now c.in-Err.refusal lines
    c.loop-line.invariant c.in-Some.ensures.0 c.in-Some.ensures.1 c.in-Err.ensures.refused is
