use Rattle.std.proofs.Common.{arith}
use Rattle.tp_text_record.proofs.LinesRead.{long_line, refused_number}
use Rattle.tp_text_record.proofs.reading.Stream.keep.Goals as goal

pub returns-in-Ok-next_number-clause-refused : goal.returns-in-Ok-next_number-clause-refused
returns-in-Ok-next_number-clause-refused g c = λ q bytes later lines is are.
    let long = c.if-rest-le-LONGEST_LINE.false in
    long_line (g.T.Taker.about q) g.T.Taker.took c.args.self.now.reading lines c.args.rest.now bytes later c.in-Ok-next_number.number is are (omega (arith, long)) (c.in-Ok-next_number.ensures.number q lines is)

pub returns-in-Err-next_number-clause-refused : goal.returns-in-Err-next_number-clause-refused
returns-in-Err-next_number-clause-refused g c = λ q bytes later lines is are. refused_number (g.T.Taker.about q) g.T.Taker.took lines c.args.rest.now bytes later c.in-Err-next_number.refusal are (c.in-Err-next_number.ensures.many.0, c.in-Err-next_number.ensures.many.1 q lines is)
