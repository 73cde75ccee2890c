use Rattle.std.proofs.Common.{inl, inr}
use Rattle.tp_text_record.specs.declared.reading.Reading.TheVariants as reading
use Rattle.tp_text_record.proofs.LinesRead.{missing_read, some_left, still_opened}
use Rattle.tp_text_record.proofs.reading.Body.finish.Goals as goal
use Rattle.tp_text_record.proofs.reading.Body.finish.Goals.{else-self-via-then-self+else-is_empty, else-self-via-else-self}

pub returns-in-Err-clause-refused : goal.returns-in-Err-clause-refused
returns-in-Err-clause-refused g c = λ q text lines is are. inl (c.in-Err.ensures.many.0, c.in-Err.ensures.many.1 q lines is)

pub returns-else-self-clause-refused : goal.returns-else-self-clause-refused
returns-else-self-clause-refused g c = λ q text lines is are.
    inr (missing_read (g.T.Taker.about q) g.T.Taker.took (reading.Opened c.args.self) text c.args.left.now lines c.in-Ok.number is are (c.in-Ok.ensures.number q lines is) (λ b same over none.
    elim c.else-self.branch [
      | else-self-via-then-self+else-is_empty w ↦ some_left (g.T.Taker.about q) g.T.Taker.took c.args.left.now w.is_empty.result w.if-is_empty.false w.is_empty.ensures none
      | else-self-via-else-self w ↦ still_opened (g.T.Taker.about q) g.T.Taker.took c.args.self b same w.if-self.false over
    ]))
