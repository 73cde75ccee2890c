use Rattle.std.proofs.Common.{◌≡◌, ap, subst, ◌∙◌, inl, inr}
use Rattle.tp_text_record.specs.ReadRecord.{FitsBody, body_text}
use Rattle.tp_text_record.proofs.LinesRead.{end_read, entry_read, wrong_end, wrong_entry}
use Rattle.tp_text_record.proofs.reading.Body.take.Goals as goal

pub returns-in-Err-clause-refused : goal.returns-in-Err-clause-refused
returns-in-Err-clause-refused g c = λ q lines is. inr (inl (c.in-Err.ensures.many.0, c.in-Err.ensures.many.1 q lines is))

pub returns-then-self-clause-refused : goal.returns-then-self-clause-refused
returns-then-self-clause-refused g c = λ q lines is. wrong_end (g.T.Taker.about q) g.T.Taker.took c.args.self.now lines c.args.line.now c.in-Ok.number is c.if-self.true (c.in-Ok.ensures.number q lines is)

pub returns-in_default-clause-read : goal.returns-in_default-clause-read
returns-in_default-clause-read g c = λ q lines is.
    let b = c.args.self.now in
    let says = subst (λ x. FitsBody b.version x × (c.args.line.now ≡ body_text b.entries x)) c.in-Some-Entry.field-0-is c.in-Some-Entry.ensures in
    entry_read (g.T.Taker.about q) g.T.Taker.took b c.take.new.self lines c.args.line.now c.in-Some-Entry.entry is c.if-self.false c.in-Ok.ensures.few says.0 says.1 c.in_default.ensures.took (c.in_default.ensures.about q)

pub returns-in-Some-End-clause-read : goal.returns-in-Some-End-clause-read
returns-in-Some-End-clause-read g c = λ q lines is.
    end_read (g.T.Taker.about q) g.T.Taker.took c.args.self.now lines c.args.line.now is c.if-self.false (c.in-Some-End.ensures.1 ∙ ap (body_text c.args.self.now.entries) c.in-Some-End.field-0-is)

pub returns-in-None-clause-refused : goal.returns-in-None-clause-refused
returns-in-None-clause-refused g c = λ q lines is.
    wrong_entry (g.T.Taker.about q) g.T.Taker.took c.args.self.now lines c.args.line.now c.in-Ok.number is c.if-self.false (c.in-Ok.ensures.number q lines is) c.in-None.ensures
