use Rattle.std.proofs.Common.{◌≡◌, ◌+◌, true, false, refl, sym, ◌∙◌, arith}
use Rattle.tp_text_record.proofs.LinesRead.{next_of, too_many}
use Rattle.tp_text_record.proofs.reading.Body.next_number.Goals as goal

pub returns-then-self-ge-TOO_MANY-clause-many : goal.returns-then-self-ge-TOO_MANY-clause-many
returns-then-self-ge-TOO_MANY-clause-many g c =
    let many = c.if-self-ge-TOO_MANY.true in (refl, λ q lines is. too_many (g.T.Taker.about q) g.T.Taker.took c.args.self.now lines is (omega (arith, many)))

pub returns-then-self-clause-number : goal.returns-then-self-clause-number
returns-then-self-clause-number g c = λ q lines is.
    let over = c.if-self.true in
    next_of (g.T.Taker.about q) g.T.Taker.took c.args.self.now lines (c.args.self.now.entries + 4) is (λ no. let both : true ≡ false = sym over ∙ no in cc) (λ yes. refl)

pub returns-else-self-clause-number : goal.returns-else-self-clause-number
returns-else-self-clause-number g c = λ q lines is.
    let still = c.if-self.false in
    next_of (g.T.Taker.about q) g.T.Taker.took c.args.self.now lines (c.args.self.now.entries + 3) is (λ no. refl) (λ yes. let both : true ≡ false = sym yes ∙ still in cc)
