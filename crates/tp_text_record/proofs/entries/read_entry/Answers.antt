use Rattle.std.proofs.Common.{◌≡◌, true}
use Rattle.tp_text_record.proofs.OneText.{unsuited_line}
use Rattle.tp_text_record.proofs.entries.read_entry.Goals as goal

pub returns-in_err-number : goal.returns-in_err-number
returns-in_err-number c = rw c.from_residual.ensures (λ p fits. c.in_err-number.ensures p (fits.0, fits.1.0))

pub returns-then-suits : goal.returns-then-suits
returns-then-suits c = ((c.in_ok-number.ensures.0.0, (c.in_ok-number.ensures.0.1, c.suits.ensures.0 c.if-suits.true)), c.in_ok-number.ensures.1)

pub returns-else-suits : goal.returns-else-suits
returns-else-suits c =
    unsuited_line c.args.version c.args.line.now c.in_ok-number.number c.in_ok-number.entry c.in_ok-number.ensures.0.0 c.in_ok-number.ensures.0.1 c.in_ok-number.ensures.1
    (λ suits. let yes : c.suits.result ≡ true = c.suits.ensures.1 suits in let no = c.if-suits.false in cc)
