use Rattle.std.proofs.Common.{sym, subst}
use Rattle.tp_text.specs.Lines.{IsLines}
use Rattle.tp_text_record.proofs.LinesRead.{refused_end}
use Rattle.tp_text_record.proofs.reading.Stream.finish.Goals as goal

pub returns-in-Err-clause-refused : goal.returns-in-Err-clause-refused
returns-in-Err-clause-refused g c = λ q bytes is.
    let parts = subst (λ left. IsLines bytes is.lines left) (sym c.as_slice-2.ensures.value) is.parts in
    refused_end (g.T.Taker.about q) g.T.Taker.took is.lines c.as_slice-2.result.now bytes c.in-Err.refusal parts (c.in-Err.ensures.refused q bytes is.lines is.read parts)
