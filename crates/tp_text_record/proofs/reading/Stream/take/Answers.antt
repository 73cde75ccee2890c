use Rattle.std.proofs.Common.{◌≡◌, ◌∙◌, ◌++◌, ap, subst, false}
use Rattle.std.specs.Prelude.{is_err}
use Rattle.tp_text_record.specs.Reading.{StopsAt}
use Rattle.tp_text_record.proofs.LinesRead.{grown, piece_refused}
use Rattle.tp_text_record.proofs.reading.Stream.take.Goals as goal

pub returns-clause-refused : goal.returns-clause-refused
returns-clause-refused g c = λ bytes later is.
    let s = c.args.self.now in
    let well : is_err c.extend_from_slice.result ≡ false = cc (c.is_err.ensures.value, c.if-is_err.false) in
    let goes : c.as_slice.result.now ≡ s.left.items ++ c.args.piece.now =
    c.as_slice.ensures.value ∙ grown c.extend_from_slice.result _ _ _ well c.extend_from_slice.ensures.items ∙ ap (λ v. v.items ++ c.args.piece.now) c.replace-text.ensures.value in
    piece_refused (g.T.Taker.about c.args.question.now) g.T.Taker.took s bytes c.args.piece.now c.in-Err.rest.now later c.in-Err.refusal is
    (λ lines read. subst (λ text. StopsAt lines text c.in-Err.rest.now c.in-Err.refusal) goes (c.in-Err.ensures.refused lines read))
