use Rattle.std.proofs.Common.{List, ℕ, sym, subst}
use Rattle.std.specs.Prelude.{IfErr}
use Rattle.tp_text_record.specs.Reading.{IsRead, RefusesLine}
use Rattle.tp_text_record.proofs.LinesRead.{err_on}
use Rattle.tp_text_record.proofs.reading.Reading.take.Goals as goal

pub returns-in-Opened-clause-refused : goal.returns-in-Opened-clause-refused
returns-in-Opened-clause-refused g c =
    subst (λ r. IfErr c.take.result (λ e. (lines : List (List ℕ)) → IsRead (g.T.Taker.about c.args.question.now) g.T.Taker.took r lines → RefusesLine lines c.args.line.now e)) (sym c.in-Opened.is)
    (err_on c.take.result _ _ (λ e refused. refused c.args.question.now) c.take.ensures.refused)
