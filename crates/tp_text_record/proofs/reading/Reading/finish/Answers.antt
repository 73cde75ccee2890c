use Rattle.std.proofs.Common.{◌≡◌, ◌⊎◌, ℕ, List, inr, sym, subst}
use Rattle.std.specs.Prelude.{IfErr}
use Rattle.tp_types.specs.declared.refusals.PoolError.TheVariants.{ReadFailed}
use Rattle.tp_text.specs.Lines.{IsLines}
use Rattle.tp_text_record.specs.ReadRecord.{IsWrongAt}
use Rattle.tp_text_record.specs.Reading.{AreTooMany, IsRead}
use Rattle.tp_text_record.proofs.LinesRead.{missing_header, missing_pool}
use Rattle.tp_text_record.proofs.reading.Reading.finish.Goals as goal

pub returns-in-Start-clause-refused : goal.returns-in-Start-clause-refused
returns-in-Start-clause-refused g c = λ q text lines is are.
    inr (missing_header (g.T.Taker.about q) g.T.Taker.took text c.args.left.now lines (subst (λ r. IsRead (g.T.Taker.about q) g.T.Taker.took r lines) c.in-Start.is is) are)

pub returns-in-Formed-clause-refused : goal.returns-in-Formed-clause-refused
returns-in-Formed-clause-refused g c = λ q text lines is are.
    inr (missing_pool (g.T.Taker.about q) g.T.Taker.took _ text c.args.left.now lines (subst (λ r. IsRead (g.T.Taker.about q) g.T.Taker.took r lines) c.in-Formed.is is) are)

pub returns-in-Opened-clause-refused : goal.returns-in-Opened-clause-refused
returns-in-Opened-clause-refused g c =
    subst (λ r. IfErr c.finish.result (λ e. (q : _) (text : List ℕ) (lines : List (List ℕ)) → IsRead (g.T.Taker.about q) g.T.Taker.took r lines → IsLines text lines c.args.left.now → ((e ≡ ReadFailed) × AreTooMany lines) ⊎ IsWrongAt text e))
    (sym c.in-Opened.is) c.finish.ensures.refused
