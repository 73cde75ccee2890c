use Rattle.std.proofs.Common.{Some, sym, subst}
use Rattle.std.specs.Prelude.{IfSome, IsSomeAnd}
use Rattle.tp_text_record.specs.declared.versions.Version.TheVariants as version
use Rattle.tp_text_record.specs.RecordText.{record_text}
use Rattle.tp_journal.specs.Endings.{IsWhole}
use Rattle.tp_life_journal.proofs.recorded.opened.Goals as goal

pub returns-in-Ok-recorded-clause-whole : goal.returns-in-Ok-recorded-clause-whole
returns-in-Ok-recorded-clause-whole g c =
    let contents = g.F.Write.contents in
    let report = c.in-Ok-recorded.report in
    let ended = c.in-Ok-recorded.ended in
    subst (λ o. IfSome o (λ w. IsSomeAnd (Some ended) (IsWhole contents (contents w.writer) (record_text version.Two c.args.settings report.entries.items)))) (sym c.in-Some.is)
    (subst (λ s. IsWhole contents (contents c.in-Some.wish.writer) (record_text version.Two s report.entries.items) ended) (sym c.requires.settings) c.in-Ok-recorded.ensures.whole)
