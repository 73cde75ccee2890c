use Rattle.std.proofs.Common.{sym, ◌∙◌}
use Rattle.tp_text_record.proofs.EntryLaws.{read_as, text_of_line, no_text}
use Rattle.tp_text_record.proofs.entries.read_line.Goals as goal

pub returns-in_err-ok : goal.returns-in_err-ok
returns-in_err-ok c = rw c.from_residual.ensures (no_text c.args.line.now c.from_utf8.result _ c.from_utf8.ensures.cases (sym c.ok.ensures.value ∙ c.in_err-ok.was))

pub returns : goal.returns
returns c =
    read_as c.in_ok-ok.field-0.now c.args.line.now c.entry_of.result
    (text_of_line c.args.line.now c.in_ok-ok.field-0 c.from_utf8.result _ c.from_utf8.ensures.cases (sym c.ok.ensures.value ∙ c.in_ok-ok.was)) c.entry_of.ensures
