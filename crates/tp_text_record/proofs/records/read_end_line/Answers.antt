use Rattle.std.proofs.Common.{sym, ◌∙◌}
use Rattle.tp_text.specs.Fits.{Fits32}
use Rattle.tp_text_record.specs.RecordText.{end_line}
use Rattle.tp_text_record.proofs.BodyLines.{not_utf8}
use Rattle.tp_text_record.proofs.RecordLines.{end_line-plain}
use Rattle.tp_text_record.proofs.records.read_end_line.Goals as goal

pub returns-in_err-ok : goal.returns-in_err-ok
returns-in_err-ok c =
    rw c.from_residual.ensures
    (not_utf8 c.args.line.now c.from_utf8.result _ end_line Fits32 (λ v fits. (end_line-plain v fits).ascii) c.from_utf8.ensures.cases (sym c.ok.ensures.value ∙ c.in_err-ok.was))
