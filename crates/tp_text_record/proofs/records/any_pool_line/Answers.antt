use Rattle.std.proofs.Common.{sym, ◌∙◌}
use Rattle.tp_text_record.specs.RecordText.{HasPoolLine, pool_line}
use Rattle.tp_text_record.proofs.BodyLines.{not_utf8}
use Rattle.tp_text_record.proofs.RecordLines.{pool_line-plain}
use Rattle.tp_text_record.proofs.records.any_pool_line.Goals as goal

pub returns-in_err-ok : goal.returns-in_err-ok
returns-in_err-ok c =
    rw c.from_residual.ensures
    (not_utf8 c.args.line.now c.from_utf8.result _ pool_line HasPoolLine (λ v fits. (pool_line-plain v fits).ascii) c.from_utf8.ensures.cases (sym c.ok.ensures.value ∙ c.in_err-ok.was))
