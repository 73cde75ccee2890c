use Rattle.std.proofs.Common.{◌≡◌, ◌∙◌, subst}
use Rattle.std.specs.Prelude.{IfOk}
use Rattle.tp_text_record.specs.declared.versions.Version.TheVariants as version
use Rattle.tp_text_record.specs.RecordText.{record_text as text_of}
use Rattle.poolrun_program.proofs.texts.report_text.Goals as goal

pub returns-clause-text : goal.returns-clause-text
returns-clause-text c =
    subst (λ es. IfOk c.record_text.result (λ text. text.items ≡ text_of version.Two c.args.config.now es)) (c.as_slice-2.ensures.value ∙ c.in-Ok.ensures ∙ c.as_slice.ensures.value)
    c.record_text.ensures.text
