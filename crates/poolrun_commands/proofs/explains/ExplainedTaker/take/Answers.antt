use Rattle.std.proofs.Common.{◌≡◌, ◌∙◌, ap}
use Rattle.tp_audit.specs.Audited.{settings}
use Rattle.tp_text_record.specs.declared.judging.Judging.{Judging}
use Rattle.poolrun_commands.specs.declared.explains.Explained.{Explained}
use Rattle.poolrun_commands.proofs.explains.ExplainedTaker.take.Goals.{then-self+then-is_none, else-self}
use Rattle.poolrun_commands.proofs.explains.ExplainedTaker.take.Goals as goal

pub returns-clause-about : goal.returns-clause-about
returns-clause-about c = λ q v d is.
    let same : c.if-self.self.judging ≡ c.args.self.now.judging =
    elim c.if-self.branch [
      | then-self+then-is_none w ↦ ap (λ (s : Explained). s.judging) w.self-is
      | else-self w ↦ ap (λ (s : Explained). s.judging) w.self-is
    ] in
    c.take.ensures.about tt v d (ap (λ (j : Judging). settings j.auditor) same ∙ is)
