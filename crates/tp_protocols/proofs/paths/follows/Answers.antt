use Rattle.std.proofs.Common.{◌∙◌, ap, sym}
use Rattle.tp_record.specs.Paths.{follows as what_follows}
use Rattle.tp_protocols.proofs.paths.follows.Goals as goal

pub returns-in-Open : goal.returns-in-Open
returns-in-Open c = c.after_open.ensures c.in-Open.field-0 ∙ ap (λ d. what_follows c.args.t.0 d) (sym c.in-Open.is)

pub returns-in-Fail : goal.returns-in-Fail
returns-in-Fail c = c.after_fail.ensures c.in-Fail.field-0 ∙ ap (λ d. what_follows c.args.t.0 d) (sym c.in-Fail.is)

pub returns-in-Verdict : goal.returns-in-Verdict
returns-in-Verdict c = c.after_verdict.ensures c.args.t.0 c.in-Verdict.field-0 c.in-Verdict.field-1 ∙ ap (λ d. what_follows c.args.t.0 d) (sym c.in-Verdict.is)
