use Rattle.std.proofs.Common.{sym, subst}
use Rattle.tp_audit.specs.Audited.{Judged}
use Rattle.tp_story.specs.Since.{Timed}
use Rattle.tp_story.proofs.Cutting.{none_yet}
use Rattle.tp_story.proofs.fronts.Front.new.Goals as goal

pub returns-in-Ok-clause-follows : goal.returns-in-Ok-clause-follows
returns-in-Ok-clause-follows c =
    record {
      config = sym c.in-Ok.ensures.settings;
      judged = subst (λ g. Judged c.in-Ok.auditor g) (sym (none_yet c.args.until)) c.in-Ok.ensures.judged;
      timed = subst (λ g. Timed g c.new-in-Ok.result) (sym (none_yet c.args.until)) c.new-in-Ok.ensures;
    }
