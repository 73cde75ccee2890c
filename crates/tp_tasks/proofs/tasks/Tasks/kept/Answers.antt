use Rattle.std.proofs.Common.{ap, ◌∙◌}
use Rattle.std.specs.Prelude.{◌+◌, length}
use Rattle.tp_tasks.proofs.Away.{kept_counted}
use Rattle.tp_tasks.proofs.tasks.Tasks.kept.Goals as goal

pub returns-clause-released : goal.returns-clause-released
returns-clause-released g c = λ rs away.
    let m = c.args.self.now in
    ap (λ k. k + length rs) c.len.ensures ∙ kept_counted m.tasks m.submitted m.below rs away.once away.below away.kept
