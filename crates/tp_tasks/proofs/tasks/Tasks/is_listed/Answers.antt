use Rattle.std.proofs.Common.{sym, ◌∙◌}
use Rattle.tp_tasks.proofs.Listed.{listed_there, there_listed}
use Rattle.tp_tasks.proofs.tasks.Tasks.is_listed.Goals as goal

pub returns : goal.returns
returns g c =
    let m = c.args.self.now in (
      (λ yes. listed_there m.groups m.tasks c.args.t.0 m.listed (sym c.is_listed.ensures ∙ yes)),
      (λ there. c.is_listed.ensures ∙ there_listed m.groups m.tasks c.args.t.0 there.0 m.listed there.1),
    )
