use Rattle.std.proofs.Common.{sym, ap, subst, ◌∙◌}
use Rattle.tp_ring.specs.Line.{ids}
use Rattle.tp_record.specs.Lists.{without}
use Rattle.tp_audit.specs.Queued.{HaveRanks}
use Rattle.tp_audit.specs.Ranked.{keyed}
use Rattle.tp_audit.proofs.Placing.{ids-absent}
use Rattle.tp_audit.proofs.Treed.{kept_less, tasks_less, ranks_less}
use Rattle.tp_audit.proofs.ranks.Ranks.remove.Goals as goal

pub invariant_of-self : goal.invariant_of-self
invariant_of-self c =
    let inside = c.self.inside in
    kept_less inside.tasks.entries inside.keys inside.came c.self.invariant c.args.t c.in-Some.key c.in-Some.ensures.value c.remove.new.self.entries c.remove.ensures.entries c.swap_remove.new.self c.swap_remove.ensures.updates

pub returns-in-Some-clause-tasks : goal.returns-in-Some-clause-tasks
returns-in-Some-clause-tasks c =
    let inside = c.self.inside in
    tasks_less inside.tasks.entries inside.keys inside.came c.self.invariant c.args.t c.in-Some.key c.in-Some.ensures.value c.remove.new.self.entries c.remove.ensures.entries c.swap_remove.new.self c.swap_remove.ensures.updates
    ∙ ap (λ xs. without c.args.t (ids xs)) c.self.view_is

pub returns-in-Some-clause-ranks : goal.returns-in-Some-clause-ranks
returns-in-Some-clause-ranks c = λ ranks are.
    let inside = c.self.inside in
    ranks_less inside.tasks.entries inside.keys inside.came c.self.invariant c.args.t c.in-Some.key c.in-Some.ensures.value c.remove.new.self.entries c.remove.ensures.entries
    ranks (subst (HaveRanks ranks) (sym c.self.view_is) are)

pub returns-in_default-clause-tasks : goal.returns-in_default-clause-tasks
returns-in_default-clause-tasks c =
    ids-absent (keyed c.self.inside.tasks.entries) c.self.inside.keys c.args.t c.self.invariant.placed (sym c.in_default.is ∙ c.swap_remove.ensures.value)
    ∙ ap (λ xs. without c.args.t (ids xs)) c.self.view_is
