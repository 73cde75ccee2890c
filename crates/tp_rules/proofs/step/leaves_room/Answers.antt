use Rattle.std.proofs.Common.{◌+◌, ◌∙◌, ap}
use Rattle.std.specs.Prelude.{nat_le}
use Rattle.tp_record.specs.State.{State, due}
use Rattle.tp_rules.proofs.step.leaves_room.Goals as goal

pub returns-clause-leaves : goal.returns-clause-leaves
returns-clause-leaves c =
    c.has_room.ensures ∙ ap (λ (s : State). nat_le (s.steps + due s) c.args.config.now.record_limit) c.in_ok-after.ensures.next
