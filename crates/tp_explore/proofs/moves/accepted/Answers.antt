use Rattle.std.proofs.Common.{rules}
use Rattle.tp_explore.proofs.moves.accepted.Goals as goal

pub returns-in-Pool-clause-after : goal.returns-in-Pool-clause-after
returns-in-Pool-clause-after c = let after = c.pool_moved.ensures.after c.args.plan.now in search rules
