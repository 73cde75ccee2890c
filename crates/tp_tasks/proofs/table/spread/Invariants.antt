use Rattle.tp_tasks.specs.Homes.{AreSpread}
use Rattle.tp_tasks.proofs.table.spread.Given as goal

abbrev pub invariant-loop-place : goal.invariant-loop-place
invariant-loop-place g l = AreSpread l.place l.fn.old l.fn.homes.items l.homes.items
