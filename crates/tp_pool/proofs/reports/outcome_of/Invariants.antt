use Rattle.std.proofs.Common.{All, take}
use Rattle.tp_pool.specs.Outcomes.{GivesNone}
use Rattle.tp_pool.proofs.reports.outcome_of.Given as goal

abbrev pub invariant-loop-packed : goal.invariant-loop-packed
invariant-loop-packed l = All (GivesNone l.t.0) (take l.packed-index l.packed-items)
