use Rattle.std.proofs.Common.{◌-◌}
use Rattle.tp_ring.specs.Split.{IsBetween}
use Rattle.tp_ring.proofs.places.lower_bound.Given as goal

abbrev pub invariant-loop-low : goal.invariant-loop-low
invariant-loop-low g l = IsBetween l.ring.items l.number l.low l.high

abbrev pub decreases-loop-low : goal.decreases-loop-low
decreases-loop-low g l = l.high - l.low
