use Rattle.std.proofs.Common.{◌≡◌}
use Rattle.std.specs.Prelude.{drop}
use Rattle.tp_ring.specs.Ring.{living}
use Rattle.tp_ring.proofs.places.first_live.Given as goal

-- none waits before i
abbrev pub invariant-loop-i : goal.invariant-loop-i
invariant-loop-i g l = living (drop l.i l.ring.items) ≡ living (drop l.from l.ring.items)
