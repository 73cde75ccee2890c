use Rattle.std.proofs.Common.{◌≡◌}
use Rattle.tp_ring.proofs.Passes.{IsPassed}
use Rattle.tp_ring.proofs.places.compact.Given as goal

abbrev pub invariant-loop-i : goal.invariant-loop-i
invariant-loop-i g l = IsPassed l.fn.ring.items l.ring.items l._i × (l.ring.capacity ≡ l.fn.ring.capacity)
