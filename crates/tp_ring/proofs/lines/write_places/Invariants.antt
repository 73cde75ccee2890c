use Rattle.std.proofs.Common.{◌≡◌}
use Rattle.tp_ring.proofs.lines.write_places.Given as goal

abbrev pub invariant-loop : goal.invariant-loop
invariant-loop g l = l.ring.capacity ≡ l.fn.ring.capacity
