use Rattle.std.proofs.Common.{◌≡◌, ℕ, length}
use Rattle.tp_ring.specs.Ring.{living, Rises}
use Rattle.tp_ring.proofs.places.trim.Given as goal

abbrev pub invariant-loop-item : goal.invariant-loop-item
invariant-loop-item g l = (living l.ring.items ≡ living l.fn.ring.items) × (l.ring.capacity ≡ l.fn.ring.capacity) × ((next : ℕ) → Rises 0 l.fn.ring.items next → Rises 0 l.ring.items next)

abbrev pub decreases-loop-item : goal.decreases-loop-item
decreases-loop-item g l = length l.ring.items
