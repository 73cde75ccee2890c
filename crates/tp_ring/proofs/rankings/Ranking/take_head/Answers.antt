use Rattle.std.proofs.Common.{[], arith}
use Rattle.std.specs.VecDeque.{deque_capacity}
use Rattle.tp_ring.proofs.Keyed.{less_ranked}
use Rattle.tp_ring.proofs.rankings.Ranking.take_head.Goals as goal

pub invariant_of-self-2 : goal.invariant_of-self-2
invariant_of-self-2 g c =
    less_ranked [] c.pop_front.new.self.items c.in_ok-item.item c.self.inside.places (deque_capacity c.self.inside.items) (deque_capacity c.pop_front.new.self) c.self.inside.offers
    (rw (← c.in_ok-item.ensures.items) c.self.invariant) (omega (arith, c.pop_front.ensures.capacity))
