use Rattle.std.proofs.Common.{arith}
use Rattle.tp_ring.proofs.Keyed.{counted, ordered-few}
use Rattle.tp_ring.proofs.Offers.{Ordered-living}
use Rattle.tp_ring.proofs.lines.Line.law_rises.Goals as goal

pub returns-clause-rises : goal.returns-clause-rises
returns-clause-rises g c = rw (← c.self.view_is) (Ordered-living 0 c.self.inside.ring.items c.self.inside.offers c.self.invariant.rises)

pub returns-clause-numbers : goal.returns-clause-numbers
returns-clause-numbers g c = rw (← c.self.view_is) (counted 0 _ c.self.inside.offers (omega arith) (Ordered-living 0 c.self.inside.ring.items c.self.inside.offers c.self.invariant.rises))

pub returns-clause-few : goal.returns-clause-few
returns-clause-few g c = rw (← c.self.view_is) (ordered-few 0 _ c.self.inside.offers (Ordered-living 0 c.self.inside.ring.items c.self.inside.offers c.self.invariant.rises))
