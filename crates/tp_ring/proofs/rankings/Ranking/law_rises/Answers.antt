use Rattle.std.proofs.Common.{ap, arith, length}
use Rattle.tp_ring.proofs.Keyed.{numbered, keyed-length}
use Rattle.tp_ring.proofs.rankings.Ranking.law_rises.Goals as goal

pub returns-clause-keys : goal.returns-clause-keys
returns-clause-keys g c = rw (← c.self.view_is) c.self.invariant.rises

pub returns-clause-numbers : goal.returns-clause-numbers
returns-clause-numbers g c = rw (← c.self.view_is) (numbered c.self.inside.offers c.self.inside.items.items (omega arith) c.self.invariant.numbers c.self.invariant.once)

pub returns-clause-few : goal.returns-clause-few
returns-clause-few g c =
    let v = c.self.view_is in
    let len = keyed-length c.self.inside.items.items in
    let few = c.self.invariant.few in
    let l = ap (λ s. length s.items) v in
    let n = ap (λ s. s.offers) v in
    omega (arith, len, few, l, n)
