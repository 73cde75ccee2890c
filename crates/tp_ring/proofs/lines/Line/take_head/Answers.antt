use Rattle.std.proofs.Common.{◌∙◌, ◌/◌, sym, ap, arith, length}
use Rattle.tp_ring.specs.Ring.{living}
use Rattle.tp_ring.proofs.Deaths.{living_front, trims_rises}
use Rattle.tp_ring.proofs.lines.Line.take_head.Goals as goal

pub invariant_of-self-2 : goal.invariant_of-self-2
invariant_of-self-2 g c =
    let is = ap (λ b. b.items) c.pop_front.ensures.items in
    let one = living_front c.self.inside.ring.items c.in_ok-item.item c.self.invariant.front (sym c.pop_front.ensures.value ∙ c.in_ok-item.was) in
    let left = ap length (c.trim.ensures.living ∙ ap living is) in
    let half = ap (λ n. n / 2) (c.trim.ensures.capacity ∙ ap (λ b. b.capacity) c.pop_front.ensures.items) in
    let counted = c.self.invariant.counted in
    record {
      rises = c.trim.ensures.rises c.self.inside.offers (rw is (trims_rises c.self.inside.ring.items c.self.inside.offers c.self.invariant.rises));
      counted = omega (arith, one, left, counted);
      within = omega (arith, one, left, counted, half, c.self.invariant.within);
      front = c.trim.ensures.front;
    }
