use Rattle.std.proofs.Common.{◌≡◌, ◌∙◌, ◌+◌, ◌/◌, ◌++◌, ◌∷◌, [], sym, ap, length, arith}
use Rattle.tp_ring.specs.Ring.{living}
use Rattle.tp_ring.specs.Line.{line}
use Rattle.tp_ring.proofs.Offers.{push_is, living_push, line_push}
use Rattle.tp_ring.proofs.lines.Line.offer.Goals as goal

pub invariant_of-self : goal.invariant_of-self
invariant_of-self g c =
    let placed = c.make_place.ensures in
    let half : c.make_place.new.ring.capacity / 2 ≡ c.capacity.result = ap (λ n. n / 2) placed.capacity ∙ ap (λ l. l.capacity) c.self.view_is ∙ sym c.capacity.ensures.capacity in
    let is = push_is c.make_place.new.ring c.push_back.new.self c.args.id c.self.inside.offers placed.free c.push_back.ensures.items in
    rw is (line_push c.make_place.new.ring.items (c.make_place.new.ring.capacity / 2) c.self.inside.live c.self.inside.offers c.args.id
    (placed.rises c.self.inside.offers c.self.invariant.rises) placed.front (c.self.invariant.counted ∙ ap length (sym placed.living)) (omega (arith, half, c.if-self-capacity.false)))

pub returns-clause-queued : goal.returns-clause-queued
returns-clause-queued g c =
    let placed = c.make_place.ensures in
    let v = c.self.view_is in
    let is = push_is c.make_place.new.ring c.push_back.new.self c.args.id c.self.inside.offers placed.free c.push_back.ensures.items in
    let xs = ap (λ b. living b.items) is ∙ living_push c.make_place.new.ring.items c.args.id c.self.inside.offers ∙ ap (λ ys. ys ++ (c.args.id, c.self.inside.offers) ∷ []) (placed.living ∙ ap (λ l. l.items) v) in
    let n = ap (λ b. b.capacity / 2) is ∙ ap (λ m. m / 2) placed.capacity ∙ ap (λ l. l.capacity) v in
    (ap (λ l. l.offers) v, λ i. line (xs i) (n i) ((v i).offers + 1))
