use Rattle.std.proofs.Common.{◌≡◌, ◌++◌, ◌^◌, suc, take, drop, ap, ◌∙◌, sym, arith}
use mathlib.Core.Path.{refl}
use Rattle.std.specs.Prelude.{slice_get}
use Rattle.std.specs.VecDeque.{deque_capacity}
use Rattle.std.proofs.lemmas.Option.{same_Some, slice_get_past, none-some}
use Rattle.tp_ring.specs.Line.{line, without_place}
use Rattle.tp_ring.specs.Ranks.{key}
use Rattle.tp_ring.specs.Ranking.{keyed}
use Rattle.tp_ring.proofs.Cuts.{get_is, get-drop}
use Rattle.tp_ring.proofs.Keyed.{less_ranked, around, removed, absent, same_key, other_key, number_found}
use Rattle.tp_ring.proofs.rankings.Ranking.remove.Goals as goal

pub invariant_of-self : goal.invariant_of-self
invariant_of-self g c =
    let xs = c.self.inside.items.items in
    let at = c.first_at-at.result in
    let x = c.in-Some.item.now in
    let h = c.in-Some.ensures.item in
    let found = get_is xs at x h.3.0 c.in-Some.ensures.lookup in
    let is : c.remove.new.self.items ≡ take at xs ++ drop (suc at) xs = rw (c.remove.ensures.succeeds x (c.in-Some.ensures.variant.0 refl)) at c.remove.ensures.items in
    rw is (less_ranked (take at xs) (drop (suc at) xs) x c.self.inside.places (deque_capacity c.self.inside.items) (deque_capacity c.remove.new.self) c.self.inside.offers
    (rw (← around at xs x found) c.self.invariant) (omega (arith, c.remove.ensures.capacity)))

pub returns-then-is_at : goal.returns-then-is_at
returns-then-is_at g c =
    let xs = c.self.inside.items.items in
    let at = c.first_at-at.result in
    let x = c.in-Some.item.now in
    let h = c.in-Some.ensures.item in
    let v = c.self.view_is in
    let found = get_is xs at x h.3.0 c.in-Some.ensures.lookup in
    let is : c.remove.new.self.items ≡ take at xs ++ drop (suc at) xs = rw (c.remove.ensures.succeeds x (c.in-Some.ensures.variant.0 refl)) at c.remove.ensures.items in
    let same = same_key c.is_at.result x.rank x.number c.args.rank c.args.number c.is_at.ensures c.if-is_at.true in
    let now = ap keyed is ∙ removed at 0 xs x (2 ^ 96) c.self.invariant.rises found ∙ ap (λ k. without_place k (keyed xs)) same ∙ ap (λ l. without_place (key c.args.rank c.args.number) l.items) v in
    λ i. line (now i) (v i).capacity (v i).offers

pub returns-else-is_at : goal.returns-else-is_at
returns-else-is_at g c =
    let xs = c.self.inside.items.items in
    let at = c.first_at-at.result in
    let x = c.in-Some.item.now in
    let h = c.in-Some.ensures.item in
    let v = c.self.view_is in
    let found = get_is xs at x h.3.0 c.in-Some.ensures.lookup in
    let number = number_found c.self.inside.offers xs at x c.self.invariant.numbers found in
    let ne = other_key c.is_at.result x.rank x.number c.args.rank c.args.number c.is_at.ensures c.if-is_at.false (omega (arith, number)) (omega arith) in
    let gone = absent (key c.args.rank c.args.number) 0 xs (2 ^ 96) c.self.invariant.rises
    (λ z first same. ne (ap (λ y. key y.rank y.number) (same_Some x z (sym found ∙ sym (get-drop at xs) ∙ ap (λ ys. slice_get ys 0) c.first_at-at.ensures ∙ first)) ∙ same)) in
    sym v ∙ ap (λ ys. line ys c.self.inside.places c.self.inside.offers) gone ∙ (λ i. line (without_place (key c.args.rank c.args.number) (v i).items) (v i).capacity (v i).offers)

pub returns-in_default : goal.returns-in_default
returns-in_default g c =
    let xs = c.self.inside.items.items in
    let at = c.first_at-at.result in
    let v = c.self.view_is in
    let none = slice_get_past xs at c.in_default.ensures.item.3 in
    let gone = absent (key c.args.rank c.args.number) 0 xs (2 ^ 96) c.self.invariant.rises
    (λ z first same. none-some z (sym none ∙ sym (get-drop at xs) ∙ ap (λ ys. slice_get ys 0) c.first_at-at.ensures ∙ first)) in
    sym v ∙ ap (λ ys. line ys c.self.inside.places c.self.inside.offers) gone ∙ (λ i. line (without_place (key c.args.rank c.args.number) (v i).items) (v i).capacity (v i).offers)
