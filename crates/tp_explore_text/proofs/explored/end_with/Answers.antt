use Rattle.std.proofs.Common.{◌≡◌, ◌<◌, true, false, length, get_or, take, map, refl, sym, ap, subst, ◌∙◌, arith}
use Rattle.std.specs.Prelude.{option_map, string_bytes}
use Rattle.std.specs.List.{All, Contains}
use Rattle.std.proofs.lemmas.Grind.{common_steps}
use Rattle.std.proofs.lemmas.List.Elements.{All-contains, All-more, Contains-get_or}
use Rattle.std.proofs.lemmas.Option.{same_Some, slice_get-map, slice_get_read}
use Rattle.tp_explore_walk.specs.Moves.{IsAt}
use Rattle.tp_explore.specs.Situation.{Situation, seen}
use Rattle.tp_explore_text.specs.Ends.{has_parts}
use Rattle.tp_explore_text.proofs.explored.end_with.Goals as goal

pub returns-then-branch : goal.returns-then-branch
returns-then-branch c =
    let e = c.args.explored.now in
    let ks = e.graph.ends.items in
    let states = e.graph.states.items in
    let i = c.loop-place.place-index in
    let k = get_or c.deref-place-items.result.now i 0 in
    let state = c.index-state.result.now in
    let long : length c.deref-place-items.result.now ≡ length ks = ap length c.deref-place-items.ensures.value in
    let lt : i < length ks = omega (arith, c.loop-place-test.true, long) in
    let same : k ≡ get_or ks i 0 = ap (λ l. get_or l i 0) c.deref-place-items.ensures.value in
    let within : k < length states = subst (λ m. m < length states) (sym same) (c.requires.within i 0 lt) in
    let at : IsAt (map seen states) k (seen state) = slice_get-map seen states k ∙ ap (option_map seen) (slice_get_read states (length states) k state refl within c.index-state.ensures) in
    let end = (c.requires.walked.ended (seen state)).0 (k, subst (Contains ks) (sym same) (Contains-get_or ks i 0 lt), at) in
    let parts = map string_bytes c.args.parts.now in
    let has : has_parts e.named.labels.items (seen state) parts ≡ true = ap (λ l. has_parts l (seen state) parts) (sym c.deref.ensures.value) ∙ sym c.in_ok-has_parts.ensures ∙ c.if-branch.true in
    (seen state, at, end, has)

pub loop-place-preserved : goal.loop-place-preserved
loop-place-preserved c =
    let e = c.args.explored.now in
    let ks = e.graph.ends.items in
    let states = e.graph.states.items in
    let i = c.loop-place.place-index in
    let k = get_or c.deref-place-items.result.now i 0 in
    let state = c.index-state.result.now in
    let long : length c.deref-place-items.result.now ≡ length ks = ap length c.deref-place-items.ensures.value in
    let lt : i < length ks = omega (arith, c.loop-place-test.true, long) in
    let same : k ≡ get_or ks i 0 = ap (λ l. get_or l i 0) c.deref-place-items.ensures.value in
    let within : k < length states = subst (λ m. m < length states) (sym same) (c.requires.within i 0 lt) in
    let at : IsAt (map seen states) k (seen state) = slice_get-map seen states k ∙ ap (option_map seen) (slice_get_read states (length states) k state refl within c.index-state.ensures) in
    let at' : IsAt (map seen states) (get_or ks i 0) (seen state) = subst (λ m. IsAt (map seen states) m (seen state)) same at in
    let parts = map string_bytes c.args.parts.now in
    let lacks : has_parts e.named.labels.items (seen state) parts ≡ false = ap (λ l. has_parts l (seen state) parts) (sym c.deref.ensures.value) ∙ sym c.in_ok-has_parts.ensures ∙ c.if-branch.false in
    All-more (λ k. (z : Situation) → IsAt (map seen states) k z → has_parts e.named.labels.items z parts ≡ false) ks i 0 lt c.loop-place.invariant
    (λ z h. subst (λ y. has_parts e.named.labels.items y parts ≡ false) (same_Some _ _ (sym at' ∙ h)) lacks)

pub returns : goal.returns
returns c = λ z end.
    let e = c.args.explored.now in
    let ks = e.graph.ends.items in
    let parts = map string_bytes c.args.parts.now in
    let long : length c.deref-place-items.result.now ≡ length ks = ap length c.deref-place-items.ensures.value in
    let all : take c.loop-place.place-index ks ≡ ks = grind (arith, common_steps) in
    let none : All (λ k. (y : Situation) → IsAt (map seen e.graph.states.items) k y → has_parts e.named.labels.items y parts ≡ false) ks = rw all at c.loop-place.invariant in
    let f = (c.requires.walked.ended z).1 end in
    All-contains (λ k. (y : Situation) → IsAt (map seen e.graph.states.items) k y → has_parts e.named.labels.items y parts ≡ false) ks f.0 none f.1 z f.2
