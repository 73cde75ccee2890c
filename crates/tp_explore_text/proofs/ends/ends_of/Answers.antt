use Rattle.std.proofs.Common.{◌≡◌, ◌<◌, ◌+◌, ◌++◌, ◌∷◌, [], length, get_or, take, map, refl, sym, ap, subst, ◌∙◌, arith}
use Rattle.std.specs.Prelude.{option_map, string_bytes}
use Rattle.std.proofs.lemmas.Grind.{common_steps}
use Rattle.std.proofs.lemmas.List.{take_more}
use Rattle.std.proofs.lemmas.Option.{same_Some, slice_get-map, slice_get_read}
use Rattle.tp_explore_walk.specs.declared.counts.Count.TheVariants.{Over}
use Rattle.tp_explore_walk.specs.Moves.{IsAt}
use Rattle.tp_explore_walk.specs.Paths.{Tells}
use Rattle.tp_explore.specs.Situation.{seen}
use Rattle.tp_explore_text.specs.Ends.{end_text}
use Rattle.tp_explore_text.proofs.Told.{any_default, told-begin, told-ordered, told-turn}
use Rattle.tp_explore_text.proofs.ends.ends_of.Goals as goal

pub loop-i-init : goal.loop-i-init
loop-i-init c = λ zs ns at tells. told-begin c.args.labels.now _ zs ns _ c.new-ends.ensures.items at tells

pub loop-i-preserved : goal.loop-i-preserved
loop-i-preserved c =
    let labels = c.args.labels.now in
    let ks = c.args.graph.now.ends.items in
    let states = c.args.graph.now.states.items in
    let cs = c.args.counts.now in
    let i = c.loop-i.i in
    let ltc : i < length cs = c.loop-i-test.true in
    let ltk : i < length ks = omega (arith, ltc, c.requires.beside) in
    let k = c.index-place.result.now in
    let is : k ≡ get_or ks i 0 = c.index-place.ensures ∙ any_default ks i k 0 ltk in
    let within : k < length states = subst (λ m. m < length states) (sym is) (c.requires.within i 0 ltk) in
    let state = c.index.result.now in
    let there : IsAt (map seen states) k (seen state) = slice_get-map seen states k ∙ ap (option_map seen) (slice_get_read states (length states) k state refl within c.index.ensures) in
    let text = string_bytes c.in_ok-end_text.field-0 in
    let more : take (i + 1) ks ≡ take i ks ++ k ∷ [] = take_more ks i 0 ltk ∙ ap (λ m. take i ks ++ m ∷ []) (sym is) in
    rw (more, take_more cs i Over ltc)
    (told-turn labels (map seen states) (take i ks) (take i cs) k (get_or cs i Over) text c.loop-i.ends.items _ c.loop-i.invariant
    (λ z h. subst (λ y. end_text labels y ≡ text) (same_Some _ _ (sym there ∙ h)) (sym c.in_ok-end_text.ensures))
    (λ zs ns z n told at same tells. c.in_ok-add.ensures labels (map seen states) zs ns z n told at same (subst (λ q. Tells q n) (any_default cs i Over _ ltc) tells)))

pub returns : goal.returns
returns c = λ zs ns at tells.
    let ks = c.args.graph.now.ends.items in
    let cs = c.args.counts.now in
    let all_places : take c.loop-i.i ks ≡ ks = let b = c.requires.beside in grind (arith, common_steps) in
    let all_counts : take c.loop-i.i cs ≡ cs = grind (arith, common_steps) in
    told-ordered c.args.labels.now _ zs ns _ _ ((rw (all_places, all_counts) at c.loop-i.invariant) zs ns at tells) c.in_order.ensures
