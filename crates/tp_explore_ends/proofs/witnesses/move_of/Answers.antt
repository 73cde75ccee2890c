use Rattle.std.proofs.Common.{rules, ◌≡◌, ◌<◌, length, map, get_or, sym, ap, ◌∙◌, subst, arith}
use Rattle.std.proofs.lemmas.List.{get_or-map, length-map}
use Rattle.std.proofs.lemmas.Option.{slice_get_read}
use Rattle.tp_explore_walk.specs.Moves.{IsAt}
use Rattle.tp_explore.specs.declared.moves.Move.{Move}
use Rattle.tp_explore.specs.Moves as spec
use Rattle.tp_explore.specs.Situation.{seen}
use Rattle.tp_explore.proofs.Lowering.{is_small}
use Rattle.tp_explore_ends.proofs.witnesses.move_of.Goals as goal

pub moves-requires : goal.moves-requires
moves-requires c = is_small c.args.plan.now (seen c.args.state.now) c.requires.holds

pub returns-clause-is_move : goal.returns-clause-is_move
returns-clause-is_move c =
    let all = c.in_ok-all.all.items in
    let m = c.swap_remove.result in
    let same = ap length c.in_ok-all.ensures.after in
    let lt : c.args.choice < length all = omega (arith, c.requires.within, length-map all (λ (m : Move). seen m.after), same) in
    let at : get_or all c.args.choice m ≡ m = search rules in
    subst (λ x. spec.IsMove c.args.plan.now (seen c.args.state.now) x) at (c.in_ok-all.ensures.each c.args.choice m lt)

pub returns-clause-leads : goal.returns-clause-leads
returns-clause-leads c =
    let all = c.in_ok-all.all.items in
    let m = c.swap_remove.result in
    let same = ap length c.in_ok-all.ensures.after in
    let long = length-map all (λ (m : Move). seen m.after) in
    let lt : c.args.choice < length all = omega (arith, c.requires.within, long, same) in
    let at : get_or all c.args.choice m ≡ m = search rules in
    let there = get_or-map (λ (m : Move). seen m.after) all c.args.choice m (seen m.after) lt in
    let is : seen m.after ≡ get_or (map (λ (m : Move). seen m.after) all) c.args.choice (seen m.after) = sym (there ∙ ap (λ (x : Move). seen x.after) at) in
    let read = slice_get_read (map (λ (m : Move). seen m.after) all) (length all) c.args.choice (seen m.after) (sym long) lt is in
    subst (λ xs. IsAt xs c.args.choice (seen m.after)) c.in_ok-all.ensures.after read
