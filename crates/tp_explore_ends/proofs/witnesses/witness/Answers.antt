use Rattle.std.proofs.Common.{◌≡◌, ◌+◌, ◌<◌, ◌≤◌, length, get_or, drop, map, subst, arith}
use Rattle.std.proofs.lemmas.List.{drop_all, drop_more, length-map}
use Rattle.tp_explore_walk.specs.declared.trails.Leg.{Leg}
use Rattle.tp_explore_walk.specs.Moves.{AreLed, IsAt}
use Rattle.tp_explore.specs.Situation.{seen}
use Rattle.tp_explore_ends.proofs.Running.{witnessed}
use Rattle.tp_explore_ends.proofs.Steps.{at_place, choice_within, followed_all, followed_more, followed_none, from_within, rows_beside, rows_led}
use Rattle.tp_explore_ends.proofs.witnesses.witness.Goals as goal

pub trail-requires-clause-led : goal.trail-requires-clause-led
trail-requires-clause-led c =
    let graph = c.args.graph.now in
    let rows = map (λ row. row.items) graph.moves.items in
    let led = rows_led c.args.exploration.now.plan (map seen graph.states.items) rows graph.ends.items c.requires.walked in
    let long : length rows ≡ length graph.moves.items = length-map graph.moves.items (λ row. row.items) in
    rw c.deref.ensures.value (subst (λ n. AreLed n rows) long led)

pub trail-requires-clause-within : goal.trail-requires-clause-within
trail-requires-clause-within c =
    let graph = c.args.graph.now in
    let rows = map (λ row. row.items) graph.moves.items in
    let beside = rows_beside c.args.exploration.now.plan (map seen graph.states.items) rows graph.ends.items c.requires.walked in
    let long : length rows ≡ length graph.moves.items = length-map graph.moves.items (λ row. row.items) in
    let many = length-map graph.states.items seen in
    rw c.deref.ensures.value (omega (arith, c.requires.within, beside, long, many))

pub loop-leg-init : goal.loop-leg-init
loop-leg-init c =
    let graph = c.args.graph.now in
    let leads = rw c.deref.ensures.value at c.in_ok-legs.ensures in
    rw (c.new-way.ensures.items, c.deref-leg-items.ensures.value)
    (followed_none c.args.exploration.now.plan (map seen graph.states.items) (map (λ row. row.items) graph.moves.items) graph.ends.items c.in_ok-legs.legs.items c.args.end c.requires.walked leads)

pub index-requires : goal.index-requires
index-requires c =
    let plan = c.args.exploration.now.plan in
    let graph = c.args.graph.now in
    let legs = c.deref-leg-items.result.now in
    let i = c.loop-leg.leg-index in
    let none : Leg = record { from = 0; choice = 0 } in
    let f = rw (drop_more legs i none c.loop-leg-test.true) at c.loop-leg.invariant in
    let long = length-map graph.states.items seen in
    let lt = from_within plan (map seen graph.states.items) (map (λ row. row.items) graph.moves.items) graph.ends.items c.requires.walked c.loop-leg.way.items (get_or legs i none) (drop (i + 1) legs) c.args.end f in
    omega arith

pub move_of-requires-clause-holds : goal.move_of-requires-clause-holds
move_of-requires-clause-holds c =
    let plan = c.args.exploration.now.plan in
    let graph = c.args.graph.now in
    let legs = c.deref-leg-items.result.now in
    let i = c.loop-leg.leg-index in
    let none : Leg = record { from = 0; choice = 0 } in
    let f = rw (drop_more legs i none c.loop-leg-test.true) at c.loop-leg.invariant in
    let long = length-map graph.states.items seen in
    let lt = from_within plan (map seen graph.states.items) (map (λ row. row.items) graph.moves.items) graph.ends.items c.requires.walked c.loop-leg.way.items (get_or legs i none) (drop (i + 1) legs) c.args.end f in
    let within : (get_or legs i none).from < length graph.states.items = omega arith in
    rw c.index.ensures (c.requires.legal (get_or legs i none).from _ within)

pub move_of-requires-clause-within : goal.move_of-requires-clause-within
move_of-requires-clause-within c =
    let plan = c.args.exploration.now.plan in
    let graph = c.args.graph.now in
    let legs = c.deref-leg-items.result.now in
    let i = c.loop-leg.leg-index in
    let none : Leg = record { from = 0; choice = 0 } in
    let xs = map seen graph.states.items in
    let rows = map (λ row. row.items) graph.moves.items in
    let f = rw (drop_more legs i none c.loop-leg-test.true) at c.loop-leg.invariant in
    let long = length-map graph.states.items seen in
    let lt = from_within plan xs rows graph.ends.items c.requires.walked c.loop-leg.way.items (get_or legs i none) (drop (i + 1) legs) c.args.end f in
    let within : (get_or legs i none).from < length graph.states.items = omega arith in
    let at : IsAt (map seen graph.states.items) (get_or legs i none).from (seen c.index.result.now) = rw c.index.ensures (at_place seen graph.states.items (get_or legs i none).from _ within) in
    choice_within plan xs rows graph.ends.items c.requires.walked c.loop-leg.way.items (get_or legs i none) (drop (i + 1) legs) c.args.end (seen c.index.result.now) f at

pub loop-leg-preserved : goal.loop-leg-preserved
loop-leg-preserved c =
    let plan = c.args.exploration.now.plan in
    let graph = c.args.graph.now in
    let legs = c.deref-leg-items.result.now in
    let i = c.loop-leg.leg-index in
    let none : Leg = record { from = 0; choice = 0 } in
    let xs = map seen graph.states.items in
    let rows = map (λ row. row.items) graph.moves.items in
    let f = rw (drop_more legs i none c.loop-leg-test.true) at c.loop-leg.invariant in
    let long = length-map graph.states.items seen in
    let lt = from_within plan xs rows graph.ends.items c.requires.walked c.loop-leg.way.items (get_or legs i none) (drop (i + 1) legs) c.args.end f in
    let within : (get_or legs i none).from < length graph.states.items = omega arith in
    let at : IsAt (map seen graph.states.items) (get_or legs i none).from (seen c.index.result.now) = rw c.index.ensures (at_place seen graph.states.items (get_or legs i none).from _ within) in
    let m = c.in_ok-move_of.field-0 in
    rw c.in_ok-push.ensures.items
    (followed_more plan xs rows graph.ends.items c.requires.walked c.loop-leg.way.items (get_or legs i none) (drop (i + 1) legs) c.args.end (seen c.index.result.now) m f at c.in_ok-move_of.ensures.is_move
    c.in_ok-move_of.ensures.leads)

pub returns : goal.returns
returns c = λ z at.
    let plan = c.args.exploration.now.plan in
    let graph = c.args.graph.now in
    let legs = c.deref-leg-items.result.now in
    let past : length legs ≤ c.loop-leg.leg-index = omega (arith, c.loop-leg-test.false) in
    let f = rw (drop_all c.loop-leg.leg-index legs past) at c.loop-leg.invariant in
    witnessed plan c.loop-leg.way.items z (followed_all plan (map seen graph.states.items) (map (λ row. row.items) graph.moves.items) c.loop-leg.way.items c.args.end z f at)
