use Rattle.std.proofs.Common.{◌<◌, None, take, length, arith, ap}
use Rattle.std.proofs.lemmas.List.{length-take}
use Rattle.tp_record.specs.Lists.{long_enough}
use Rattle.tp_record.specs.Effects.{reserves}
use Rattle.tp_record.specs.State.{slot_after}
use Rattle.tp_rules.specs.PlainState.{shown}
use Rattle.tp_rules.proofs.Tables.{change_each_more, get_or-long_enough, length-change_each}
use Rattle.tp_rules.proofs.next.slots_after.Goals as goal

pub loop-w-preserved : goal.loop-w-preserved
loop-w-preserved c =
    let slots = c.args.state.now.slots.items in
    let table = long_enough (reserves c.args.did) None slots in
    let within : c.loop-w.w < length table = omega (arith, c.in_ok-places.ensures.places, c.loop-w-test.true) in
    let more = change_each_more (slot_after c.args.did (shown c.args.state.now)) table c.loop-w.w None within in
    let read = get_or-long_enough (reserves c.args.did) None slots c.loop-w.w in
    let pushed = c.in_ok-push.ensures.items in
    cc (c.loop-w.invariant, c.slot_of.ensures, c.slot_after.ensures)

pub returns-clause-bound : goal.returns-clause-bound
returns-clause-bound c =
    let table = long_enough (reserves c.args.did) None c.args.state.now.slots.items in
    let long = length-change_each (slot_after c.args.did (shown c.args.state.now)) 0 (take c.loop-w.w table) in
    omega (arith, c.loop-w.after.ok.0, ap length c.loop-w.invariant, long, length-take c.loop-w.w table)
