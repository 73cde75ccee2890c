use Rattle.std.proofs.Common.{◌≡◌, ◌<◌, None, length, get_or, take, append_assoc}
use Rattle.tp_explore.specs.declared.deeds.Mover.TheVariants as mover
use Rattle.tp_explore.specs.Moves.{deeds_by, slot_asks, slots_deeds}
use Rattle.tp_explore.specs.Situation.{seen}
use Rattle.tp_explore.proofs.Lists.{slots_more}
use Rattle.tp_explore.proofs.deeds.add_slots.Goals as goal

pub loop-w-preserved : goal.loop-w-preserved
loop-w-preserved c =
    let plan = c.args.plan.now in
    let s = seen c.args.state.now in
    let os = c.args.state.now.pool.slots.items in
    let w = c.loop-w.w in
    let lt : w < length os = rw c.deref-slot-items.ensures.value at c.loop-w-test.true in
    let more = slot_asks plan s w (get_or os w None) in
    let asks : c.as_slice.result.now ≡ more = cc (c.as_slice.ensures.value, c.in_ok-asks.ensures, c.deref-slot-items.ensures.value) in
    rw (slots_more plan s os w None lt, c.in_ok-add.ensures, asks, c.loop-w.invariant)
    (append_assoc c.args.deeds.now.items (slots_deeds plan s 0 (take w os)) (deeds_by mover.Pool more))
