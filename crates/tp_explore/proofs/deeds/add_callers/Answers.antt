use Rattle.std.proofs.Common.{◌≡◌, ◌<◌, length, get_or, take, append_assoc}
use Rattle.tp_explore.specs.declared.callers.Caller.{Caller}
use Rattle.tp_explore.specs.declared.callers.Doing.TheVariants.{Nothing}
use Rattle.tp_explore.specs.declared.deeds.Mover.TheVariants as mover
use Rattle.tp_explore.specs.Moves.{caller_asks, callers_deeds, deeds_by, moved_on}
use Rattle.tp_explore.specs.Situation.{calls_of, seen}
use Rattle.tp_explore.proofs.Lists.{callers_more}
use Rattle.tp_explore.proofs.deeds.add_callers.Goals as goal

pub loop-i-preserved : goal.loop-i-preserved
loop-i-preserved c =
    let plan = c.args.plan.now in
    let s = seen c.args.state.now in
    let cs = c.args.state.now.callers.items in
    let i = c.loop-i.i in
    let none : Caller = record { left = 0; doing = Nothing } in
    let lt : i < length cs = rw c.deref-caller-items.ensures.value at c.loop-i-test.true in
    let more = caller_asks plan s (calls_of plan i) (moved_on s (calls_of plan i) (get_or cs i none)) in
    let asks : c.as_slice.result.now ≡ more = cc (c.as_slice.ensures.value, c.in_ok-asks.ensures, c.moved_on.ensures, c.calls_of-calls.ensures, c.deref-caller-items.ensures.value) in
    rw (callers_more plan s cs i none lt, c.in_ok-add.ensures, asks, c.loop-i.invariant)
    (append_assoc c.args.deeds.now.items (callers_deeds plan s 0 (take i cs)) (deeds_by (mover.Caller i) more))
