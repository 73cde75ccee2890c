use Rattle.std.proofs.Common.{◌≡◌, ℕ, [], None, arith, ap, subst}
use Rattle.tp_record.specs.Lists.{is_it}
use Rattle.tp_record.specs.State.{slot_after}
use Rattle.tp_audit.specs.Readings.{read}
use Rattle.tp_audit.proofs.Entries.{unmade}
use Rattle.tp_audit.proofs.Sweeping.{Swept, swept_step, swept_end, head_among, length-without_head, among-without, no_head}
use Rattle.tp_audit.proofs.wide.wake_all.Goals as goal

pub loop-w-smaller : goal.loop-w-smaller
loop-w-smaller c =
    let less = length-without_head c.loop-w.idling c.in-Some.w c.in-Some.ensures in
    let e = c.remove.ensures in
    rw e less

pub loop-w-preserved : goal.loop-w-preserved
loop-w-preserved c =
    let d = c.args.did in
    let s = read c.args.moment c.args.tasks.now [] in
    let w = c.in-Some.w in
    let few = c.turn_slot.ensures.few in
    let before = c.loop-w.invariant.few in
    let none : (i : ℕ) → slot_after d s i None ≡ None = λ i. unmade d s i (ap (λ o. is_it o i) c.requires.made) in
    let step = swept_step (slot_after d s) None none c.args.slots.now c.loop-w.slots c.args.idling.now c.loop-w.idling c.remove.new.self w
    (head_among c.loop-w.idling w c.in-Some.ensures) (λ x. rw c.remove.ensures (among-without w c.loop-w.idling x)) c.loop-w.invariant.swept in
    record {
      few = omega (arith, few, before);
      swept = rw c.turn_slot.ensures.turned step;
    }

pub returns-clause-slots : goal.returns-clause-slots
returns-clause-slots c =
    let d = c.args.did in
    let s = read c.args.moment c.args.tasks.now [] in
    let none : (i : ℕ) → slot_after d s i None ≡ None = λ i. unmade d s i (ap (λ o. is_it o i) c.requires.made) in
    swept_end (slot_after d s) None none c.args.slots.now c.loop-w.slots c.args.idling.now c.requires.others
    (subst (λ xs. Swept (slot_after d s) None c.args.slots.now c.args.idling.now xs c.loop-w.slots) (no_head c.loop-w.idling c.in_default.ensures) c.loop-w.invariant.swept)

pub returns-clause-idling : goal.returns-clause-idling
returns-clause-idling c = no_head c.loop-w.idling c.in_default.ensures
