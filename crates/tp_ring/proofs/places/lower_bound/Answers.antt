use Rattle.std.proofs.Common.{◌∙◌, ◌+◌, ◌-◌, ◌/◌, sym, ap, arith}
use Rattle.std.specs.Option.{option_copied}
use Rattle.tp_ring.proofs.Searches.{between_up, between_down}
use Rattle.tp_ring.proofs.places.lower_bound.Goals as goal

pub loop-low-preserved-then-item-number : goal.loop-low-preserved-then-item-number
loop-low-preserved-then-item-number g c =
    between_up c.args.ring.now.items c.args.number c.loop-low.low c.loop-low.high (c.loop-low.low + (c.loop-low.high - c.loop-low.low) / 2) c.requires.0 c.in-Some.item.now c.requires.1 c.loop-low.invariant
    (omega arith) (omega (arith, c.loop-low-test.true)) (sym c.get.ensures ∙ ap option_copied c.in-Some.is) c.if-item-number.true

pub loop-low-preserved : goal.loop-low-preserved
loop-low-preserved g c =
    between_down c.args.ring.now.items c.args.number c.loop-low.low c.loop-low.high (c.loop-low.low + (c.loop-low.high - c.loop-low.low) / 2) c.requires.0 c.in-Some.item.now c.requires.1 c.loop-low.invariant
    (omega arith) (omega (arith, c.loop-low-test.true)) (sym c.get.ensures ∙ ap option_copied c.in-Some.is) (omega (arith, c.if-item-number.false))
