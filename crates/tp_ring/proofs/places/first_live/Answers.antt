use Rattle.std.proofs.Common.{◌∙◌, sym, ap, arith}
use Rattle.std.specs.Prelude.{slice_get}
use Rattle.std.specs.Option.{option_copied}
use Rattle.tp_ring.proofs.Searches.{passes_dead_place, finds_live_place, get_within}
use Rattle.tp_ring.proofs.places.first_live.Goals as goal
use Rattle.tp_ring.proofs.places.first_live.Goals.{in-Some+else-item, in_default}

pub returns-then-item : goal.returns-then-item
returns-then-item g c =
    finds_live_place c.args.ring.now.items c.loop-i.i c.in-Some.item.now (sym c.get.ensures ∙ ap option_copied c.in-Some.is) c.if-item.true ∙ ap (λ ys. slice_get ys 0) c.loop-i.invariant

pub loop-i-preserved : goal.loop-i-preserved
loop-i-preserved g c = elim c.match-get.branch [
  | in-Some+else-item w ↦ passes_dead_place c.args.ring.now.items c.loop-i.i w.in-Some.item.now (sym c.get.ensures ∙ ap option_copied w.in-Some.is) w.if-item.false ∙ c.loop-i.invariant
  | in_default w ↦ absurd (get_within c.args.ring.now.items c.loop-i.i (omega (arith, c.loop-i-test.true, c.len-i-end.ensures.len)) (sym c.get.ensures ∙ ap option_copied w.in_default.is))
]
