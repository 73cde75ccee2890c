use Rattle.std.proofs.Common.{◌∙◌, sym, ap}
use Rattle.std.specs.Option.{option_copied}
use Rattle.tp_ring.specs.Ring.{living}
use Rattle.tp_ring.proofs.Deaths.{trims, trims_rises}
use Rattle.tp_ring.proofs.places.trim.Goals as goal

pub loop-item-preserved : goal.loop-item-preserved
loop-item-preserved g c =
    let first = sym c.front.ensures ∙ ap option_copied c.in-Some.is in
    let is = ap (λ b. b.items) c.pop_front.ensures.items in (
      ap living is ∙ trims c.loop-item.ring.items c.in-Some.item.now first c.if-item.false ∙ c.loop-item.invariant.0,
      ap (λ b. b.capacity) c.pop_front.ensures.items ∙ c.loop-item.invariant.1,
      λ next r. rw is (trims_rises c.loop-item.ring.items next (c.loop-item.invariant.2 next r)),
    )
