use Rattle.std.proofs.Common.{◌+◌, sym, subst, ◌∙◌}
use Rattle.tp_tasks.specs.Homes.{IsSize, AreSpread}
use Rattle.tp_tasks.proofs.Doubled.{spread_stays, spread_goes}
use Rattle.tp_tasks.proofs.table.spread.Goals.{then-is_to_move, else-is_to_move}
use Rattle.tp_tasks.proofs.table.spread.Goals as goal

pub is_to_move-requires-clause-size : goal.is_to_move-requires-clause-size
is_to_move-requires-clause-size g c = subst IsSize (sym c.loop-place.invariant.len) c.requires.size

pub loop-place-preserved : goal.loop-place-preserved
loop-place-preserved g c =
    let now = c.loop-place.homes in
    elim c.if-is_to_move.branch [
      | then-is_to_move w ↦
          let next = w.swap.new.self in
          let len = sym next.ok.0 ∙ w.swap.ensures.len ∙ now.ok.0 in
          subst (λ h. AreSpread (c.loop-place.place + 1) c.args.old c.args.homes.now.items h.items) (sym w.homes-is)
          (spread_goes c.loop-place.place c.args.old c.args.homes.now.items now.items c.loop-place.invariant c.loop-place-test.true next.items len c.requires.twice w.swap.ensures.by_index (sym c.is_to_move.ensures ∙ w.if-is_to_move.true))
      | else-is_to_move w ↦
          subst (λ h. AreSpread (c.loop-place.place + 1) c.args.old c.args.homes.now.items h.items) (sym w.homes-is)
          (spread_stays c.loop-place.place c.args.old c.args.homes.now.items now.items c.loop-place.invariant c.loop-place-test.true (sym c.is_to_move.ensures ∙ w.if-is_to_move.false))
    ]
