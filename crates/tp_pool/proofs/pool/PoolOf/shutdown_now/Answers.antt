use Rattle.std.proofs.Common.{length, inl, inr, sym, subst, true≢false}
use Rattle.std.proofs.Math.Nat.{lt_of_not-le}
use Rattle.tp_record.specs.declared.entries.Ask.TheVariants as ask
use Rattle.tp_record.specs.declared.entries.Did.TheVariants as did
use Rattle.tp_pool_holds.specs.Steps.{Stops}
use Rattle.tp_pool_holds.proofs.Receipts.{leads_front, reserved}
use Rattle.tp_pool_holds.proofs.Ends.{reached, step_and_end}
use Rattle.tp_pool.proofs.pool.PoolOf.shutdown_now.Goals as goal

pub returns-in-Ok-clause-handed : goal.returns-in-Ok-clause-handed
returns-in-Ok-clause-handed g c =
    let end = c.try_end.ensures in (
      c.stop.new.pass.front,
      subst (λ p. Stops g.row.J.Denot (g.K.Recorder.terms g.G.PoolNaming.config) p.number p.front c.in-Ok.drained.items c.stop.new.pass.front) c.reserve.ensures.same c.in-Ok.ensures.stops,
      leads_front c.stop.new.pass.front c.try_end.new.pass.front end.0 end.2.leads,
    )

pub returns-in-Ok-clause-steps : goal.returns-in-Ok-clause-steps
returns-in-Ok-clause-steps g c =
    step_and_end (g.K.Recorder.terms g.G.PoolNaming.config) c.args.pass.now c.reserve.new.self c.stop.new.pass c.try_end.new.pass ask.Stop (did.Stop (length c.in-Ok.drained.items))
    (reserved c.args.pass.now c.reserve.new.self c.reserve.ensures.same) c.in-Ok.ensures.step c.try_end.ensures

pub returns-in-Ok-clause-seen : goal.returns-in-Ok-clause-seen
returns-in-Ok-clause-seen g c =
    let ends = step_and_end (g.K.Recorder.terms g.G.PoolNaming.config) c.args.pass.now c.reserve.new.self c.stop.new.pass c.try_end.new.pass ask.Stop (did.Stop (length c.in-Ok.drained.items))
    (reserved c.args.pass.now c.reserve.new.self c.reserve.ensures.same) c.in-Ok.ensures.step c.try_end.ensures in
    reached (g.K.Recorder.terms g.G.PoolNaming.config) c.args.pass.now c.try_end.new.pass _ ends.0 ends.2

pub returns-in-Err-clause-refused : goal.returns-in-Err-clause-refused
returns-in-Err-clause-refused g c = inl (c.in-Err.ensures.refused, inl (lt_of_not-le (λ room. true≢false (sym (c.in-Err.ensures.none_needed room)))))

pub returns-in-Err-stop-clause-refused : goal.returns-in-Err-stop-clause-refused
returns-in-Err-stop-clause-refused g c = elim c.in-Err-stop.ensures.refused [
  | inl want ↦ inl (want.0, inr want.1)
  | inr refused ↦ inr refused
]
