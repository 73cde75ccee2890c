use Rattle.std.proofs.Common.{rules}
use Rattle.std.specs.Prelude.{IsTrue, take}
use Rattle.std.proofs.lemmas.List.Elements.{Contains-get_or}
use Rattle.tp_pool_holds.specs.declared.tasks.Payload.{Payload}
use Rattle.tp_pool_holds.proofs.Receipts.{looks_none, none_behind}
use Rattle.tp_service.specs.Futures.{Closes}
use Rattle.tp_service.proofs.Closed.{close_none}
use Rattle.tp_pool.proofs.Turned.{through_next}
use Rattle.tp_service.proofs.invoking.all_close_in.Goals as goal

pub loop-t-preserved : goal.loop-t-preserved
loop-t-preserved g c =
    through_next (Closes (Payload g.row.J.Denot) g.K.Recorder.RECEIPTS (g.K.Recorder.terms g.G.PoolNaming.config)) c.args.tasks.now c.loop-t.t-index _ c.args.pass.now c.loop-t.pass c.closes_in.new.pass
    c.loop-t-test.true c.loop-t.invariant (c.closes_in.ensures.closed c.if-not-closes_in.false)

pub returns-then-not-closes_in-clause-late : goal.returns-then-not-closes_in-clause-late
returns-then-not-closes_in-clause-late g c = λ no.
    let config = g.K.Recorder.terms g.G.PoolNaming.config in
    let not : ¬ IsTrue c.closes_in.result = search rules in
    let late = c.closes_in.ensures.late not in
    let has = Contains-get_or c.args.tasks.now c.loop-t.t-index _ c.loop-t-test.true in (
      none_behind c.args.pass.now c.loop-t.pass c.closes_in.new.pass (close_none (Payload g.row.J.Denot) g.K.Recorder.RECEIPTS config (take c.loop-t.t-index c.args.tasks.now) c.args.pass.now c.loop-t.pass c.loop-t.invariant)
          (looks_none config c.loop-t.pass c.closes_in.new.pass late.0),
      (has.0, _, has.1, has.2, late.1),
    )
