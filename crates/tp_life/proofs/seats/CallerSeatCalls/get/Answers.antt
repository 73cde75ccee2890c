use Rattle.std.specs.Prelude.{None}
use Rattle.tp_pool_holds.specs.Readings.{got, IsFound}
use Rattle.tp_life.proofs.Answered.{answered_at}
use Rattle.tp_life.proofs.seats.CallerSeatCalls.get.Goals as goal

pub returns-clause-reads : goal.returns-clause-reads
returns-clause-reads g c =
    answered_at g.W.Task.gives (g.K.Recorder.terms g.G.PoolNaming.config) c.await_result_with-answer.new.pass (λ b r. IsFound b c.args.ticket.now.task.0 g.K.Recorder.RECEIPTS None (got r))
    c.await_result_with-answer.result c.found.result c.await_result_with-answer.ensures.reads c.found.ensures
