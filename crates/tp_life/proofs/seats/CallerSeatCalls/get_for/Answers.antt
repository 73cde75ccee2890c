use Rattle.tp_pool_holds.specs.Readings.{got}
use Rattle.tp_pool.specs.Timed.{IsFoundInTime}
use Rattle.tp_life.proofs.Answered.{answered_at}
use Rattle.tp_life.proofs.seats.CallerSeatCalls.get_for.Goals as goal

pub returns-clause-reads : goal.returns-clause-reads
returns-clause-reads g c =
    answered_at g.W.Task.gives (g.K.Recorder.terms g.G.PoolNaming.config) c.await_result_for-answer.new.pass (λ b r. IsFoundInTime b c.args.ticket.now.task.0 g.K.Recorder.RECEIPTS (got r))
    c.await_result_for-answer.result c.found.result c.await_result_for-answer.ensures.reads c.found.ensures
