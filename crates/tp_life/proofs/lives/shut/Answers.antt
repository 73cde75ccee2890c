use Rattle.std.proofs.Common.{inr}
use Rattle.tp_life.proofs.lives.shut.Goals as goal

pub returns-in-Err-clause-untold : goal.returns-in-Err-clause-untold
returns-in-Err-clause-untold g c = (inr c.in-Err.ensures.torn, record { history = c.await_shut.new.pass.front; is = record { legal = c.await_shut.ensures.legal; holds = c.await_shut.ensures.seen } })
