use Rattle.std.proofs.Common.{refl}
use Rattle.std.specs.Prelude.{Ok, Err}
use Rattle.tp_life.proofs.calls.Calls.run.Goals as goal

pub returns-in-Ok : goal.returns-in-Ok
returns-in-Ok g c = (Ok c.in-Ok.ticket.task, g.Self.Controls.pass c.submit.new.self, c.in-Ok.ensures.submitted, (c.get.ensures.looks, c.get.ensures.reads))

pub returns-in-Err : goal.returns-in-Err
returns-in-Err g c = (Err c.in-Err.refused.error, g.Self.Controls.pass c.submit.new.self, (c.in-Err.refused, refl, c.in-Err.ensures.refused), (refl, refl))
