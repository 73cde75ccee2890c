use Rattle.std.proofs.Common.{inl}
use Rattle.tp_c.proofs.handles.forget.Goals as goal

pub returns-in-Ok : goal.returns-in-Ok
returns-in-Ok c = inl (record { released = c.in-Ok.ensures.released; done = c.number.ensures })
