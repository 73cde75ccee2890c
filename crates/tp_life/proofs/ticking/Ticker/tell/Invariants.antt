use Rattle.tp_life.specs.Ticking.{OnlyTicks}
use Rattle.tp_life.proofs.ticking.Ticker.tell.Given as goal

abbrev pub invariant-loop : goal.invariant-loop
invariant-loop g l = OnlyTicks g.P.Controls.terms (g.P.Controls.pass l.fn.pool) (g.P.Controls.pass l.pool)
