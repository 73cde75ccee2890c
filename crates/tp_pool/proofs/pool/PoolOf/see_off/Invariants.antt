use Rattle.tp_pool.specs.Lives.{IsShut}
use Rattle.tp_pool.proofs.pool.PoolOf.see_off.Given as goal

abbrev pub invariant-loop : goal.invariant-loop
invariant-loop g l =
    (goal.iterator-loop g).can_next l.iterator' × (goal.iterator-loop g).is_finite l.iterator' × IsShut (g.K.Recorder.terms g.G.PoolNaming.config) l.pass.front
