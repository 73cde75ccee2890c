use Rattle.std.specs.Prelude.{◌≡◌}
use Rattle.tp_machine.specs.Answers.{ComesBack}
use Rattle.tp_record.specs.Paths.{Ends, Rejected}
use Rattle.tp_protocols.specs.Fronts.{follow_of}
use Rattle.tp_pool_holds.specs.Submitting.{TakesOut}
use Rattle.tp_pool.proofs.Walks.{Walk}
use Rattle.tp_pool.proofs.pool.PoolOf.submit.Given as goal

abbrev pub invariant-loop : goal.invariant-loop
invariant-loop g l =
    Walk (g.K.Recorder.terms g.G.PoolNaming.config) l.fn.step.kind l.fn.step.priority l.fn.job l.fn.step.promise l.t.0 l.fn.pass (follow_of l.t.0 l.next) l.counter l.pass
    × (follow_of l.t.0 l.next ≡ Ends Rejected → ComesBack l.t.0 l.held l.pass.front × TakesOut (g.K.Recorder.terms g.G.PoolNaming.config) l.fn.pass.number l.t.0 l.held l.fn.pass.front l.pass.front)
