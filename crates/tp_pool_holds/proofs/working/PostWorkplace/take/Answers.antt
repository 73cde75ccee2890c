use Rattle.std.proofs.Common.{◌≡◌, ◌∙◌, subst}
use Rattle.tp_pool_holds.specs.Steps.{taking_of}
use Rattle.tp_pool_holds.specs.declared.locked.workers.Taking.{Taking}
use Rattle.tp_pool_holds.specs.Deeds.{Takes}
use Rattle.tp_pool_holds.proofs.Asked.{take_again}
use Rattle.tp_pool_holds.proofs.working.PostWorkplace.take.Goals as goal

pub returns-in-Task : goal.returns-in-Task
returns-in-Task g c = record {
  done = (
    c.loop.invariant.2,
    c.loop.invariant.3,
    c.loop.invariant.4,
    subst (λ (k : Taking). Takes g.row.J.Denot g.K.Recorder.RECEIPTS (g.K.Recorder.terms g.G.PoolNaming.config) c.args.self.now.pass.number c.args.self.now.pass.front c.args.self.now.w c.loop.self.pass.front
        (λ r. k ≡ taking_of r)) c.in-Task.is c.loop.invariant.5,
  );
}

pub returns-in-Left : goal.returns-in-Left
returns-in-Left g c = record {
  done = (
    c.loop.invariant.2,
    c.loop.invariant.3,
    c.loop.invariant.4,
    subst (λ (k : Taking). Takes g.row.J.Denot g.K.Recorder.RECEIPTS (g.K.Recorder.terms g.G.PoolNaming.config) c.args.self.now.pass.number c.args.self.now.pass.front c.args.self.now.w c.loop.self.pass.front
        (λ r. k ≡ taking_of r)) c.in-Left.is c.loop.invariant.5,
  );
}

pub returns-in-Refused : goal.returns-in-Refused
returns-in-Refused g c = record {
  done = (
    c.loop.invariant.2,
    c.loop.invariant.3,
    c.loop.invariant.4,
    subst (λ (k : Taking). Takes g.row.J.Denot g.K.Recorder.RECEIPTS (g.K.Recorder.terms g.G.PoolNaming.config) c.args.self.now.pass.number c.args.self.now.pass.front c.args.self.now.w c.loop.self.pass.front
        (λ r. k ≡ taking_of r)) c.in-Refused.is c.loop.invariant.5,
  );
}

pub loop-preserved : goal.loop-preserved
loop-preserved g c = (
  tt,
  tt,
  c.loop.invariant.2,
  c.sleep-taking.ensures.number ∙ c.loop.invariant.3,
  c.loop.invariant.4,
  take_again g.K.Recorder.RECEIPTS (g.K.Recorder.terms g.G.PoolNaming.config) c.args.self.now.w c.loop.self.w c.args.self.now.pass.number c.loop.self.pass.number c.args.self.now.pass.front c.loop.self.pass.front
      c.sleep-taking.new.pass.front (λ r. c.loop.taking ≡ taking_of r) (λ r. c.sleep-taking.result ≡ taking_of r) c.loop.invariant.2 c.loop.invariant.3 c.loop.invariant.5 c.sleep-taking.ensures.asks,
)
