use Rattle.tp_pool_holds.proofs.Ends.{ends}
use Rattle.tp_pool_holds.proofs.shared.Shared.try_end.Goals as goal

pub returns-then-tidy : goal.returns-then-tidy
returns-then-tidy g c =
    ends (g.K.Recorder.terms g.G.PoolNaming.config) c.args.pass.now c.tidy.new.pass c.terminate.new.pass (c.tidy.ensures.tidied c.if-tidy.true) c.terminate.result c.terminate.ensures.step
    c.terminate.ensures.refused c.terminate.ensures.unchanged
