use Rattle.std.proofs.Common.{length}
use Rattle.tp_record.specs.declared.entries.Ask.TheVariants as ask
use Rattle.tp_record.specs.declared.entries.Did.TheVariants as did
use Rattle.tp_pool.proofs.Endless.{shut_asked, shut_reserved}
use Rattle.tp_pool.proofs.pool.PoolOf.is_cleared.Goals as goal

pub returns-then-is_err-clause-shut : goal.returns-then-is_err-clause-shut
returns-then-is_err-clause-shut g c = shut_reserved (g.K.Recorder.terms g.G.PoolNaming.config) c.args.pass.now c.reserve.new.self c.reserve.ensures.same c.requires.shut

pub returns-then-not-is_stranded-clause-shut : goal.returns-then-not-is_stranded-clause-shut
returns-then-not-is_stranded-clause-shut g c = shut_reserved (g.K.Recorder.terms g.G.PoolNaming.config) c.args.pass.now c.reserve.new.self c.reserve.ensures.same c.requires.shut

pub returns-clause-shut : goal.returns-clause-shut
returns-clause-shut g c =
    let config = (g.K.Recorder.terms g.G.PoolNaming.config) in
    shut_asked config c.reserve.new.self c.stop.new.pass ask.Stop (λ drained. did.Stop (length drained.items)) c.stop.result c.stop.ensures.step c.stop.ensures.unchanged
    (shut_reserved config c.args.pass.now c.reserve.new.self c.reserve.ensures.same c.requires.shut)
