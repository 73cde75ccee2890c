use Rattle.std.proofs.Common.{sym}
use Rattle.std.proofs.lemmas.Result.{IfErr-weaker}
use Rattle.tp_pool.proofs.Cuts.{over_at}
use Rattle.tp_pool.proofs.lives.entered.Goals as goal

pub returns-clause-run : goal.returns-clause-run
returns-clause-run g c = rw (sym c.ending_pass.ensures.same) c.lived.ensures.run

pub returns-clause-over : goal.returns-clause-over
returns-clause-over g c =
    IfErr-weaker c.lived.result _ _
    (λ e is. over_at g.G.PoolNaming.config (g.K.Recorder.terms g.G.PoolNaming.config) c.lived.new.seen e c.lived.ensures.legal c.lived.ensures.seen is)
    c.lived.ensures.cut
