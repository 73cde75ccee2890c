use Rattle.std.proofs.lemmas.Result.{IfErr-weaker}
use Rattle.tp_pool.proofs.Submissions.{plain_returned}
use Rattle.tp_pool.proofs.submitting.PoolOf+G+Boxed+Boxes+K.execute.Goals as goal

pub returns-clause-returned : goal.returns-clause-returned
returns-clause-returned g c =
    IfErr-weaker c.execute_as.result _ _ (λ r is. plain_returned g.K.Recorder.RECEIPTS (g.K.Recorder.terms g.G.PoolNaming.config) is.0 _ _ c.args.pass.now c.execute_as.new.pass r is.2) c.execute_as.ensures.refused
