use Rattle.std.proofs.Common.{◌<◌, length}
use Rattle.std.proofs.lemmas.Result.{IfErr-weaker}
use Rattle.tp_record.specs.declared.entries.Ask.TheVariants as ask
use Rattle.tp_pool_holds.specs.Moments.{AtFront}
use Rattle.tp_pool_holds.proofs.Certain.{certainly}
use Rattle.tp_pool_holds.proofs.shared.Shared.stop.Goals as goal

pub returns-clause-refused : goal.returns-clause-refused
returns-clause-refused g c =
    let settings = g.K.Recorder.terms g.G.PoolNaming.config in
    let new = c.stop-drained.new.pass in
    IfErr-weaker c.stop-drained.result _ _
    (λ e is. certainly g.K.Recorder.RECEIPTS settings (AtFront settings new.front (λ s. 0 < length s.queue)) new ask.Stop e is) c.stop-drained.ensures.refused
