use Rattle.tp_pool_holds.proofs.Left.{left_at}
use Rattle.tp_pool_holds.proofs.shared.Shared.hand_over.Goals as goal

pub returns-clause-left : goal.returns-clause-left
returns-clause-left g c =
    left_at {J = g.row.J.Denot} (g.K.Recorder.terms g.G.PoolNaming.config) c.deref.result.now c.opened-did.new.locked (g.A.Payer.front c.opened-did.new.pass) c.left_in-remains.result c.deref.ensures c.opened-did.ensures.front
    c.left_in-remains.ensures
