use Rattle.std.proofs.lemmas.Result.{IfOk-weaker}
use Rattle.tp_pool_holds.specs.Moments.{IsBook}
use Rattle.tp_pool_holds.specs.declared.tasks.Payload.{Payload}
use Rattle.tp_pool_holds.proofs.Moments.{book_at_some, full}
use Rattle.tp_pool_holds.proofs.locked.Locked.split_pass.Goals as goal

pub returns-clause-some : goal.returns-clause-some
returns-clause-some g c =
    let is : IsBook (Payload g.row.J.Denot) (g.R.Recorder.terms g.G.PoolNaming.config) c.self.inside.book =
    record { settings = c.self.invariant.0; stands = c.law_is_balanced.ensures.stands; accounted = c.law_is_balanced.ensures.accounted } in
    IfOk-weaker c.split_pass.result _ _ (λ p new. book_at_some c.self.inside.book (g.R.Recorder.terms g.G.PoolNaming.config) is _ new) c.split_pass.ensures.new

pub returns-clause-refused : goal.returns-clause-refused
returns-clause-refused g c =
    let is : IsBook (Payload g.row.J.Denot) (g.R.Recorder.terms g.G.PoolNaming.config) c.self.inside.book =
    record { settings = c.self.invariant.0; stands = c.law_is_balanced.ensures.stands; accounted = c.law_is_balanced.ensures.accounted } in
    full c.self.inside.book (g.R.Recorder.terms g.G.PoolNaming.config) is c.split_pass.result c.split_pass.ensures.refused c.split_pass.ensures.room
