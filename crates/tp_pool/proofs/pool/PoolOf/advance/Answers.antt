use Rattle.std.proofs.Common.{sym, subst}
use Rattle.std.specs.Prelude.{IfNone}
use Rattle.std.specs.Result.{result_ok}
use Rattle.tp_protocols.specs.Fronts.{follow_of}
use Rattle.tp_pool.specs.Admissions.{Awaits, IsUndone}
use Rattle.tp_pool.proofs.Refusals.{unstaffed}
use Rattle.tp_pool.proofs.pool.PoolOf.advance.Goals as goal

pub returns-in-Staff-clause-undone : goal.returns-in-Staff-clause-undone
returns-in-Staff-clause-undone g c =
    let keeps = g.K.Recorder.RECEIPTS in
    let terms = g.K.Recorder.terms g.G.PoolNaming.config in
    let new = c.open_by.new.pass in
    subst (λ o. IfNone o (Awaits (follow_of c.args.t.0 c.args.next) → IsUndone keeps terms c.args.t c.args.next new)) (sym c.ok.ensures.value)
    (subst (λ n. IfNone (result_ok c.open_by.result) (Awaits (follow_of c.args.t.0 n) → IsUndone keeps terms c.args.t n new)) (sym c.in-Staff.is)
    (unstaffed keeps terms c.args.t c.in-Staff.w c.staffed_by.result new c.open_by.result c.open_by.ensures.refused))
