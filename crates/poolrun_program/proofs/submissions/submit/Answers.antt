use Rattle.std.proofs.Common.{[], ◌∷◌, subst}
use Rattle.tp_pool_holds.proofs.Receipts.{reserved}
use Rattle.tp_pool.specs.Admissions.{task_of, end_of}
use Rattle.poolrun_program.specs.Runs.{AddsSubmissions, IsTorn}
use Rattle.poolrun_program.proofs.Followed.{one_submission, turned_torn, turned_whole}
use Rattle.poolrun_program.proofs.submissions.submit.Goals as goal

pub returns-in-Ok-clause-whole : goal.returns-in-Ok-clause-whole
returns-in-Ok-clause-whole g c =
    let old = c.args.pass.now in
    let new = c.execute_at.new.pass in
    subst (λ k. AddsSubmissions (g.K.Recorder.terms g.G.PoolNaming.config) (k ∷ []) old new) c.asked_of-kind.ensures
    (one_submission (g.K.Recorder.terms g.G.PoolNaming.config) c.asked_of-kind.result (task_of c.in-Ok.field-0) (end_of c.in-Ok.field-0) old c.reserve.new.self new (reserved old c.reserve.new.self c.reserve.ensures.same) c.in-Ok.ensures.admitted.0)

pub returns-in-Rejected-clause-whole : goal.returns-in-Rejected-clause-whole
returns-in-Rejected-clause-whole g c =
    let old = c.args.pass.now in
    let new = c.execute_at.new.pass in
    subst (λ k. AddsSubmissions (g.K.Recorder.terms g.G.PoolNaming.config) (k ∷ []) old new) c.asked_of-kind.ensures
    (turned_whole g.K.Recorder.RECEIPTS (g.K.Recorder.terms g.G.PoolNaming.config) c.asked_of-kind.result.0 c.asked_of-kind.result.1 _ _ old c.reserve.new.self new c.in-Err-execute_at.refused c.in-Rejected.field-0 c.in-Rejected.is (reserved old c.reserve.new.self c.reserve.ensures.same)
    c.in-Err-execute_at.ensures.refused)

pub returns-in_default-error : goal.returns-in_default-error
returns-in_default-error g c = record {
  whole = tt;
  refused = subst (λ k. IsTorn g.K.Recorder.RECEIPTS (g.K.Recorder.terms g.G.PoolNaming.config) k c.in-Err-execute_at.refused.error c.args.pass.now c.execute_at.new.pass) c.asked_of-kind.ensures
      (turned_torn g.K.Recorder.RECEIPTS (g.K.Recorder.terms g.G.PoolNaming.config) c.asked_of-kind.result.0 c.asked_of-kind.result.1 _ _ c.args.pass.now c.reserve.new.self c.execute_at.new.pass c.in-Err-execute_at.refused c.in_default-error.not-Rejected
      (reserved c.args.pass.now c.reserve.new.self c.reserve.ensures.same) c.in-Err-execute_at.ensures.refused);
}
