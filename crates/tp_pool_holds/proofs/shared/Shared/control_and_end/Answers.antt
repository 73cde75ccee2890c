use Rattle.std.proofs.Common.{inl, inr, sym, true≢false}
use Rattle.std.proofs.Math.Nat.{lt_of_not-le}
use Rattle.std.proofs.lemmas.Result.{IfOk-weaker, IfErr-weaker}
use Rattle.tp_pool_holds.proofs.Receipts.{reserved, step_behind}
use Rattle.tp_pool_holds.proofs.shared.Shared.control_and_end.Goals as goal

pub returns-clause-step : goal.returns-clause-step
returns-clause-step g c =
    let old = c.args.pass.now in
    let mid = c.reserve.new.self in
    IfOk-weaker c.ask_left-answer.result.0 _ _
    (λ x step. step_behind (g.K.Recorder.terms g.G.PoolNaming.config) old mid c.ask_left-answer.new.pass (g.S.Step.ask c.args.step) (g.S.Step.did c.args.step x) (reserved old mid c.reserve.ensures.same) step) c.ask_left-answer.ensures.step

pub returns-clause-refused : goal.returns-clause-refused
returns-clause-refused g c = IfErr-weaker c.ask_left-answer.result.0 _ _ (λ e is. inr (is c.requires.no_outcome)) c.ask_left-answer.ensures.refused

pub returns-in-Err-clause-refused : goal.returns-in-Err-clause-refused
returns-in-Err-clause-refused g c = inl (c.in-Err.ensures.refused, lt_of_not-le (λ room. true≢false (sym (c.in-Err.ensures.none_needed room))))
