use Rattle.std.proofs.Common.{subst}
use Rattle.std.specs.Prelude.{IfOk}
use Rattle.tp_record.specs.declared.entries.Ask.TheVariants as ask
use Rattle.tp_machine.specs.Answers.{IsReturnedAt, IsJudged}
use Rattle.tp_pool_holds.specs.Passes.{KnowsStep}
use Rattle.tp_pool_holds.specs.Steps.{Makes}
use Rattle.tp_pool_holds.proofs.Returned.{comes_back, takes_out}
use Rattle.tp_pool_holds.proofs.shared.Shared.judge.Goals as goal

pub returns-in-Ok-clause-returned : goal.returns-in-Ok-clause-returned
returns-in-Ok-clause-returned g c =
    let asked = ask.Verdict c.args.t c.args.verdict in
    let known = subst (λ r. IfOk r (λ x. KnowsStep c.args.pass.now asked x.did (λ h. IsReturnedAt c.args.t x h) c.ask_left-judged.new.pass)) c.in-Ok.is c.ask_left-judged.ensures.known in
    let makes = subst (λ r. IfOk r (λ x. Makes g.row.J.Denot (g.K.Recorder.terms g.G.PoolNaming.config) c.args.pass.now.number c.args.pass.now.front asked x.did (λ old new. IsJudged old new c.args.t x) c.ask_left-judged.new.pass.front)) c.in-Ok.is c.ask_left-judged.ensures.makes in λ rejected. (
      comes_back c.args.t c.in-Ok.judged.did c.in-Ok.judged.payload c.in-Ok.judged.dropped c.args.pass.now c.ask_left-judged.new.pass asked known rejected,
      takes_out (g.K.Recorder.terms g.G.PoolNaming.config) c.args.t c.args.verdict c.in-Ok.judged c.args.pass.now c.ask_left-judged.new.pass makes rejected,
    )
