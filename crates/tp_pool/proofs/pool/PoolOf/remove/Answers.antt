use Rattle.std.proofs.Common.{ap, sym, subst, ◌∙◌}
use Rattle.std.specs.Prelude.{is_some, IfSome}
use Rattle.tp_record.specs.declared.entries.Ask.TheVariants as ask
use Rattle.tp_record.specs.declared.entries.Did.TheVariants as did
use Rattle.tp_machine.specs.Answers.{IsPaidAt, IsRemoval}
use Rattle.tp_pool_holds.specs.Answers.{is_removed}
use Rattle.tp_pool_holds.specs.Passes.{AddsStep}
use Rattle.tp_pool_holds.proofs.Stops.{known_made}
use Rattle.tp_pool.proofs.Got.{removed_is}
use Rattle.tp_pool.proofs.pool.PoolOf.remove.Goals as goal

pub returns-in-Ok-clause-job : goal.returns-in-Ok-clause-job
returns-in-Ok-clause-job g c =
    let handed = c.in-Ok.handed in record {
      handed = handed;
      makes = c.in-Ok.ensures.makes;
      paid = known_made (g.K.Recorder.terms g.G.PoolNaming.config) c.args.pass.now c.control_and_end.new.pass (ask.Remove c.args.t) (did.Remove c.args.t (is_some handed)) (λ old new. IsRemoval old new c.args.t handed)
          (λ h. IfSome handed (IsPaidAt h)) c.in-Ok.ensures.makes c.in-Ok.ensures.known;
      answers = c.removal_from.ensures;
    }

pub returns-in-Ok-clause-step : goal.returns-in-Ok-clause-step
returns-in-Ok-clause-step g c =
    subst (λ b. AddsStep (g.K.Recorder.terms g.G.PoolNaming.config) c.args.pass.now (ask.Remove c.args.t) (did.Remove c.args.t b) c.control_and_end.new.pass)
    (removed_is c.in-Ok.handed ∙ ap is_removed (sym c.removal_from.ensures)) c.in-Ok.ensures.step
