use Rattle.std.proofs.Common.{◌≡◌, ◌∙◌, Bool, true, false, Option, None, Result, Ok, Err, sym, subst}
use Rattle.std.specs.Prelude.{IfErr, IfOk}
use Rattle.std.specs.Result.{result_unwrap_or}
use Rattle.std.proofs.lemmas.Bool.{lt-ltb, false≢true}
use Rattle.std.proofs.lemmas.Result.{IfErr-weaker, IfOk-weaker}
use Rattle.tp_types.specs.declared.refusals.PoolError.{PoolError}
use Rattle.tp_types.specs.declared.tasks.Fate.{Fate}
use Rattle.tp_record.specs.State.{fate_of, task_at}
use Rattle.tp_record.specs.Step.{is_known}
use Rattle.tp_scenario.specs.Answered.{IsAt, Running}
use Rattle.tp_scenario.proofs.StepLaws.{seen}
use Rattle.tp_scenario.proofs.step.Runner.fate.Goals as goal

-- the fate of a task that is known was read
was_read : (known : Bool) (r : Result (Option Fate) PoolError) (f : Option Fate) → known ≡ true → IfOk r (λ x. x ≡ f) → IfErr r (λ e. known ≡ false) → result_unwrap_or r None ≡ f
was_read known (Ok x) f is fate unknown = fate
was_read known (Err e) f is fate unknown = absurd (false≢true (sym unknown ∙ is))

pub returns : goal.returns
returns c = λ p is known.
    let m = c.self.inside.machine in
    let os = c.self.inside.outcomes.items in
    let t = c.args.task.0 in
    let at = subst (λ (r : Running). IsAt r p) (sym c.self.view_is) is in
    c.unwrap_or.ensures ∙ was_read _ c.fate.result _ (lt-ltb _ _ known)
    (IfOk-weaker c.fate.result _ _ (λ f each. seen m m os p at (λ s. f ≡ fate_of (task_at s t)) each) c.fate.ensures.fate)
    (IfErr-weaker c.fate.result _ _ (λ e x. seen m m os p at (λ s. is_known s t ≡ false) x.1) c.fate.ensures.unknown)
