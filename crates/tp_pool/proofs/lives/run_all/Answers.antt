use Rattle.std.proofs.Common.{◌≡◌, ◌+◌, ◌*◌, max, length, inr, ap, ◌∙◌, subst, rules}
use Rattle.std.proofs.lemmas.Result.{IfOk-weaker, IfErr-weaker}
use Rattle.tp_pool.specs.Lives.{IsOver, IsRun, sized}
use Rattle.tp_pool.proofs.lives.run_all.Goals as goal

pub returns-in-Ok-clause-run : goal.returns-in-Ok-clause-run
returns-in-Ok-clause-run g c =
    let asked = c.args.settings in
    let room : c.in-Ok.settings.record_limit ≡ max (length c.args.jobs.items * 13 + 4) 64 = search rules in
    let same : c.in-Ok.settings ≡ sized asked (length c.args.jobs.items) = c.in-Ok.ensures.others ∙ ap (λ n. record asked { record_limit = n }) room in
    IfOk-weaker c.run_in.result _ _ (λ r run. subst (λ s. IsRun s g.J.Job.promised g.J.Job.urgency c.args.jobs.items r.0.items r.1) same run) c.run_in.ensures.run

pub returns-in-Ok-clause-over : goal.returns-in-Ok-clause-over
returns-in-Ok-clause-over g c =
    let asked = c.args.settings in
    let room : c.in-Ok.settings.record_limit ≡ max (length c.args.jobs.items * 13 + 4) 64 = search rules in
    let same : c.in-Ok.settings ≡ sized asked (length c.args.jobs.items) = c.in-Ok.ensures.others ∙ ap (λ n. record asked { record_limit = n }) room in
    IfErr-weaker c.run_in.result _ _ (λ e is. inr (subst (λ s. IsOver s s e) same is)) c.run_in.ensures.over
