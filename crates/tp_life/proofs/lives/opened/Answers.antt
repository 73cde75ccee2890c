use Rattle.std.proofs.Common.{sym, subst}
use Rattle.std.proofs.lemmas.Result.{IfOk-weaker, IfErr-weaker}
use Rattle.tp_life.specs.Lived.{IsLived, IsUnlived}
use Rattle.tp_life.proofs.lives.opened.Goals as goal

pub returns-in-Ok-over-clause-lived : goal.returns-in-Ok-over-clause-lived
returns-in-Ok-over-clause-lived g c =
    let leaves = g.L.Life.leaves c.args.life.now in
    IfOk-weaker c.lived.result _ _
    (λ r lived. subst (λ s. IsLived (leaves (g.K.Recorder.terms s)) g.K.Recorder.RECEIPTS g.K.Reporter.told s (g.K.Recorder.terms s) r.0.items r.1) (sym c.requires.settings) lived)
    c.lived.ensures.lived

pub returns-in-Ok-over-clause-refused : goal.returns-in-Ok-over-clause-refused
returns-in-Ok-over-clause-refused g c =
    IfErr-weaker c.lived.result _ _ (λ e is. subst (λ s. IsUnlived s (g.K.Recorder.terms s) e) (sym c.requires.settings) is) c.lived.ensures.refused
