use Rattle.std.proofs.Common.{◌≡◌, ◌↔◌, IsTrue, false, Ok, Err, subst}
use Rattle.std.specs.Prelude.{unwrap_or}
use Rattle.tp_record.specs.Effects.{reserves}
use Rattle.tp_record.specs.State.{state}
use Rattle.tp_record.specs.Step.{fitting}
use Rattle.tp_rules.specs.PlainState.{IsAnswer}
use Rattle.tp_audit.specs.Audited.{Judge}
use Rattle.tp_audit.proofs.Judging.{fits_same, fits_refused, judged_inside}
use Rattle.tp_audit.proofs.auditor.Auditor.fits.Goals as goal

pub returns-in-Ok : goal.returns-in-Ok
returns-in-Ok c = λ h at.
    let self = c.self.inside in
    let s = state self.config h in
    let there = judged_inside self.config self.tables c.args.self.now c.self.view_is h at in
    let n : c.unwrap_or.result ≡ unwrap_or (reserves c.args.did) 0 = cc (c.unwrap_or.ensures, c.reserved_by.ensures) in
    let a = c.fitting.ensures s there.shows in
    let ok : fitting self.config s c.unwrap_or.result c.args.ask ≡ Ok c.in-Ok.answer = subst (λ r. IsAnswer ⊥ r (fitting self.config s c.unwrap_or.result c.args.ask)) c.in-Ok.is a in
    subst (λ (x : Judge). IsTrue c.are_same.result ↔ (fitting x.config (state x.config h) (unwrap_or (reserves c.args.did) 0) c.args.ask ≡ Ok c.args.did)) c.self.view_is
    (subst (λ m. IsTrue c.are_same.result ↔ (fitting self.config s m c.args.ask ≡ Ok c.args.did)) n
    (fits_same (fitting self.config s c.unwrap_or.result c.args.ask) c.in-Ok.answer c.args.did c.are_same.result ok c.are_same.ensures))

pub returns-in-Err : goal.returns-in-Err
returns-in-Err c = λ h at.
    let self = c.self.inside in
    let s = state self.config h in
    let there = judged_inside self.config self.tables c.args.self.now c.self.view_is h at in
    let n : c.unwrap_or.result ≡ unwrap_or (reserves c.args.did) 0 = cc (c.unwrap_or.ensures, c.reserved_by.ensures) in
    let a = c.fitting.ensures s there.shows in
    let refused : IsAnswer ⊥ (Err c.in-Err.field-0) (fitting self.config s c.unwrap_or.result c.args.ask) =
    subst (λ r. IsAnswer ⊥ r (fitting self.config s c.unwrap_or.result c.args.ask)) c.in-Err.is a in
    subst (λ (x : Judge). IsTrue false ↔ (fitting x.config (state x.config h) (unwrap_or (reserves c.args.did) 0) c.args.ask ≡ Ok c.args.did)) c.self.view_is
    (subst (λ m. IsTrue false ↔ (fitting self.config s m c.args.ask ≡ Ok c.args.did)) n
    (fits_refused (fitting self.config s c.unwrap_or.result c.args.ask) c.in-Err.field-0 c.args.did refused))
