use Rattle.std.proofs.Common.{◌≡◌, ◌∙◌, Ok, Err, subst, sym}
use Rattle.std.proofs.lemmas.Bool.{false≢true}
use Rattle.tp_record.specs.State.{state}
use Rattle.tp_record.specs.Step.{fitting}
use Rattle.tp_rules.specs.PlainState.{IsAnswer}
use Rattle.tp_audit.specs.Audited.{Judge, IsDenied}
use Rattle.tp_audit.proofs.Judging.{answered_given, denied_full, denied_unfit, judged_inside}
use Rattle.tp_audit.proofs.auditor.Auditor.answer.Goals as goal

pub returns-in-Err-clause-refused : goal.returns-in-Err-clause-refused
returns-in-Err-clause-refused c = λ h at.
    let self = c.self.inside in
    let made = c.args.made.0 in
    let there = judged_inside self.config self.tables c.args.self.now c.self.view_is h at in
    let a = c.fitting.ensures (state self.config h) there.shows in
    let refused : IsAnswer ⊥ (Err c.in-Err.refusal) (fitting self.config (state self.config h) made c.args.ask) = subst (λ r. IsAnswer ⊥ r (fitting self.config (state self.config h) made c.args.ask)) c.in-Err.is a in
    subst (λ (x : Judge). IsDenied x.config (state x.config h) made c.args.ask c.in-Err.refusal) c.self.view_is (denied_unfit self.config (state self.config h) made c.args.ask c.in-Err.refusal refused)

pub returns-then-not-is_given-clause-refused : goal.returns-then-not-is_given-clause-refused
returns-then-not-is_given-clause-refused c = λ h at.
    let self = c.self.inside in
    let now = c.args.self.now in
    let made = c.args.made.0 in
    let there = judged_inside self.config self.tables now c.self.view_is h at in
    let a = c.fitting.ensures (state self.config h) there.shows in
    let ok : fitting self.config (state self.config h) made c.args.ask ≡ Ok c.in-Ok.did = subst (λ r. IsAnswer ⊥ r (fitting self.config (state self.config h) made c.args.ask)) c.in-Ok.is a in
    let fits = subst (λ (x : Judge). fitting x.config (state x.config h) made c.args.ask ≡ Ok c.in-Ok.did) c.self.view_is ok in
    denied_full now.config (state now.config h) made c.args.ask c.in-Ok.did fits (λ gives. false≢true (sym c.if-not-is_given.true ∙ (c.is_given.ensures h at).1 gives))

pub returns-clause-answered : goal.returns-clause-answered
returns-clause-answered c = λ h at.
    let self = c.self.inside in
    let now = c.args.self.now in
    let made = c.args.made.0 in
    let there = judged_inside self.config self.tables now c.self.view_is h at in
    let a = c.fitting.ensures (state self.config h) there.shows in
    let ok : fitting self.config (state self.config h) made c.args.ask ≡ Ok c.in-Ok.did = subst (λ r. IsAnswer ⊥ r (fitting self.config (state self.config h) made c.args.ask)) c.in-Ok.is a in
    let fits = subst (λ (x : Judge). fitting x.config (state x.config h) made c.args.ask ≡ Ok c.in-Ok.did) c.self.view_is ok in
    answered_given now.config (state now.config h) made c.args.ask c.in-Ok.did fits ((c.is_given.ensures h at).0 c.if-not-is_given.false)
