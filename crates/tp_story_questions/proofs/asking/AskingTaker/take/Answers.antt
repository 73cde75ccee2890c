use Rattle.std.proofs.Common.{◌≡◌, [], ◌∷◌, ◌++◌, reverse, true, false, Result, Err, sym, ap, subst}
use Rattle.std.specs.Prelude.{is_some}
use Rattle.tp_audit_plain.specs.declared.summary.Flaw.{Flaw}
use Rattle.tp_audit_plain.specs.Audit.{IsFirstFlaw}
use Rattle.tp_story_questions.specs.Asking.{IsToldAll}
use Rattle.tp_story_questions.proofs.Flawed.{flaw_here, no_flaw, told_on}
use Rattle.tp_story_questions.proofs.asking.AskingTaker.take.Goals as goal

abbrev refused : Flaw → Result (Unit {0}) Flaw
refused f = Err f

pub returns-then-is_some-clause-took : goal.returns-then-is_some-clause-took
returns-then-is_some-clause-took g c = λ es told.
    let some : is_some c.args.self.now.flaw ≡ true = cc (c.is_some.ensures, c.if-is_some.true) in
    told_on g.T.Account.settings g.T.Account.tells g.T.Account.says c.args.self.now.account c.args.self.now.flaw es c.args.entry.now some told

pub returns-in-Err-At-clause-took : goal.returns-in-Err-At-clause-took
returns-in-Err-At-clause-took g c = λ es told.
    let self = c.args.self.now in
    let e = c.args.entry.now in
    let none : is_some self.flaw ≡ false = cc (c.is_some.ensures, c.if-is_some.false) in
    let told_none = subst (λ o. IsToldAll g.T.Account.settings g.T.Account.tells self.account o es) (no_flaw self.flaw none) told in
    let flaw = c.in-Err-At.ensures.flaw c.in-Err-At.number (ap refused c.in-Err-At.field-0-is) (reverse es) told_none in
    subst (λ x. IsFirstFlaw x (es ++ e ∷ []) c.in-Err-At.number) (sym c.tell.ensures.settings) (flaw_here (g.T.Account.settings self.account) es c.in-Err-At.number e flaw.0 flaw.1 flaw.2)
