use Rattle.std.proofs.Common.{◌≡◌, ℕ, List, [], ◌∷◌, ◌++◌, reverse, true, false, Option, Some, None, Result, Err, refl, sym, ap, subst}
use Rattle.std.specs.Prelude.{is_some}
use Rattle.std.proofs.lemmas.Bool.{false≢true, true≢false}
use Rattle.tp_record.specs.declared.entries.Entry.{Entry}
use Rattle.tp_audit_plain.specs.declared.summary.Flaw.{Flaw}
use Rattle.tp_audit_plain.specs.Audit.{IsFirstFlaw}
use Rattle.tp_audit.specs.Audited.{Judge, settings}
use Rattle.tp_text_record.specs.Judging.{IsToldBy}
use Rattle.tp_text_record.proofs.Flawed.{flaw_here, later_flaw}
use Rattle.tp_text_record.proofs.judging.JudgingTaker.take.Goals as goal

-- entries behind a flaw change nothing
told_on : (a : Judge) (o : Option ℕ) (es : List Entry) (e : Entry) → is_some o ≡ true → IsToldBy a o es → IsToldBy a o (es ++ e ∷ [])
told_on a None es e some told = absurd (false≢true some)
told_on a (Some n) es e some told = later_flaw (settings a) es n e told

no_flaw : (o : Option ℕ) → is_some o ≡ false → o ≡ None
no_flaw None none = refl
no_flaw (Some n) none = absurd (true≢false none)

abbrev refused : Flaw → Result (Unit {0}) Flaw
refused f = Err f

pub returns-then-is_some-clause-took : goal.returns-then-is_some-clause-took
returns-then-is_some-clause-took c = λ es told.
    let some : is_some c.args.self.now.flaw ≡ true = cc (c.is_some.ensures, c.if-is_some.true) in
    told_on c.args.self.now.auditor c.args.self.now.flaw es c.args.entry.now some told

pub returns-in-Err-At-clause-took : goal.returns-in-Err-At-clause-took
returns-in-Err-At-clause-took c = λ es told.
    let self = c.args.self.now in
    let e = c.args.entry.now in
    let none : is_some self.flaw ≡ false = cc (c.is_some.ensures, c.if-is_some.false) in
    let judged = subst (λ o. IsToldBy self.auditor o es) (no_flaw self.flaw none) told in
    let flaw = c.in-Err-At.ensures.flaw c.in-Err-At.number (ap refused c.in-Err-At.field-0-is) (reverse es) judged in
    subst (λ x. IsFirstFlaw x (es ++ e ∷ []) c.in-Err-At.number) (sym c.push.ensures.settings) (flaw_here (settings self.auditor) es c.in-Err-At.number e judged.legal flaw.0 flaw.1)
