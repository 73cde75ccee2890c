use Rattle.std.proofs.Common.{◌≡◌, ℕ, List, reverse, take, Result, Ok, Err, refl, sym, ap, ◌∙◌, subst, arith}
use Rattle.std.specs.Prelude.{IfOk}
use Rattle.std.proofs.lemmas.List.{take_all}
use Rattle.tp_types.specs.declared.configs.Config.{Config}
use Rattle.tp_record.specs.declared.entries.Entry.{Entry}
use Rattle.tp_record.specs.Step.{Legal}
use Rattle.tp_laws.specs.Lawful.{IsLawful}
use Rattle.tp_laws.proofs.AllLaws.{legal_is_lawful}
use Rattle.tp_rules.proofs.Histories.{history_more}
use Rattle.tp_audit_plain.specs.declared.summary.Flaw.{Flaw}
use Rattle.tp_audit_plain.specs.declared.summary.Flaw.TheVariants.{At, NoMemory}
use Rattle.tp_audit_plain.specs.declared.summary.Summary.{Summary}
use Rattle.tp_audit_plain.specs.Audit.{IsSummary, IsFlawOf, IsFirstFlaw}
use Rattle.tp_audit.specs.Audited.{Judge, Judged}
use Rattle.tp_audit_plain.proofs.Judged.{if_ok}
use Rattle.tp_audit.proofs.Judging.{flaw_at}
use Rattle.tp_audit.proofs.audits.audit.Goals as goal

abbrev told : Flaw → Result (Unit {0}) Flaw
told f = Err f

-- a flaw that is the record's first where it has a number
by_number : (c : Config) (es : List Entry) (f : Flaw) → ((n : ℕ) → f ≡ At n → IsFirstFlaw c es n) → IsFlawOf c es f
by_number c es (At n) first = first n refl
by_number c es NoMemory first = tt

in_settings : (c d : Config) (es : List Entry) (n : ℕ) → d ≡ c → IsFirstFlaw d es n → IsFirstFlaw c es n
in_settings c d es n same first = subst (λ x. IsFirstFlaw x es n) same first

legal_in : (c d : Config) (h k : List Entry) → d ≡ c → h ≡ k → Legal d h → Legal c k
legal_in c d h k same whole legal = subst (λ x. Legal x k) same (subst (λ (x : List Entry). Legal d x) whole legal)

summary_in : (c d : Config) (h k : List Entry) (r : Result Summary Flaw) → d ≡ c → h ≡ k → IfOk r (λ s. IsSummary d h s) → IfOk r (λ s. IsSummary c k s)
summary_in c d h k r same whole is = subst (λ x. IfOk r (λ s. IsSummary x k s)) same (subst (λ (x : List Entry). IfOk r (λ s. IsSummary d x s)) whole is)

-- what is said of each history that was told is said of this one
at_history : (r : Result Summary Flaw) (a : Judge) (h : List Entry) → Judged a h → IfOk r (λ s. (k : List Entry) → Judged a k → IsSummary a.config k s) → IfOk r (λ s. IsSummary a.config h s)
at_history (Ok s) a h judged is = is h judged
at_history (Err f) a h judged is = tt

pub loop-entry-preserved : goal.loop-entry-preserved
loop-entry-preserved c =
    let es = c.args.entries.now in
    let i = c.loop-entry.entry-index in
    let next = c.in-Ok-push.ensures.told (reverse (take i es)) c.loop-entry.invariant.judged in
    record {
      settings = c.push.ensures.settings ∙ c.loop-entry.invariant.settings;
      judged = subst (λ (h : List Entry). Judged c.push.new.self h) (sym (history_more es i _ c.loop-entry-test.true)) next;
    }

pub returns-in-Err-push-clause-flaw : goal.returns-in-Err-push-clause-flaw
returns-in-Err-push-clause-flaw c =
    let es = c.args.entries.now in
    let i = c.loop-entry.entry-index in
    let judged = c.loop-entry.invariant.judged in
    by_number c.args.config.now es c.in-Err-push.flaw
    (λ n is.
    let flaw = c.in-Err-push.ensures.flaw n (ap told is) (reverse (take i es)) judged in
    in_settings c.args.config.now c.loop-entry.auditor.config es n c.loop-entry.invariant.settings
    (flaw_at c.loop-entry.auditor.config es i n _ c.loop-entry-test.true judged.legal flaw.0 flaw.1))

pub returns-clause-legal : goal.returns-clause-legal
returns-clause-legal c =
    let es = c.args.entries.now in
    let i = c.loop-entry.entry-index in
    let whole : reverse (take i es) ≡ reverse es = ap reverse (take_all i es (omega (arith, c.loop-entry-test.false))) in
    if_ok c.finish.result (Legal c.args.config.now (reverse es))
    (legal_in c.args.config.now c.loop-entry.auditor.config (reverse (take i es)) (reverse es) c.loop-entry.invariant.settings whole c.loop-entry.invariant.judged.legal)

pub returns-clause-lawful : goal.returns-clause-lawful
returns-clause-lawful c =
    let config = c.args.config.now in
    let es = c.args.entries.now in
    let i = c.loop-entry.entry-index in
    let whole : reverse (take i es) ≡ reverse es = ap reverse (take_all i es (omega (arith, c.loop-entry-test.false))) in
    let legal = legal_in config c.loop-entry.auditor.config (reverse (take i es)) (reverse es) c.loop-entry.invariant.settings whole c.loop-entry.invariant.judged.legal in
    if_ok c.finish.result (IsLawful config (reverse es)) (legal_is_lawful config (reverse es) c.requires legal)

pub returns-clause-summary : goal.returns-clause-summary
returns-clause-summary c =
    let es = c.args.entries.now in
    let i = c.loop-entry.entry-index in
    let h = reverse (take i es) in
    let whole : h ≡ reverse es = ap reverse (take_all i es (omega (arith, c.loop-entry-test.false))) in
    summary_in c.args.config.now c.loop-entry.auditor.config h (reverse es) c.finish.result c.loop-entry.invariant.settings whole
    (at_history c.finish.result c.loop-entry.auditor h c.loop-entry.invariant.judged c.finish.ensures.summary)
