use Rattle.std.proofs.Common.{◌≡◌, ap, arith, reverse, take, length-take, subst, sym, ◌∙◌}
use Rattle.std.proofs.lemmas.Bool.{true≢false}
use Rattle.std.proofs.lemmas.List.{length-reverse, take_all}
use Rattle.tp_record.specs.Step.{Legal}
use Rattle.tp_laws.specs.Lawful.{IsLawful}
use Rattle.tp_laws.proofs.AllLaws.{legal_is_lawful}
use Rattle.tp_audit_plain.proofs.Judged.{legal_length, first_flaw, if_ok}
use Rattle.tp_audit_plain.proofs.plain.audit_plain.Goals as goal

pub is_given-requires : goal.is_given-requires
is_given-requires c =
    let front = take c.loop-i.i c.args.entries.now in
    omega (arith, legal_length c.args.config.now (reverse front) c.requires c.loop-i.invariant, length-reverse front)

pub returns-in-Ok-false-clause-flaw : goal.returns-in-Ok-false-clause-flaw
returns-in-Ok-false-clause-flaw c =
    let given = c.in-Ok-false.ensures.given in
    first_flaw c.args.config.now c.args.entries.now c.loop-i.i _ c.loop-i-test.true c.loop-i.invariant
    (λ gives. true≢false (sym (given.1 gives) ∙ c.in-Ok-false.field-0-test))

pub summary_of-requires : goal.summary_of-requires
summary_of-requires c =
    let es = c.args.entries.now in
    let front = take c.loop-i.i es in
    omega (arith, legal_length c.args.config.now (reverse front) c.requires c.loop-i.invariant, length-reverse front, length-take c.loop-i.i es, c.loop-i-test.false)

pub returns-clause-lawful : goal.returns-clause-lawful
returns-clause-lawful c =
    let config = c.args.config.now in
    let es = c.args.entries.now in
    let i = c.loop-i.i in
    let whole : reverse (take i es) ≡ reverse es = ap reverse (take_all i es (omega (arith, c.loop-i-test.false))) in
    if_ok _ (IsLawful config (reverse es)) (legal_is_lawful config (reverse es) c.requires (subst (λ h. Legal config h) whole c.loop-i.invariant))
