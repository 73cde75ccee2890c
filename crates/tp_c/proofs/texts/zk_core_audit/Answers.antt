use Rattle.std.proofs.Common.{ℕ, List, Ok, Err, arith, inl, inr, refl, subst}
use Rattle.std.proofs.lemmas.Bool.Decides.{nat_tests}
use Rattle.tp_types.specs.declared.refusals.PoolError.TheVariants.{ReadFailed}
use Rattle.tp_text.specs.EndLines.{refusal_line}
use Rattle.tp_c.specs.declared.statuses.Status.{Status}
use Rattle.tp_c.specs.Rooms.{IsLaid}
use Rattle.tp_c.specs.Statuses.{audit_status}
use Rattle.tp_c.proofs.texts.zk_core_audit.Goals as goal

pub returns-then-text-gt-MAX_TEXT_BYTES : goal.returns-then-text-gt-MAX_TEXT_BYTES
returns-then-text-gt-MAX_TEXT_BYTES c =
    (refusal_line ReadFailed, Err ReadFailed, (refl, inr (grind (arith, nat_tests, c.if-text-gt-MAX_TEXT_BYTES.true), refl)), c.refuse.ensures)

pub returns-in-Ok : goal.returns-in-Ok
returns-in-Ok c =
    let j = c.in-Ok.judgment in
    let laid = λ (xs : List ℕ) (s : Status). IsLaid xs s c.args.room.now c.lay.new.room c.lay.new.needed c.lay.result in (
      j.lines.items,
      Ok j.legal,
      (grind (arith, nat_tests, c.if-text-gt-MAX_TEXT_BYTES.false), c.in-Ok.ensures),
      subst (λ xs. laid xs (audit_status (Ok j.legal))) c.as_slice.ensures.value (subst (laid c.as_slice.result.now) c.of_judged-status.ensures c.lay.ensures),
    )

pub returns-in-Err : goal.returns-in-Err
returns-in-Err c =
    (refusal_line c.in-Err.error, Err c.in-Err.error, (refl, inl (grind (arith, nat_tests, c.if-text-gt-MAX_TEXT_BYTES.false), c.in-Err.ensures)), c.refuse-in-Err.ensures)
