use Rattle.std.proofs.Common.{[], ◌++◌, Ok, Err, arith, inl, inr, refl, subst}
use Rattle.std.proofs.lemmas.Bool.Decides.{nat_tests}
use Rattle.tp_types.specs.declared.refusals.PoolError.TheVariants.{ReadFailed}
use Rattle.tp_text.specs.EndLines.{refusal_line}
use Rattle.tp_scenario.specs.Played.{IsPlayed}
use Rattle.tp_c.specs.declared.statuses.Status.TheVariants.{Done, Refused}
use Rattle.tp_c.specs.Rooms.{IsLaid}
use Rattle.tp_c.proofs.texts.zk_core_steps.Goals as goal

pub returns-then-text-gt-MAX_TEXT_BYTES : goal.returns-then-text-gt-MAX_TEXT_BYTES
returns-then-text-gt-MAX_TEXT_BYTES c =
    (refusal_line ReadFailed, Err ReadFailed, ([], refl, inr (grind (arith, nat_tests, c.if-text-gt-MAX_TEXT_BYTES.true), refl, refl)), c.refuse.ensures)

pub returns-in-Ok : goal.returns-in-Ok
returns-in-Ok c =
    let out = c.play-played.result.output.items in (
      out,
      Ok c.in-Ok.field-0,
      (grind (arith, nat_tests, c.if-text-gt-MAX_TEXT_BYTES.false), subst (IsPlayed c.args.text.now out) c.in-Ok.is c.play-played.ensures.played),
      subst (λ xs. IsLaid xs Done c.args.room.now c.lay.new.room c.lay.new.needed c.lay.result) c.as_slice.ensures.value c.lay.ensures,
    )

pub returns : goal.returns
returns c =
    let out = c.play-played.result.output.items in
    let e = c.in-Err.error in (
      out ++ refusal_line e,
      Err e,
      (out, refl, inl (grind (arith, nat_tests, c.if-text-gt-MAX_TEXT_BYTES.false), subst (IsPlayed c.args.text.now out) c.in-Err.is c.play-played.ensures.played)),
      subst (λ xs. IsLaid (xs ++ refusal_line e) (Refused e) c.args.room.now c.refuse-in-Err.new.room c.refuse-in-Err.new.needed c.refuse-in-Err.result) c.as_slice-in-Err.ensures.value c.refuse-in-Err.ensures,
    )
