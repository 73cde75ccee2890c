use Rattle.std.proofs.Common.{refl}
use Rattle.tp_scenario.proofs.SubmissionLaws.{no_submission, alone, no_group, no_kind}
use Rattle.tp_scenario.proofs.reading.submission.Goals as goal

pub returns-in_err-rest : goal.returns-in_err-rest
returns-in_err-rest c = rw c.from_residual.ensures (no_submission _ _ _ c.first_word.ensures (alone _ _ (rw c.in_err-rest.was refl)))

pub returns-in_default : goal.returns-in_default
returns-in_default c = no_submission _ _ _ c.first_word.ensures (no_kind _ _ c.in_default.not-plain c.in_default.not-future c.in_default.not-group)

pub returns-in_err-group-in-group : goal.returns-in_err-group-in-group
returns-in_err-group-in-group c =
    rw c.from_residual-in_err-group-in-group.ensures (no_submission _ _ _ c.first_word.ensures (no_group _ _ c.in_ok-rest.rest.now c.in-group.is (rw c.in_ok-rest.was refl) c.in_err-group-in-group.ensures))
