use Rattle.std.proofs.Common.{subst}
use Rattle.std.specs.Prelude.{IsSome, ◌<◌, ◌^◌, ℕ}
use Rattle.tp_record.specs.State.{slot_at}
use Rattle.tp_machine.specs.Readings.{EachState}
use Rattle.tp_machine.proofs.machine.Machine.law_slots_are_small.Goals as goal

pub returns : goal.returns
returns g c =
    subst (λ m. EachState g.R.Recorder.tells m (λ s. (w : ℕ) → IsSome (slot_at s.slots w) → w < 2 ^ 16)) c.self.view_is
    (λ h rs at w some. c.numbers_are_small.ensures.slots w (subst IsSome (at.shows.seen.seats w) some))
