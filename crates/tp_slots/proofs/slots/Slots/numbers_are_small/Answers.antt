use Rattle.std.proofs.Common.{subst}
use Rattle.std.specs.Prelude.{IsSome}
use Rattle.tp_slots.proofs.Ties.{row_read, kept_some}
use Rattle.tp_slots.proofs.slots.Slots.numbers_are_small.Goals as goal

pub returns-clause-slots : goal.returns-clause-slots
returns-clause-slots c = rw (← c.self.view_is) (λ w some. c.numbers_are_small.ensures.kept w (kept_some _ (subst IsSome (row_read c.self.inside.kept.slots w) some)))
