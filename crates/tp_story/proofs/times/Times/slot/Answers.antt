use Rattle.std.proofs.Common.{◌∙◌, ap}
use Rattle.std.specs.Prelude.{is_some}
use Rattle.tp_story.proofs.Slots.{known_slots}
use Rattle.tp_story.proofs.times.Times.slot.Goals as goal

pub returns-in_default-clause-known : goal.returns-in_default-clause-known
returns-in_default-clause-known c = λ f h legal timed. ap is_some (c.in_default.ensures.value ∙ timed.slots c.args.slot.0) ∙ known_slots f h legal c.args.slot.0

pub returns-in-Some-woken-clause-known : goal.returns-in-Some-woken-clause-known
returns-in-Some-woken-clause-known c = λ f h legal timed. ap is_some (c.in-Some.ensures.value ∙ timed.slots c.args.slot.0) ∙ known_slots f h legal c.args.slot.0

pub returns-in_default-woken-clause-known : goal.returns-in_default-woken-clause-known
returns-in_default-woken-clause-known c = λ f h legal timed. ap is_some (c.in-Some.ensures.value ∙ timed.slots c.args.slot.0) ∙ known_slots f h legal c.args.slot.0
