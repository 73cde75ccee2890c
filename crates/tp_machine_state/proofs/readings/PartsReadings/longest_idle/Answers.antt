use Rattle.std.proofs.Common.{Some, None, sym, ap, ◌∙◌}
use Rattle.std.specs.Prelude.{slice_get}
use Rattle.tp_machine_state.proofs.Reading.{first_idle}
use Rattle.tp_machine_state.proofs.readings.PartsReadings.longest_idle.Goals as goal

pub returns-in-Some : goal.returns-in-Some
returns-in-Some g c = λ s reads.
    first_idle c.args.self.now.slots.idling (Some c.in-Some.w) (sym c.in-Some.is ∙ c.longest_idle.ensures.first) ∙ ap (λ xs. slice_get xs 0) (sym reads.shows.seen.order)

pub returns-in-None : goal.returns-in-None
returns-in-None g c = λ s reads.
    first_idle c.args.self.now.slots.idling None (sym c.in-None.is ∙ c.longest_idle.ensures.first) ∙ ap (λ xs. slice_get xs 0) (sym reads.shows.seen.order)
