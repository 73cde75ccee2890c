use Rattle.std.proofs.Common.{sym, ap, ◌∙◌}
use Rattle.std.specs.Prelude.{option_map, slice_get}
use Rattle.tp_types.specs.declared.ids.TaskId.{TaskId}
use Rattle.tp_machine_state.proofs.readings.PartsReadings.first_done.Goals as goal

pub returns-in-Some : goal.returns-in-Some
returns-in-Some g c = λ s reads.
    ap (option_map (λ (t : TaskId). t.0)) (sym c.in-Some.is) ∙ c.first_done.ensures ∙ ap (λ xs. slice_get xs 0) (sym (reads.shows.seen.done c.args.group))

pub returns-in-None : goal.returns-in-None
returns-in-None g c = λ s reads.
    ap (option_map (λ (t : TaskId). t.0)) (sym c.in-None.is) ∙ c.first_done.ensures ∙ ap (λ xs. slice_get xs 0) (sym (reads.shows.seen.done c.args.group))
