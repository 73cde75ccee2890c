use Rattle.std.proofs.Common.{ap}
use Rattle.tp_machine_state.proofs.New.{new_parts}
use Rattle.tp_machine_state.proofs.parts.Parts.new.Goals as goal

pub returns : goal.returns
returns g c =
    let q = c.in_ok-queue.ensures in
    let s = c.in_ok-slots.ensures in
    new_parts c.args.config c.args.limit c.args.room c.args.tasks c.in_ok-queue.queue c.in_ok-slots.slots c.requires.good (c.requires.limit, c.ranges.limit.fits) q
    (ap (λ x. x.slots) s) (ap (λ x. x.idling) s) (ap (λ x. x.places) s) (ap (λ x. x.idlings) s) c.requires.none
