use Rattle.std.proofs.Common.{sym, ap, ◌∙◌}
use Rattle.std.specs.Prelude.{slice_get}
use Rattle.tp_queue.specs.Queues.{waiting_of}
use Rattle.tp_machine_state.proofs.Queued.{queue_head, queue_empty}
use Rattle.tp_machine_state.proofs.readings.PartsReadings.head.Goals as goal

pub returns-in-Some : goal.returns-in-Some
returns-in-Some g c = λ s reads.
    sym (ap (λ xs. slice_get xs 0) (reads.shows.seen.queued ∙ queue_head (waiting_of c.args.self.now.queue).items c.in-Some.t (sym c.head.ensures ∙ c.in-Some.is)))

pub returns-in-None : goal.returns-in-None
returns-in-None g c = λ s reads.
    sym (ap (λ xs. slice_get xs 0) (reads.shows.seen.queued ∙ queue_empty (waiting_of c.args.self.now.queue).items (sym c.head.ensures ∙ c.in-None.is)))
