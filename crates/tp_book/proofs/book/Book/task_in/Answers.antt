use Rattle.std.proofs.Common.{refl}
use Rattle.tp_book.proofs.Reading.{reads_else}
use Rattle.tp_record.specs.State.{slot_at}
use Rattle.tp_machine.specs.Seen.{task_of_row}
use Rattle.tp_book.proofs.book.Book.task_in.Goals as goal

pub returns : goal.returns
returns g c =
    reads_else g.R.Recorder.tells g.R.Recorder.terms c.self.inside.machine c.self.inside.seat g.R.Recorder.RECEIPTS c.self.inside.accounts c.self.invariant.0 c.args.self.now c.self.view_is (λ s. task_of_row (slot_at s.slots c.args.w.0)) _ c.task_in.ensures.task (λ _ _ _ _. refl)
