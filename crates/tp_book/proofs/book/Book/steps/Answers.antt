use Rattle.std.proofs.Common.{refl}
use Rattle.tp_book.proofs.Reading.{reads_else}
use Rattle.tp_book.proofs.book.Book.steps.Goals as goal

pub returns : goal.returns
returns g c =
    reads_else g.R.Recorder.tells g.R.Recorder.terms c.self.inside.machine c.self.inside.seat g.R.Recorder.RECEIPTS c.self.inside.accounts c.self.invariant.0 c.args.self.now c.self.view_is (λ s. s.steps) _ c.steps.ensures (λ _ _ _ _. refl)
