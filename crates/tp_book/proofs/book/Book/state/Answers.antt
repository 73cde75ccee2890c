use Rattle.std.proofs.Common.{refl}
use Rattle.tp_book.proofs.Reading.{reads_else}
use Rattle.tp_book.proofs.book.Book.state.Goals as goal

pub returns-clause-state : goal.returns-clause-state
returns-clause-state g c =
    reads_else g.R.Recorder.tells g.R.Recorder.terms c.self.inside.machine c.self.inside.seat g.R.Recorder.RECEIPTS c.self.inside.accounts c.self.invariant.0 c.args.self.now c.self.view_is (λ s. s.rank) _ c.state.ensures (λ _ _ _ _. refl)

pub returns-clause-published : goal.returns-clause-published
returns-clause-published g c =
    reads_else g.R.Recorder.tells g.R.Recorder.terms c.self.inside.machine c.self.inside.seat g.R.Recorder.RECEIPTS c.self.inside.accounts c.self.invariant.0 c.args.self.now c.self.view_is (λ s. s.rank) _ c.state.ensures (λ _ _ _ _. refl)
