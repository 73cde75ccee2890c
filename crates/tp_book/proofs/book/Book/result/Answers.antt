use Rattle.tp_book.proofs.Reading.{value}
use Rattle.tp_book.proofs.book.Book.result.Goals as goal

pub returns-clause-value : goal.returns-clause-value
returns-clause-value g c = value g.R.Recorder.tells g.R.Recorder.terms c.self.inside.machine c.self.inside.seat g.R.Recorder.RECEIPTS c.self.inside.accounts c.self.invariant.0 c.args.self.now c.self.view_is c.law_forgets_at_will.ensures.whole c.args.t.0 _ c.result.ensures.value
