use Rattle.tp_book.proofs.Reading.{stands_there}
use Rattle.tp_book.proofs.book.Book.law_is_balanced.Goals as goal

pub returns-clause-stands : goal.returns-clause-stands
returns-clause-stands g c =
    stands_there g.R.Recorder.tells g.R.Recorder.terms c.self.inside.machine c.self.inside.seat g.R.Recorder.RECEIPTS c.self.inside.accounts c.self.invariant.0 c.args.self.now c.self.view_is c.law_forgets_at_will.ensures.whole c.law_forgets_at_will.ensures.endless
