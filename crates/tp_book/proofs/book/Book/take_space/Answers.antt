use Rattle.std.proofs.Common.{refl}
use Rattle.tp_book.proofs.Stepping.{unmoved}
use Rattle.tp_book.proofs.book.Book.take_space.Goals as goal

pub returns : goal.returns
returns g c =
    unmoved g.R.Recorder.tells g.R.Recorder.terms g.R.Recorder.RECEIPTS c.law_forgets_at_will.ensures.whole c.args.self.now c.self.inside.machine c.self.inside.accounts c.self.inside.seat c.self.invariant.0 c.self.view_is
    c.take_space.new.self _ refl c.take_space.ensures
