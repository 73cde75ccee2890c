use Rattle.std.proofs.Common.{◌≡◌}
use Rattle.tp_book.specs.BookView.{state_of}
use Rattle.tp_pool_holds.specs.Watched.{busy_below}
use Rattle.tp_pool_holds.proofs.locked.Locked.busy.Given as goal

abbrev pub invariant-loop-w : goal.invariant-loop-w
invariant-loop-w g l = l.busy.items ≡ busy_below (state_of l.self.book).slots l.w
