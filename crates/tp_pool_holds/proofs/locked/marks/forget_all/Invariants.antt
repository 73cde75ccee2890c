use Rattle.std.proofs.Common.{map, take}
use Rattle.tp_book.specs.BookView.{ForgetsAllGone}
use Rattle.tp_pool_holds.proofs.locked.marks.forget_all.Given as goal

abbrev pub invariant-loop-t : goal.invariant-loop-t
invariant-loop-t g l = ForgetsAllGone g.R.Recorder.RECEIPTS l.initial.book l.book (map (λ x. x.0.0) (take l.t-index l.tasks))
