use Rattle.std.specs.Prelude.{All, take}
use Rattle.tp_book.specs.Reports.{IsOwn}
use Rattle.tp_book.proofs.book.Book.receipts_agree.Given as goal

abbrev pub invariant-loop-pass : goal.invariant-loop-pass
invariant-loop-pass g l = All (λ p. IsOwn l.self.machine.noted.whole l.self.history p.number p.receipts) (take l.pass-index l.passes)
