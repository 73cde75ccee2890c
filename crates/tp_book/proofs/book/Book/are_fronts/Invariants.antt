use Rattle.std.specs.Prelude.{◌≡◌, All, take}
use Rattle.tp_glance.specs.Word.{IsFrontOf}
use Rattle.tp_book.proofs.book.Book.are_fronts.Given as goal

abbrev pub invariant-loop-pass : goal.invariant-loop-pass
invariant-loop-pass g l =
    (l.passes ≡ l.initial.passes) × (l.self ≡ l.initial.self) × All (λ p. IsFrontOf (g.A.Payer.front p) l.initial.self.history) (take l.pass-index l.passes)
