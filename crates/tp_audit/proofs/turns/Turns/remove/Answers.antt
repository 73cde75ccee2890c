use Rattle.std.proofs.Common.{ℕ, List, ◌<◌, ◌^◌, not, sym, subst}
use Rattle.std.specs.Prelude.{All, ◌==◌}
use Rattle.std.proofs.lemmas.List.Elements.{All-filter}
use Rattle.tp_audit.proofs.turns.Turns.remove.Goals as goal

pub invariant_of-self : goal.invariant_of-self
invariant_of-self c =
    subst (λ (xs : List ℕ). All (λ t. t < 2 ^ 32) xs) (sym c.remove.ensures)
    (All-filter (λ y. not (y == c.args.t)) (λ t. t < 2 ^ 32) c.self.inside.order c.self.invariant)
