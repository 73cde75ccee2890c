-- Pairs that grow by one.
use Rattle.std.proofs.Common.{List, [], ◌∷◌, ◌++◌}
use Rattle.tp_life.specs.Ran.{Pairwise}

module _ {X Y : Type 0} (R : X → Y → Type 0) where
  -- both lists with one more
  pub pairs_more : (xs : List X) (ys : List Y) (x : X) (y : Y) → Pairwise R xs ys → R x y → Pairwise R (xs ++ x ∷ []) (ys ++ y ∷ [])
  pairs_more [] [] x y pairs fits = (fits, tt)
  pairs_more [] (v ∷ ys) x y pairs fits = absurd pairs
  pairs_more (z ∷ xs) [] x y pairs fits = absurd pairs
  pairs_more (z ∷ xs) (v ∷ ys) x y pairs fits = (pairs.0, pairs_more xs ys x y pairs.1 fits)
