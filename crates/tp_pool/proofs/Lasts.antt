-- The last of a list.
use Rattle.std.proofs.Common.{◌≡◌, List, [], ◌∷◌, ◌++◌, length, refl, subst, arith}
use Rattle.std.proofs.lemmas.List.{length_push}
use Rattle.std.proofs.lemmas.List.Elements.{All-get_or}
use Rattle.std.specs.List.{All}
use Rattle.std.specs.Prelude.{get_or}

-- the last of a list stands behind the others
last_at : {X : Type 0} (xs : List X) (y : X) → get_or (xs ++ y ∷ []) (length xs) y ≡ y
last_at [] y = refl
last_at (x ∷ xs) y = last_at xs y

-- what holds of each holds of the last
pub last_is : {X : Type 0} (P : X → Type 0) (xs : List X) (y : X) → All P (xs ++ y ∷ []) → P y
last_is P xs y all = subst P (last_at xs y) (All-get_or P (xs ++ y ∷ []) (length xs) y (omega (arith, length_push xs y)) all)
