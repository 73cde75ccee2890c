-- Who comes next in an order, and how it lies in its line, which no public clause cites.
use Rattle.std.specs.Prelude.{ℕ, ◌≡◌, ◌⊎◌, ◌==◌, List, [], ◌∷◌, Option, Some, None, slice_get, nat_eq, if◌then◌else◌}
use Rattle.indexmap.specs.IndexMap.{IndexMap, get}

-- who stands behind x
abbrev pub next_of : ℕ → List ℕ → Option ℕ
next_of x [] = None
next_of x (y ∷ ys) = if y == x then slice_get ys 0 else next_of x ys

-- the list from this number on
abbrev pub from_on : Option ℕ → List ℕ → List ℕ
from_on None xs = []
from_on (Some x) [] = []
from_on (Some x) (y ∷ ys) = if y == x then y ∷ ys else from_on (Some x) ys

-- x stands in the line, at place n
abbrev pub HasPlace : List (ℕ × ℕ) → ℕ → ℕ → Type 0
HasPlace [] x n = ⊥
HasPlace (y ∷ ys) x n = ((y.0 ≡ x) × (y.1 ≡ n)) ⊎ HasPlace ys x n

-- just those in the line have places, the ones at which they stand
pub record ArePlaced {S : Type 0} (items : List (ℕ × ℕ)) (places : IndexMap ℕ ℕ S) : Type 0 where
  pub listed : (x n : ℕ) → HasPlace items x n → get nat_eq places x ≡ Some n
  pub placed : (x n : ℕ) → get nat_eq places x ≡ Some n → HasPlace items x n
