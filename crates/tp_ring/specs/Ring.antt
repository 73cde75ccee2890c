-- How a line lies in its ring. No public clause cites this module.
use Rattle.std.specs.Prelude.{ℕ, suc, ◌≡◌, ◌≤◌, true, cond, List, [], ◌∷◌, length, slice_index_or, map}
use Rattle.tp_ring.specs.declared.items.Item.{Item}

module _ {T : Type 0} where
  -- those of the places that are not dead
  abbrev pub living : List (Item T) → List (T × ℕ)
  living [] = []
  living (x ∷ xs) = cond x.live ((x.id, x.number) ∷ living xs) (living xs)

  -- the place numbers rise, from low on, and stay below next
  abbrev pub Rises : ℕ → List (Item T) → ℕ → Type 0
  Rises low [] next = low ≤ next
  Rises low (x ∷ xs) next = (low ≤ x.number) × Rises (suc x.number) xs next

  -- the number of a place
  abbrev pub number_at : List (Item T) → ℕ → ℕ
  number_at xs i = slice_index_or (map (λ x. x.number) xs) i 0

  -- the first place, if there is one, is not dead
  abbrev pub FrontLives : List (Item T) → Type 0
  FrontLives [] = Unit {0}
  FrontLives (x ∷ xs) = x.live ≡ true

  -- numbers rise below `next`, `live` counts those that wait, at most `capacity`, and no dead place is in front
  pub record IsLine (xs : List (Item T)) (capacity live next : ℕ) : Type 0 where
    pub rises : Rises 0 xs next
    pub counted : live ≡ length (living xs)
    pub within : live ≤ capacity
    pub front : FrontLives xs
