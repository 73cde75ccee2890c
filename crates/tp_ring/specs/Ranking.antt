-- How a ranking's items lie in order. No public clause cites this module.
use Rattle.std.specs.Prelude.{ℕ, ◌≡◌, ◌<◌, ◌≤◌, ◌^◌, List, [], ◌∷◌, length, map}
use Rattle.tp_ring.specs.declared.items.Ranked.{Ranked}
use Rattle.tp_ring.specs.Line.{Ordered}
use Rattle.tp_ring.specs.Ranks.{key}

module _ {T : Type 0} where
  -- each under its key
  abbrev pub keyed : List (Ranked T) → List (T × ℕ)
  keyed xs = map (λ x. (x.id, key x.rank x.number)) xs

  -- the place numbers are below n
  abbrev pub NumbersWithin : ℕ → List (Ranked T) → Type 0
  NumbersWithin n [] = Unit {0}
  NumbersWithin n (x ∷ xs) = (x.number < n) × NumbersWithin n xs

  -- none has the number m
  abbrev pub HasNo : ℕ → List (Ranked T) → Type 0
  HasNo m [] = Unit {0}
  HasNo m (x ∷ xs) = (x.number ≡ m → ⊥) × HasNo m xs

  -- no number comes twice
  abbrev pub AreOnce : List (Ranked T) → Type 0
  AreOnce [] = Unit {0}
  AreOnce (x ∷ xs) = HasNo x.number xs × AreOnce xs

  -- keys rise, numbers are below `next` and come once, and there are places for all
  pub record IsRanking (xs : List (Ranked T)) (places room next : ℕ) : Type 0 where
    pub rises : Ordered 0 (keyed xs) (2 ^ 96)
    pub numbers : NumbersWithin next xs
    pub once : AreOnce xs
    pub few : length xs ≤ next
    pub within : length xs ≤ places
    pub fits : places ≤ room
