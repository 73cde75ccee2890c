-- One after another.
use Rattle.std.specs.Prelude.{◌≡◌, List, [], ◌∷◌}

module _ {X S : Type 0} (R : X → S → S → Type 0) where
  -- each of these in its turn leads from one state to the next
  abbrev pub Through : List X → S → S → Type 0
  Through [] old new = new ≡ old
  Through (x ∷ xs) old new = (mid : S) × R x old mid × Through xs mid new

module _ {X Y S : Type 0} (R : X → Y → S → S → Type 0) where
  -- so does each of these with its counterpart among those, of which there are as many. So a call of many jobs says of which job
  -- each number is: by the numbers alone, a body that submits the jobs in another order would be proved
  abbrev pub ThroughBoth : List X → List Y → S → S → Type 0
  ThroughBoth [] [] old new = new ≡ old
  ThroughBoth (x ∷ xs) (y ∷ ys) old new = (mid : S) × R x y old mid × ThroughBoth xs ys mid new
  ThroughBoth _ _ old new = ⊥
