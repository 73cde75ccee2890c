-- The lines of a text.
use Rattle.std.specs.Prelude.{◌≡◌, ◌≢◌, ◌⊎◌, ◌<◌, ◌≤◌, ℕ, List, [], ◌∷◌, ◌++◌, length, slice_index, codes}
use Rattle.std.specs.List.{flat_map, AllByRecursion}
use Rattle.std.specs.Str.{IsAscii}
use Rattle.std.specs.Str.Iter.{HasSubslice}

-- no space stands beside another or at an end
pub record IsWellSpaced (bytes : List ℕ) : Type 0 where
  pub single : HasSubslice bytes (codes "  ") → ⊥
  pub first : slice_index bytes 0 ≢ 32
  pub last : (front : List ℕ) → bytes ≢ front ++ 32 ∷ []

-- what a line must be whatever it says: ASCII without a carriage return, at most 200 bytes, and well spaced
pub record IsClean (bytes : List ℕ) : Type 0 where
  pub short : length bytes ≤ 200
  pub ascii : IsAscii bytes
  pub returns : (i : ℕ) → i < length bytes → slice_index bytes i ≢ 13
  pub spaces : IsWellSpaced bytes

-- an empty line, or a comment
abbrev pub IsSkipped : List ℕ → Type 0
IsSkipped bytes = (bytes ≡ []) ⊎ (IsClean bytes × (slice_index bytes 0 ≡ 35))

-- lines, each ended by a line feed

abbrev pub HasNoLineFeed : List ℕ → Type 0
HasNoLineFeed bytes = (i : ℕ) → i < length bytes → slice_index bytes i ≢ 10

abbrev pub ended : List ℕ → List ℕ
ended line = line ++ 10 ∷ []

-- the lines of a text, and what stands behind its last line feed
pub record IsLines (text : List ℕ) (lines : List (List ℕ)) (rest : List ℕ) : Type 0 where
  pub whole : text ≡ flat_map ended lines ++ rest
  pub each : AllByRecursion HasNoLineFeed lines
  pub last : HasNoLineFeed rest
