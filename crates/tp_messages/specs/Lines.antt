-- The lines of a text by their numbers.
use Rattle.std.specs.Prelude.{◌≡◌, ◌+◌, ℕ, List, ◌∷◌, ◌++◌, length}
use Rattle.std.specs.List.{AllByRecursion, flat_map}
use Rattle.tp_text.specs.Lines.{HasNoLineFeed, ended}

-- line k of a text, which has its end: k - 1 lines stand before it
pub record IsLineAt (text line : List ℕ) (k : ℕ) : Type 0 where
  pub before : List (List ℕ)
  pub behind : List ℕ
  pub each : AllByRecursion HasNoLineFeed before
  pub whole : text ≡ flat_map ended before ++ (line ++ 10 ∷ behind)
  pub number : length before + 1 ≡ k
  pub one : HasNoLineFeed line
