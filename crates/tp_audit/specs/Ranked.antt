-- How a queue by ranks lies in its tree, which no public clause cites.
use Rattle.std.specs.Prelude.{ℕ, ◌<◌, ◌%◌, ◌^◌, List, [], ◌∷◌, map}
use Rattle.indexmap.specs.IndexMap.{IndexMap}
use Rattle.tp_ring.specs.Line.{Ordered}
use Rattle.tp_audit.specs.Orders.{ArePlaced}

-- the tasks of a tree's entries, each with its key
abbrev pub keyed : List (ℕ × ℕ) → List (ℕ × ℕ)
keyed es = map (λ e. (e.1, e.0)) es

-- each place number is below n
abbrev pub AreBefore : ℕ → List (ℕ × ℕ) → Type 0
AreBefore n [] = Unit {0}
AreBefore n (x ∷ xs) = (x.1 % 2 ^ 64 < n) × AreBefore n xs

-- keys rise along the queue, place numbers are below the next one, and just the tasks that wait have keys
pub record AreKept {S : Type 0} (es : List (ℕ × ℕ)) (keys : IndexMap ℕ ℕ S) (came : ℕ) : Type 0 where
  pub rises : Ordered 0 (keyed es) (2 ^ 96)
  pub numbers : AreBefore came (keyed es)
  pub placed : ArePlaced (keyed es) keys
