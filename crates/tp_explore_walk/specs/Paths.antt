-- How many paths lead to each end.
use Rattle.std.specs.Prelude.{◌≡◌, ℕ, zero, suc, ◌+◌, ◌*◌, ◌^◌, ◌<◌, ◌≤◌, ◌-◌, ◌⊎◌, List, [], ◌∷◌, sum_by, Option, Some, length, set, slice_get, slice_index, slice_index_or}
use Rattle.std.specs.List.{AllZip, Contains, flat_map}
use Rattle.tp_explore_walk.specs.declared.counts.Count.{Count}
use Rattle.tp_explore_walk.specs.declared.counts.Count.TheVariants.{Exactly, Over}
use Rattle.tp_explore_walk.specs.declared.counts.Spot.{Spot}
use Rattle.tp_explore_walk.specs.declared.trails.Leg.{Leg}
use Rattle.tp_explore_walk.specs.Moves.{IsAt}

-- the state itself where it has no move, else the ends of the paths through its moves
abbrev pub end_or : {V : Type 0} → V → List V → List V → List V
end_or a [] ends = a ∷ []
end_or a (b ∷ bs) ends = ends

-- the ends of the paths from a, one for each path, where a path goes on as long as there is a move; n is more than the moves of any
unfoldable pub ended : {V : Type 0} → (V → List V) → ℕ → V → List V
ended next zero a = []
ended next (suc n) a = end_or a (next a) (flat_map (ended next n) (next a))

-- the count tells this number
abbrev pub Tells : Count → ℕ → Type 0
Tells (Exactly k) n = n ≡ k
Tells Over n = 2 ^ 128 ≤ n

-- the sum of f over the states, each taken as often as its number says
abbrev pub weighed : {V : Type 0} → (V → ℕ) → List V → List ℕ → ℕ
weighed f (z ∷ zs) (n ∷ ns) = n * f z + weighed f zs ns
weighed f zs ns = 0

-- Beside each end stands how many paths from the first lead there: whatever is summed over the ends of all paths, it comes to the sum over
-- the states that are ends, each taken as often as its count tells. The rank bounds the moves of a path.
pub record CountsPaths {V : Type 0} (next : V → List V) (first : V) (rank : ℕ) (xs : List V) (ends : List ℕ) (counts : List Count) : Type 0 where
  pub states : List V
  pub numbers : List ℕ
  pub at_ends : AllZip (IsAt xs) ends states
  pub told : AllZip Tells counts numbers
  pub beside : length numbers ≡ length states
  pub all : (f : V → ℕ) (n : ℕ) → rank < n → sum_by f (ended next n first) ≡ weighed f states numbers

-- c more at place j
abbrev pub add_at : List ℕ → ℕ → ℕ → List ℕ
add_at ns j c = set ns j (slice_index ns j + c)

-- c more at each place of the row
abbrev pub add_all : List ℕ → List ℕ → ℕ → List ℕ
add_all ns [] c = ns
add_all ns (j ∷ row) c = add_all (add_at ns j c) row c

-- the places in the row k
abbrev pub row_of : List (List ℕ) → ℕ → List ℕ
row_of rows k = slice_index_or rows k []

-- each place in turn hands its number on to those in its row
abbrev pub handed_on : List (List ℕ) → List ℕ → List ℕ → List ℕ
handed_on rows [] ns = ns
handed_on rows (k ∷ ks) ns = handed_on rows ks (add_all ns (row_of rows k) (slice_index ns k))

-- each state's place in turn, with its rank turned round
abbrev pub AreSpotsFrom : {A : Type 0} → (A → ℕ) → ℕ → List A → List Spot → Type 0
AreSpotsFrom rank k [] [] = Unit {0}
AreSpotsFrom rank k (x ∷ xs) (p ∷ ps) = (p.place ≡ k) × (p.depth + rank x ≡ 2 ^ 64 - 1) × AreSpotsFrom rank (suc k) xs ps
AreSpotsFrom rank k _ _ = ⊥

abbrev pub AreSpots : {A : Type 0} → (A → ℕ) → List A → List Spot → Type 0
AreSpots rank xs ps = AreSpotsFrom rank 0 xs ps

-- the legs lead from one place to the other: each is a move of the state that the one before it leads to
abbrev pub LeadsTo : List (List ℕ) → ℕ → List Leg → ℕ → Type 0
LeadsTo rows a [] b = a ≡ b
LeadsTo rows a (leg ∷ legs) b = (leg.from ≡ a) × ((j : ℕ) × IsAt (row_of rows a) leg.choice j × LeadsTo rows j legs b)

-- the legs lead to their places from the first n rows, and each place in one of these rows has one, from no later row
pub record AreFirsts (rows : List (List ℕ)) (n : ℕ) (firsts : List (Option Leg)) : Type 0 where
  pub legs : (j : ℕ) (leg : Leg) → slice_get firsts j ≡ Some (Some leg) → IsAt (row_of rows leg.from) leg.choice j × (leg.from ≤ n)
  pub early : (j k : ℕ) (row : List ℕ) → k < n → IsAt rows k row → Contains row j → j < length firsts → (leg : Leg) × (slice_get firsts j ≡ Some (Some leg)) × (leg.from ≤ k)

-- a leg is noted for a place that had none
pub record Notes (old : List (Option Leg)) (to : ℕ) (leg : Leg) (new : List (Option Leg)) : Type 0 where
  pub len : length new ≡ length old
  pub only : (j : ℕ) (l : Leg) → slice_get new j ≡ Some (Some l) → (slice_get old j ≡ Some (Some l)) ⊎ ((j ≡ to) × (l ≡ leg))
  pub kept : (j : ℕ) (l : Leg) → slice_get old j ≡ Some (Some l) → slice_get new j ≡ Some (Some l)
  pub there : to < length old → (l : Leg) × (slice_get new to ≡ Some (Some l))
