-- What a walk over the states of a finite system finds.
use Rattle.std.specs.Prelude.{◌≡◌, ◌≢◌, ℕ, suc, ◌<◌, ◌≤◌, ◌⊎◌, ◌↔◌, List, [], ◌∷◌, ◌++◌, length, slice_get, Some}
use Rattle.std.specs.List.{All, AllPairs, AllZip, Contains}

-- b is reached from a by moves, each of them one of those that `next` lists
pub data Reaches {V : Type 0} (next : V → List V) (a : V) : V → Type 0 where
  here : Reaches next a a
  moved : {b c : V} → Reaches next a b → Contains (next b) c → Reaches next a c

-- the list's element at a place
abbrev pub IsAt : {V : Type 0} → List V → ℕ → V → Type 0
IsAt xs i x = slice_get xs i ≡ Some x

-- the row has the places of the ys in xs, in their order
abbrev pub Places : {V : Type 0} → List V → List ℕ → List V → Type 0
Places xs row ys = AllZip (IsAt xs) row ys

-- the places of the empty rows, where the first row's is k
abbrev pub empties : ℕ → List (List ℕ) → List ℕ
empties k [] = []
empties k ([] ∷ rows) = k ∷ empties (suc k) rows
empties k ((i ∷ row) ∷ rows) = empties (suc k) rows

-- each place but the first stands in the row of one before it
abbrev pub AreLed : ℕ → List (List ℕ) → Type 0
AreLed n rows = (j : ℕ) → 0 < j → j < n → (k : ℕ) × (row : List ℕ) × (k < j) × IsAt rows k row × Contains row j

-- the states xs are those that are reached from the first, each once; the row beside each has the places of its moves, and each but the
-- first is led to from one before it; the ends are the places of the states without a move
pub record IsWalk {V : Type 0} (next : V → List V) (first : V) (xs : List V) (rows : List (List ℕ)) (ends : List ℕ) : Type 0 where
  pub begins : IsAt xs 0 first
  pub exact : (x : V) → Contains xs x ↔ Reaches next first x
  pub once : AllPairs (λ x y. x ≢ y) xs
  pub moves : AllZip (λ row x. Places xs row (next x)) rows xs
  pub led : AreLed (length xs) rows
  pub bare : ends ≡ empties 0 rows
  pub ended : (x : V) → ((i : ℕ) × Contains ends i × IsAt xs i x) ↔ (Reaches next first x × (next x ≡ []))

-- the same, from some state at which this holds
abbrev pub IsWalkFromSome : {V : Type 0} → (V → List V) → (V → Type 0) → List V → List (List ℕ) → List ℕ → Type 0
IsWalkFromSome {V} next holds xs rows ends = (first : V) × holds first × IsWalk next first xs rows ends

-- more than so many states are reached: here they are
pub record ReachesMore {V : Type 0} (next : V → List V) (first : V) (most : ℕ) : Type 0 where
  pub states : List V
  pub reached : All (Reaches next first) states
  pub once : AllPairs (λ x y. x ≢ y) states
  pub more : most < length states

-- xs' is xs and those of ms that it lacked, and the row has the places of ms
pub record Added {V : Type 0} (xs xs' ms : List V) (row : List ℕ) : Type 0 where
  pub grown : (ys : List V) × (xs' ≡ xs ++ ys)
  pub from : (y : V) → Contains xs' y → Contains xs y ⊎ Contains ms y
  pub once : AllPairs (λ x y. x ≢ y) xs → AllPairs (λ x y. x ≢ y) xs'
  pub places : Places xs' row ms
  pub fresh : (j : ℕ) → length xs ≤ j → j < length xs' → Contains row j
