-- What a contract sees of a ranking: a line whose items stand under one rising key, made of rank and place number.
use Rattle.std.specs.Prelude.{ℕ, ◌≡◌, ◌+◌, ◌*◌, ◌^◌, ◌%◌, ◌<◌, nat_le, nat_lt, List, [], ◌∷◌, ◌++◌, filter}

-- a greater rank comes later, and of equal ranks the greater number; numbers are below 2 ^ 64
abbrev pub key : ℕ → ℕ → ℕ
key rank number = rank * 2 ^ 64 + number

-- the number in a key
abbrev pub number_in : ℕ → ℕ
number_in k = k % 2 ^ 64

module _ {T : Type 0} where
  -- x put in at key k: behind all whose key is not greater
  abbrev pub enter : ℕ → T → List (T × ℕ) → List (T × ℕ)
  enter k x xs = filter (λ y. nat_le y.1 k) xs ++ (x, k) ∷ filter (λ y. nat_lt k y.1) xs

  -- no item has this number
  abbrev pub HasNoNumber : ℕ → List (T × ℕ) → Type 0
  HasNoNumber n [] = Unit {0}
  HasNoNumber n (x ∷ xs) = (number_in x.1 ≡ n → ⊥) × HasNoNumber n xs

  -- the numbers are below the number of offers, and none comes twice
  abbrev pub AreNumbered : ℕ → List (T × ℕ) → Type 0
  AreNumbered offers [] = Unit {0}
  AreNumbered offers (x ∷ xs) = (number_in x.1 < offers) × HasNoNumber (number_in x.1) xs × AreNumbered offers xs
