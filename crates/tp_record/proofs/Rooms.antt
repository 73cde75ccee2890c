-- Entries in front of the room that is written behind them.
use Rattle.std.proofs.Common.{◌≡◌, ℕ, ◌≤◌, List, [], ◌∷◌, ◌++◌, length, take}
use Rattle.std.proofs.lemmas.List.{take-append-le}

-- one more value behind them leaves them as they are
pub front_kept : {A : Type 0} (n : ℕ) (xs : List A) (x : A) → n ≤ length xs → take n (xs ++ x ∷ []) ≡ take n xs
front_kept n xs x within = take-append-le n xs (x ∷ []) within
