-- Where a search cuts a ring. No public clause cites this module.
use Rattle.std.specs.Prelude.{ℕ, ◌<◌, ◌≤◌, List, length}
use Rattle.tp_ring.specs.declared.items.Item.{Item}
use Rattle.tp_ring.specs.Ring.{number_at}

module _ {T : Type 0} where
  -- the numbers before low are below n, and those from high on are not
  pub record IsBetween (xs : List (Item T)) (n low high : ℕ) : Type 0 where
    pub below : (i : ℕ) → i < low → number_at xs i < n
    pub above : (i : ℕ) → high ≤ i → i < length xs → n ≤ number_at xs i
    pub order : low ≤ high
    pub within : high ≤ length xs

  -- the first with a number of n or more is at this index
  abbrev pub IsSplit : List (Item T) → ℕ → ℕ → Type 0
  IsSplit xs n at = IsBetween xs n at at
