-- What is seen of the slots, and how they are kept. No public clause cites this module.
use Rattle.std.specs.Prelude.{ℕ, ◌≡◌, ◌+◌, ◌-◌, ◌^◌, ◌<◌, ◌≤◌, List, length, count_by, Option, Some, None, is_some, IsSome, slice_get, slice_index_or, slice_set}
use Rattle.tp_slots.specs.declared.kept_slots.KeptSlot.{KeptSlot}

-- the slot or nothing at each number; the number of the next slot; and how many slots there may be
pub record Keeping : Type 0 where
  pub slots : List (Option KeptSlot)
  pub next : ℕ
  pub places : ℕ

abbrev pub kept_at : List (Option KeptSlot) → ℕ → Option KeptSlot
kept_at kept w = slice_index_or kept w None

-- the number w is taken
abbrev pub HasSlot : Keeping → ℕ → Type 0
HasSlot s w = IsSome (kept_at s.slots w)

-- w has this slot
abbrev pub with_slot : Keeping → ℕ → KeptSlot → Keeping
with_slot s w slot = record s { slots = slice_set s.slots w (Some slot) }

-- the slots are the same, but w is now o
pub record Changed (old new : List (Option KeptSlot)) (w : ℕ) (o : Option KeptSlot) : Type 0 where
  pub here : kept_at new w ≡ o
  pub others : (x : ℕ) → (x ≡ w → ⊥) → kept_at new x ≡ kept_at old x

-- the number that was freed last, or else the one past the last slot
abbrev pub next_of : List (Option KeptSlot) → List ℕ → ℕ
next_of rows free = slice_index_or free (length free - 1) (length rows)

-- the free numbers are those of the empty places, each of them once; no number is past the places, which are few
pub record IsKept (rows : List (Option KeptSlot)) (free : List ℕ) (places : ℕ) : Type 0 where
  pub vacant : (i : ℕ) → i < length free → slice_get rows (slice_index_or free i 0) ≡ Some None
  pub once : (i j : ℕ) → i < j → j < length free → slice_index_or free i 0 ≡ slice_index_or free j 0 → ⊥
  pub counted : count_by is_some rows + length free ≡ length rows
  pub within : length rows ≤ places
  pub few : places < 2 ^ 16
