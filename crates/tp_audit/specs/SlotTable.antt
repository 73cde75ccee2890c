-- The slots of a state, kept by number.
use Rattle.std.specs.Prelude.{ℕ, zero, suc, ◌≡◌, ◌≤◌, ◌&&◌, Bool, true, false, List, map, Option, Some, None, is_none, nat_eq}
use Rattle.indexmap.specs.IndexMap.{IndexMap, get}
use Rattle.tp_record.specs.declared.rows.SlotRow.{SlotRow}
use Rattle.tp_record.specs.declared.rows.Stage.{Stage}
use Rattle.tp_record.specs.declared.rows.Stage.TheVariants as stages
use Rattle.tp_record.specs.Lists.{count_from}

-- a worker about to take: it works, and has no task
abbrev pub is_taking : Stage → Bool
is_taking stages.Working = true
is_taking _ = false

abbrev pub is_at_take : Option SlotRow → Bool
is_at_take None = false
is_at_take (Some r) = is_taking r.stage && is_none r.task

-- so many places reach the greatest number
abbrev pub places_to : Option ℕ → ℕ
places_to None = zero
places_to (Some w) = suc w

module _ {S : Type 0} where
  -- the slots by number, as far as the greatest one
  abbrev pub slots_to : Option ℕ → IndexMap ℕ SlotRow S → List (Option SlotRow)
  slots_to greatest rows = map (get nat_eq rows) (count_from 0 (places_to greatest))

  -- no number is above the greatest one
  abbrev pub IsWithin : Option ℕ → IndexMap ℕ SlotRow S → Type 0
  IsWithin greatest rows = (w : ℕ) → places_to greatest ≤ w → get nat_eq rows w ≡ None
