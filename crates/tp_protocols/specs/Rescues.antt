-- What a thread does in a round of a rescue, in order.
use Rattle.std.specs.Prelude.{ℕ, true, false, ◌≡◌, ◌⊎◌, ◌<◌, ◌≤◌, [], ◌∷◌, Option, None}
use Rattle.tp_types.specs.declared.ids.SlotId.{SlotId}
use Rattle.tp_protocols.specs.declared.rescues.RescueDeed.{RescueDeed}
use Rattle.tp_protocols.specs.declared.rescues.RescueDeed.TheVariants as deed
use Rattle.tp_protocols.specs.declared.rescues.Remains.{Remains}
use Rattle.tp_protocols.specs.declared.rescues.Remains.TheVariants as remains
use Rattle.tp_protocols.specs.Turns.{Does}

module _ {P : Type 0} (did : P → RescueDeed → P → Type 0) (old : P) where
  -- the pool is ended, with its hook called once, where its end begins
  abbrev pub IsEnding : P → Type 0
  IsEnding new = Does did old (deed.Tidied true ∷ deed.Terminated ∷ deed.Ended ∷ []) new ⊎ Does did old (deed.Tidied false ∷ []) new

  -- where this is left after so many tries, this is done, and this slot is to have a worker
  abbrev pub IsRound : Remains → ℕ → Option SlotId → P → Type 0
  IsRound remains.Nothing tried next new = (next ≡ None) × Does did old [] new
  IsRound remains.End tried next new = (next ≡ None) × IsEnding new
  IsRound (remains.Worker queued) tried next new = ((tried < queued) × Does did old (deed.Reserved next ∷ []) new) ⊎ ((queued ≤ tried) × (next ≡ None) × Does did old [] new)
