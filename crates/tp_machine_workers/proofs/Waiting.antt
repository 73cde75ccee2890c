-- The slots of workers that ask for a task.
use Rattle.std.proofs.Common.{◌≡◌, ℕ, true, false, Some, None, sym, ap, ◌∙◌, inl, inr}
use Rattle.std.proofs.lemmas.Bool.{false≢true}
use Rattle.tp_record.specs.declared.rows.Stage.TheVariants as stages
use Rattle.tp_record.specs.Fields.{is_idle_row}
use Rattle.tp_record.specs.State.{slot_at}
use Rattle.tp_laws.proofs.Model.Given.{Waits}
use Rattle.tp_laws.proofs.Effects.Rows.{at_take, idle_since}
use Rattle.tp_machine_state.specs.declared.parts.Parts.{Parts}
use Rattle.tp_machine_state.specs.Steps.{Stands}
use Rattle.tp_machine_state.proofs.Standing.{seat_here}

module _ {P : Type 0} (p : Parts P) (stands : Stands p) (w : ℕ) where
  -- one that is not idle is about to take
  pub taking_row : Waits stands.history w → is_idle_row (slot_at p.slots.slots w) ≡ false → slot_at p.slots.slots w ≡ Some at_take
  taking_row (inl row) busy = seat_here p stands w stages.Working None row
  taking_row (inr idle) busy = absurd (false≢true (sym busy ∙ ap is_idle_row (seat_here p stands w (stages.Idle idle.0) None idle.1)))

  -- one that is idle is so since a moment
  pub idle_row : Waits stands.history w → is_idle_row (slot_at p.slots.slots w) ≡ true → (m : ℕ) × (slot_at p.slots.slots w ≡ Some (idle_since m))
  idle_row (inl row) idle = absurd (false≢true (sym (ap is_idle_row (seat_here p stands w stages.Working None row)) ∙ idle))
  idle_row (inr since) idle = (since.0, seat_here p stands w (stages.Idle since.0) None since.1)
