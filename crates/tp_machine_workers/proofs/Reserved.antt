-- What a reserved slot is for, by its stage.
use Rattle.std.proofs.Common.{◌≡◌, ℕ, Option, Some, ◌⊎◌, inl, inr}
use Rattle.tp_types.specs.declared.ids.TaskId.{TaskId}
use Rattle.tp_record.specs.declared.rows.SlotRow.{SlotRow}
use Rattle.tp_record.specs.declared.rows.Stage.TheVariants as stages
use Rattle.tp_record.specs.State.{slot_at}
use Rattle.tp_laws.proofs.Model.Given.{ReservedWith}
use Rattle.tp_laws.proofs.Effects.Rows.{for_core, for_maximum, bare}
use Rattle.tp_machine_state.specs.declared.parts.Parts.{Parts}
use Rattle.tp_machine_state.specs.Steps.{Stands}
use Rattle.tp_machine_state.proofs.Standing.{seat_here}

-- for a first task t, below the core size or up to the maximum
abbrev pub IsFor : Option SlotRow → TaskId → Type 0
IsFor o t = (o ≡ Some (for_core t)) ⊎ (o ≡ Some (for_maximum t))

pub reserved_here : {P : Type 0} (p : Parts P) (stands : Stands p) (w : ℕ) (t : TaskId) → ReservedWith stands.history w t → IsFor (slot_at p.slots.slots w) t
reserved_here p stands w t (inl core) = inl (seat_here p stands w stages.ReservedCore (Some t) core)
reserved_here p stands w t (inr most) = inr (seat_here p stands w stages.ReservedMaximum (Some t) most)

module _ (o : Option SlotRow) (r : SlotRow) (row : o ≡ Some r) where
  pub is_core : (r.stage ≡ stages.ReservedCore) → (o ≡ Some bare) ⊎ ((t : TaskId) × IsFor o t) → (t : TaskId) × (o ≡ Some (for_core t))
  is_core stage (inl e) = absurd (let n : ⊥ = cc in n)
  is_core stage (inr (t, inl e)) = (t, e)
  is_core stage (inr (t, inr e)) = absurd (let n : ⊥ = cc in n)

  pub is_maximum : (r.stage ≡ stages.ReservedMaximum) → (o ≡ Some bare) ⊎ ((t : TaskId) × IsFor o t) → (t : TaskId) × (o ≡ Some (for_maximum t))
  is_maximum stage (inl e) = absurd (let n : ⊥ = cc in n)
  is_maximum stage (inr (t, inl e)) = absurd (let n : ⊥ = cc in n)
  is_maximum stage (inr (t, inr e)) = (t, e)

  pub is_bare : (r.stage ≡ stages.ReservedCore → ⊥) → (r.stage ≡ stages.ReservedMaximum → ⊥) → (o ≡ Some bare) ⊎ ((t : TaskId) × IsFor o t) → o ≡ Some bare
  is_bare core most (inl e) = e
  is_bare core most (inr (t, inl e)) = absurd (core cc)
  is_bare core most (inr (t, inr e)) = absurd (most cc)

  pub is_for_maximum : (t : TaskId) → (r.stage ≡ stages.ReservedCore → ⊥) → IsFor o t → o ≡ Some (for_maximum t)
  is_for_maximum t core (inl e) = absurd (core cc)
  is_for_maximum t core (inr e) = e
