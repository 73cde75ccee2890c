-- A step that is a value, made and noted by the one call for all of them.
use Rattle.std.proofs.Common.{◌≡◌, ℕ, ◌+◌, List, ◌∷◌, sym, subst, refl, inl, inr}
use Rattle.tp_record.specs.declared.entries.Entry.{Entry}
use Rattle.tp_record.specs.declared.entries.Ask.{Ask}
use Rattle.tp_record.specs.declared.entries.Did.{Did}
use Rattle.tp_types.specs.declared.refusals.PoolError.{PoolError}
use Rattle.tp_machine_state.specs.declared.parts.Parts.{Parts}
use Rattle.tp_machine_state.specs.Outcomes.{Denies, FitsOutcome as FitsOutcomeOf}
use Rattle.tp_machine_state.specs.Steps.{Accepts, Leads, Refuses}
use Rattle.tp_machine.specs.Seen.{Seen, IsSound}
use Rattle.tp_machine.specs.Steps.{IsStep, IsRefusedBy}
use Rattle.tp_machine.specs.Stepped.{FitsOutcome}
use Rattle.tp_machine.specs.Typed.{IsDeniedBy}
use Rattle.tp_machine.proofs.Stepping.{step_made, step_sound, refused_step}

-- what a step asks and what was done are those that were noted
module _ {P R : Type 0} (tells : R → List Entry → List ℕ → Type 0) (places : R → ℕ) (parts : Parts P) (noted : R) (new : Seen P R) (by : ℕ) (a x : Ask) (d y : Did) (ask_is : x ≡ a) (did_is : y ≡ d)
    (accepts : Accepts parts a d) where
  pub noted_accepts : Accepts parts x y
  noted_accepts = subst (λ z. Accepts parts z y) (sym ask_is) (subst (λ z. Accepts parts a z) (sym did_is) accepts)

  module _ (leads : Leads parts d new.parts) (tell : (h : List Entry) (rs : List ℕ) → tells noted h rs → tells new.noted (record { by = by; ask = x; did = y } ∷ h) rs) where
    told : (h : List Entry) (rs : List ℕ) → tells noted h rs → tells new.noted (record { by = by; ask = a; did = d } ∷ h) rs
    told h rs t = subst (λ z. tells new.noted (record { by = by; ask = a; did = z } ∷ h) rs) did_is (subst (λ z. tells new.noted (record { by = by; ask = z; did = y } ∷ h) rs) ask_is (tell h rs t))

    pub value_made : (m : Seen P R) → record { parts = parts; noted = noted } ≡ m → IsStep tells m new by a d
    value_made = step_made tells places parts noted new by a d accepts leads told

    pub value_sound : IsSound tells places (record { parts = parts; noted = noted }) → places new.noted + 1 ≡ places noted → IsSound tells places new
    value_sound = step_sound tells places parts noted new by a d accepts leads told

-- a denial is the step's refusal where the outcome is as promised, or none comes with the ask
pub refuses_denied : {P : Type 0} (parts : Parts P) (a : Ask) (e : PoolError) → FitsOutcomeOf parts a → Denies parts a e → Refuses parts a e
refuses_denied parts a e fits (inl torn) = absurd (torn.1 fits)
refuses_denied parts a e fits (inr other) = other.1

-- a denial by the structures is one by the machine
pub denied_step : {P R : Type 0} (tells : R → List Entry → List ℕ → Type 0) (parts : Parts P) (noted : R) (m : Seen P R) (a : Ask) (e : PoolError) → record { parts = parts; noted = noted } ≡ m → Denies parts a e → IsDeniedBy tells m a e
denied_step {P} {R} tells parts noted m a e is denies = subst (λ x. IsDeniedBy tells x a e) is (by denies)
  where
    by : Denies parts a e → IsDeniedBy tells (record { parts = parts; noted = noted }) a e
    by (inl torn) = inl torn
    by (inr other) = inr (other.0, refused_step tells parts noted (record { parts = parts; noted = noted }) a e refl other.1)

-- and it is a refusal by the machine there
pub not_torn : {P R : Type 0} (tells : R → List Entry → List ℕ → Type 0) (m : Seen P R) (a : Ask) (e : PoolError) → FitsOutcome m a → IsDeniedBy tells m a e → IsRefusedBy tells m a e
not_torn tells m a e fits (inl torn) = absurd (torn.1 fits)
not_torn tells m a e fits (inr other) = other.1
