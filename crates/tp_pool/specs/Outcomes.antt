-- What the entries of a record say of how bodies ended.
use Rattle.std.specs.Prelude.{ℕ, ◌≡◌, Bool, true, false, [], ◌∷◌, Some, Err}
use Rattle.tp_record.specs.declared.entries.Did.{Did}
use Rattle.tp_record.specs.declared.entries.Did.TheVariants as did
use Rattle.tp_record.specs.declared.entries.Entry.{Entry}
use Rattle.tp_record.specs.Effects.{Outcome, outcomes}

-- the entry gives task t this outcome
abbrev pub Gives : ℕ → Outcome → Entry → Type 0
Gives t o e = outcomes e.did ≡ (t, Some o) ∷ []

-- it gives it none
abbrev pub GivesNone : ℕ → Entry → Type 0
GivesNone t e = (o : Outcome) → ¬ Gives t o e

abbrev pub is_fault_said : Did → Bool
is_fault_said (did.End w t (Err code)) = true
is_fault_said (did.CallerEnd t (Err code)) = true
is_fault_said _ = false

-- by this entry a body ended with a fault
abbrev pub is_fault : Entry → Bool
is_fault e = is_fault_said e.did
