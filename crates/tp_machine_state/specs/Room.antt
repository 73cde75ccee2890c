-- Whether there is room for one more entry.
use Rattle.std.specs.Prelude.{ℕ, ◌≡◌, ◌⊎◌, Bool, true, false, Result, Ok, Err}
use Rattle.tp_types.specs.declared.refusals.PoolError.{PoolError}
use Rattle.tp_types.specs.declared.refusals.PoolError.TheVariants.{BookFull}
use Rattle.tp_record.specs.declared.entries.Did.{Did}
use Rattle.tp_record.specs.State.{State}
use Rattle.tp_record.specs.Step.{leaves_room}
use Rattle.tp_machine_state.specs.declared.parts.Parts.{Parts}
use Rattle.tp_laws.specs.View.{View, Effect}
use Rattle.tp_machine_state.specs.Shows.{Shows}
use Rattle.tp_machine_state.specs.Terms.{terms}

-- b says whether the record has room for an entry by which what is owed falls and rises by so much
abbrev pub TellsRoom : {P : Type 0} → Parts P → ℕ → ℕ → Bool → Type 0
TellsRoom p fall rise b = (s : State) (d : Did) (v : View) → Shows p s → Effect s d v fall rise → b ≡ leaves_room (terms p) s d

-- r is the answer q where the record has room for its entry, by which what is owed falls and rises by so much, and BookFull where it has none
abbrev pub IsInRoom : {P X : Type 0} → Parts P → ℕ → ℕ → Result X PoolError → Result X PoolError → Type 0
IsInRoom p fall rise (Ok x) r = ((r ≡ Ok x) × TellsRoom p fall rise true) ⊎ ((r ≡ Err BookFull) × TellsRoom p fall rise false)
IsInRoom p fall rise (Err e) r = r ≡ Err e
