-- Who is to be woken.
use Rattle.std.specs.Prelude.{ℕ, ◌≡◌, ◌⊎◌, IsTrue, Option, Some, None}
use Rattle.tp_types.specs.declared.ids.SlotId.{SlotId}
use Rattle.tp_waking.specs.declared.calls.Calls.{Calls}

abbrev pub Names : Option SlotId → ℕ → Type 0
Names (Some w) v = w.0 ≡ v
Names None v = ⊥

-- the worker of slot v is to be woken
abbrev pub IsCalled : Calls → ℕ → Type 0
IsCalled calls v = Names calls.worker v ⊎ IsTrue calls.everyone
