-- What the deeds of a rescue are in its pool's book.
use Rattle.std.specs.Prelude.{ℕ, Bool, ◌≡◌, List, Option, None, Result, Ok, Err, is_ok}
use Rattle.tp_types.specs.declared.configs.Config.{Config}
use Rattle.tp_types.specs.declared.ids.SlotId.{SlotId}
use Rattle.tp_types.specs.declared.refusals.PoolError.{PoolError}
use Rattle.tp_record.specs.declared.entries.Ask.TheVariants as ask
use Rattle.tp_record.specs.declared.entries.Did.TheVariants as did
use Rattle.tp_record.specs.declared.entries.Entry.{Entry}
use Rattle.tp_machine_state.specs.Payloads.{Keeps}
use Rattle.tp_protocols.specs.declared.rescues.RescueDeed.{RescueDeed}
use Rattle.tp_protocols.specs.declared.rescues.RescueDeed.TheVariants as deed
use Rattle.tp_pool_holds.specs.Steps.{Asks}
use Rattle.tp_pool_holds.specs.Deeds.{Tidies, EndsLast}

-- the slot that a prestart reserved, none where it was refused
abbrev pub slot_of : Result (Option SlotId) PoolError → Option SlotId
slot_of (Ok w) = w
slot_of (Err e) = None

-- a thread whose pass has this number does this at a history that goes on from the one that it knows; then it knows the other one
abbrev pub IsDone : Type 0 → Bool → Config → ℕ → List Entry → List Entry → RescueDeed → Type 0
IsDone J keeps c by before after (deed.Tidied began) = Tidies J keeps c by before after (λ r. began ≡ is_ok r)
IsDone J keeps c by before after deed.Terminated = after ≡ before
IsDone J keeps c by before after deed.Ended = EndsLast J keeps c by before after
IsDone J keeps c by before after (deed.Reserved w) = Asks J keeps c by before ask.Prestart (λ w. did.Prestart w) (λ _. Keeps) after (λ r. w ≡ slot_of r)
