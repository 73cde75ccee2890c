-- Whom an accepted step rouses.
use Rattle.std.specs.Prelude.{ℕ, ◌≡◌, ◌≢◌, Some}
use Rattle.tp_types.specs.RunState.{state_rank}
use Rattle.tp_types.specs.declared.ids.SlotId.{SlotId}
use Rattle.tp_types.specs.declared.ids.TaskId.{TaskId}
use Rattle.tp_types.specs.declared.states.RunState.{RunState}
use Rattle.tp_record.specs.declared.entries.Ask.{Ask}
use Rattle.tp_record.specs.declared.entries.Ask.TheVariants as ask
use Rattle.tp_record.specs.declared.entries.Did.{Did}
use Rattle.tp_record.specs.declared.entries.Did.TheVariants as did
use Rattle.tp_record.specs.declared.entries.Offered.TheVariants as offered
use Rattle.tp_record.specs.declared.entries.Took.TheVariants as took
use Rattle.tp_record.specs.State.{counts}
use Rattle.tp_slots.specs.Table.{first_slot}
use Rattle.tp_machine_state.specs.Steps.{IsFitting}
use Rattle.tp_waking.specs.Rests.{rest_at}
use Rattle.tp_waking.specs.declared.sleepers.Rest.TheVariants as rests
use Rattle.tp_waking.specs.declared.waking.Waking.{Waking}
use Rattle.tp_waking.specs.Heard.{IsHeard}
use Rattle.tp_waking.specs.Told.{IsTold, EndsIdling}
use Rattle.tp_book.specs.BookView.{BookView, config, state_of}

-- the worker of this slot would leave at its `take`
abbrev pub WouldLeave : {P : Type 0} → BookView P → SlotId → Type 0
WouldLeave b w = IsFitting (config b) (state_of b) (ask.Take w) (did.Take w took.Leave)

-- all whom a step with this answer concerns are to be woken, as the book stands after it
pub record IsRoused {P : Type 0} (b : BookView P) (old new : Waking) (a : Ask) (d : Did) : Type 0 where
  pub told : IsTold old new
  -- who has a task by hand does not sleep
  pub hand : (t : TaskId) (w : SlotId) → d ≡ did.Offer t (offered.Hand w) → rest_at new.sleepers w.0 ≢ rests.Listed
  -- nor does the worker that is idle longest, where it would leave
  pub leaves : (w : SlotId) → first_slot (state_of b).idling ≡ Some w → WouldLeave b w → rest_at new.sleepers w.0 ≢ rests.Listed
  -- nor does anybody where none is idle
  pub all : EndsIdling d → (v : ℕ) → rest_at new.sleepers v ≢ rests.Listed
  pub state : RunState
  pub rank : state_rank state ≡ (state_of b).rank
  pub heard : IsHeard old new a d state (counts (state_of b)).live (counts (state_of b)).queued
