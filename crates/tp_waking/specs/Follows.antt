-- What an accepted step is to those who sleep and to those who wait.
use Rattle.std.specs.Prelude.{ℕ, ◌≡◌, ◌≢◌, Option, Some}
use Rattle.tp_types.specs.declared.ids.SlotId.{SlotId}
use Rattle.tp_types.specs.declared.ids.TaskId.{TaskId}
use Rattle.tp_types.specs.declared.states.RunState.{RunState}
use Rattle.tp_record.specs.declared.entries.Ask.{Ask}
use Rattle.tp_record.specs.declared.entries.Did.{Did}
use Rattle.tp_record.specs.declared.entries.Did.TheVariants as did
use Rattle.tp_record.specs.declared.entries.Offered.TheVariants as offered
use Rattle.tp_waking.specs.declared.sleepers.Rest.TheVariants as rests
use Rattle.tp_waking.specs.Rests.{rest_at}
use Rattle.tp_waking.specs.declared.waking.Waking.{Waking}
use Rattle.tp_waking.specs.Heard.{IsHeard}
use Rattle.tp_waking.specs.Told.{IsTold, EndsIdling}

-- a step with this answer, which leaves the pool in this state with so many live workers and queued tasks, and this worker to leave, is told to
-- all whom it concerns
pub record Follows (old new : Waking) (a : Ask) (d : Did) (s : RunState) (live queued : ℕ) (leaving : Option SlotId) : Type 0 where
  pub told : IsTold old new
  -- who has a task by hand does not sleep
  pub hand : (t : TaskId) (w : SlotId) → d ≡ did.Offer t (offered.Hand w) → rest_at new.sleepers w.0 ≢ rests.Listed
  -- nor does who is to leave
  pub leaves : (w : SlotId) → leaving ≡ Some w → rest_at new.sleepers w.0 ≢ rests.Listed
  -- nor does anybody where none is idle
  pub all : EndsIdling d → (v : ℕ) → rest_at new.sleepers v ≢ rests.Listed
  pub heard : IsHeard old new a d s live queued
