-- What a step is to those who wait for something that they did not find.
use Rattle.std.specs.Prelude.{ℕ, ◌⊎◌, IsTrue, ⊤}
use Rattle.tp_types.specs.declared.states.RunState.{RunState}
use Rattle.tp_record.specs.declared.entries.Ask.{Ask}
use Rattle.tp_record.specs.declared.entries.Did.{Did}
use Rattle.tp_waking.specs.declared.calls.Waiters.{Waiters}
use Rattle.tp_waking.specs.declared.waking.Waking.{Waking}
use Rattle.tp_waking.specs.Ends.{ChangesEnd}
use Rattle.tp_waking.specs.Results.{ChangesResults}
use Rattle.tp_waking.specs.Rooms.{ChangesRoom}

-- those who wait of one kind are to be woken where the step may change what they find; else they wait still
abbrev pub IsHeardBy : (Waiters → Type 0) → Type 0 → Waking → Waking → Type 0
IsHeardBy waits changes old new = (waits old.awaited → changes → waits new.calls.waiters) × (waits old.awaited → waits new.awaited ⊎ waits new.calls.waiters)

-- a step with this answer, which leaves the pool in this state with so many live workers and queued tasks, is heard by all whom it may concern
pub record IsHeard (old new : Waking) (a : Ask) (d : Did) (s : RunState) (live queued : ℕ) : Type 0 where
  pub end : IsHeardBy (λ w. IsTrue w.end) (ChangesEnd a s live queued) old new
  pub results : IsHeardBy (λ w. IsTrue w.results) (ChangesResults d) old new
  pub room : IsHeardBy (λ w. IsTrue w.room) (ChangesRoom d) old new
  pub steps : IsHeardBy (λ w. IsTrue w.steps) ⊤ old new
