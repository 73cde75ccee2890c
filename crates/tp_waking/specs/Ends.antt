-- Which steps change what they find who wait for a pool's end.
use Rattle.std.specs.Prelude.{ℕ, ◌≡◌, ⊤}
use Rattle.tp_types.specs.declared.states.RunState.{RunState}
use Rattle.tp_types.specs.declared.states.RunState.TheVariants as state
use Rattle.tp_record.specs.declared.entries.Ask.{Ask}
use Rattle.tp_record.specs.declared.entries.Ask.TheVariants as ask

-- the pool may have come to its end: it is terminated, or has no live worker and at SHUTDOWN no queued task, so that `tidy` may fit
abbrev pub MayEnd : RunState → ℕ → ℕ → Type 0
MayEnd state.Shutdown live queued = (live ≡ 0) × (queued ≡ 0)
MayEnd state.Stop live queued = live ≡ 0
MayEnd state.Terminated live queued = ⊤
MayEnd _ live queued = ⊥

-- a tick may bring a deadline
abbrev pub ChangesEnd : Ask → RunState → ℕ → ℕ → Type 0
ChangesEnd (ask.Tick n) s live queued = ⊤
ChangesEnd _ s live queued = MayEnd s live queued
