-- What the steps of a pool make of those who sleep.
use Rattle.std.specs.Prelude.{ℕ, ◌≡◌, ◌≢◌, ◌⊎◌, ◌<◌, length, ⊤}
use Rattle.tp_record.specs.declared.entries.Did.{Did}
use Rattle.tp_record.specs.declared.entries.Did.TheVariants as did
use Rattle.tp_waking.specs.declared.sleepers.Rest.TheVariants as rests
use Rattle.tp_waking.specs.Rests.{rest_at}
use Rattle.tp_waking.specs.declared.waking.Waking.{Waking}
use Rattle.tp_waking.specs.Calls.{IsCalled}

-- whoever does not sleep any more is to be woken, whoever was to be woken still is, and nobody falls asleep
pub record IsTold (old new : Waking) : Type 0 where
  pub told : (v : ℕ) → rest_at old.sleepers v ≡ rests.Listed → rest_at new.sleepers v ≢ rests.Listed → IsCalled new.calls v
  pub kept : (v : ℕ) → IsCalled old.calls v → IsCalled new.calls v
  pub awake : (v : ℕ) → rest_at old.sleepers v ≢ rests.Listed → rest_at new.sleepers v ≢ rests.Listed

-- the worker of slot w has looked for a task: its search is over, and where it found none it sleeps, unless it is woken at once; nobody else
-- falls asleep, whoever does not sleep any more is to be woken, and whoever was to be woken still is
pub record HasLooked (old new : Waking) (w : ℕ) (sleeps : Type 0) : Type 0 where
  pub over : rest_at new.sleepers w ≡ rests.Marked → IsCalled new.calls w
  pub asleep : sleeps → w < length old.sleepers → (rest_at new.sleepers w ≡ rests.Listed) ⊎ IsCalled new.calls w
  pub others : (v : ℕ) → v ≢ w → rest_at old.sleepers v ≢ rests.Listed → rest_at new.sleepers v ≢ rests.Listed
  pub told : (v : ℕ) → rest_at old.sleepers v ≡ rests.Listed → rest_at new.sleepers v ≢ rests.Listed → IsCalled new.calls v
  pub kept : (v : ℕ) → IsCalled old.calls v → IsCalled new.calls v
  pub waiters : (new.awaited ≡ old.awaited) × (new.calls.waiters ≡ old.calls.waiters)

-- a step after which no worker is idle
abbrev pub EndsIdling : Did → Type 0
EndsIdling did.Shutdown = ⊤
EndsIdling (did.Stop n) = ⊤
EndsIdling _ = ⊥
