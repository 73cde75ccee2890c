-- What a watched reader and a watched writer keep: how much was given, how often they failed, and why first.
use Rattle.std.specs.Prelude.{◌≡◌, ◌≢◌, ◌⊎◌, ◌<◌, ◌+◌, ◌%◌, ◌^◌, ℕ, Some, IsSome, IfSome, Result, Err}
use Rattle.tp_types.specs.declared.refusals.PoolError.{PoolError}
use Rattle.tp_types.specs.declared.refusals.PoolError.TheVariants.{ReadFailed, WriteFailed}
use Rattle.tp_text.specs.declared.watched.Failures.{Failures}
use Rattle.tp_text.specs.declared.watched.WatchedReader.{WatchedReader}
use Rattle.tp_text.specs.declared.watched.WatchedWriter.{WatchedWriter}

-- it failed once more: there is a first reason, and one that was kept before stays
pub record FailsOnce (old new : Failures) : Type 0 where
  pub counted : new.count ≡ (old.count + 1) % 2 ^ 64
  pub told : IsSome new.first
  pub kept : IfSome old.first (λ e. new.first ≡ Some e)

-- by these two counts, modulo 2^64, more bytes came than a text may have, which is 1,048,576
pub record GivesTooMuch (old new : ℕ) : Type 0 where
  pub bytes : ℕ
  pub many : 1048576 < bytes
  pub counted_once : bytes < 2 ^ 64
  pub counted : new % 2 ^ 64 ≡ (old + bytes) % 2 ^ 64

module _ {R : Type 0} where
  -- the reader that is watched
  abbrev pub source : WatchedReader R → R
  source r = r.inner

  -- it failed in a call, or gave more in it than a text may have
  abbrev pub FailsToRead : WatchedReader R → WatchedReader R → Type 0
  FailsToRead old new = FailsOnce old.failures new.failures ⊎ ((new.failures ≡ old.failures) × GivesTooMuch old.given new.given)

  -- a call answers 25 only where it fails to read; with any other answer the reader has not failed
  abbrev pub TellsReader : {A : Type 0} → WatchedReader R → Result A PoolError → WatchedReader R → Type 0
  TellsReader old r new = (r ≡ Err ReadFailed → FailsToRead old new) × (r ≢ Err ReadFailed → new.failures ≡ old.failures)

module _ {W : Type 0} where
  -- the writer that is watched
  abbrev pub sink : WatchedWriter W → W
  sink w = w.inner

  -- a call answers 26 only where the writer failed in it; with any other answer the writer has not failed
  abbrev pub TellsWriter : {A : Type 0} → WatchedWriter W → Result A PoolError → WatchedWriter W → Type 0
  TellsWriter old r new =
      (r ≡ Err WriteFailed → FailsOnce old.failures new.failures) × (r ≢ Err WriteFailed → new.failures ≡ old.failures)
