-- How a command ends: the refusal of its run is written, and then it has a status.
use Rattle.std.specs.Prelude.{◌≡◌, ◌⊎◌, ℕ, Bool, true, false, List, Option, Result, Ok, Err}
use Rattle.std.specs.Io.KnownBytes.{Appends}
use Rattle.tp_types.specs.declared.refusals.PoolError.{PoolError}
use Rattle.tp_types.specs.declared.refusals.PoolError.TheVariants.{NoMemory, ReadFailed}
use Rattle.tp_text.specs.declared.watched.WatchedReader.{WatchedReader}
use Rattle.tp_text.specs.declared.watched.WatchedWriter.{WatchedWriter}
use Rattle.tp_text.specs.EndLines.{refusal_line}
use Rattle.tp_text.specs.Watching.{FailsOnce, TellsReader, sink}

-- 0 where the run answered true, else 1
abbrev pub status_of : Result Bool PoolError → ℕ
status_of (Ok true) = 0
status_of (Ok false) = 1
status_of (Err refusal) = 1

module _ {W : Type 0} (contents : W → Option (List ℕ)) where
  -- a refusal has its line behind what the run wrote, or the writer failed; an answer has none
  abbrev pub IsFinished : WatchedWriter W → Result Bool PoolError → WatchedWriter W → Type 0
  IsFinished old (Ok answer) new = new ≡ old
  IsFinished old (Err e) new =
      (Appends (contents (sink old)) (contents (sink new)) (refusal_line e) × (new.failures ≡ old.failures)) ⊎ FailsOnce old.failures new.failures

  -- a run of which this holds, by its answer and the writer behind it, was finished and gave this status
  abbrev pub Ends : (Result Bool PoolError → WatchedWriter W → Type 0) → ℕ → WatchedWriter W → Type 0
  Ends holds status new =
      (r : Result Bool PoolError) × (behind : WatchedWriter W) × holds r behind × (status ≡ status_of r) × IsFinished behind r new

-- a text was not read: the refusal was written, and then the program has this status
module _ {R W : Type 0} (contents : W → Option (List ℕ)) where
  pub record EndsUnread (before after : WatchedReader R) (old new : WatchedWriter W) (s : ℕ) : Type 0 where
    pub refusal : PoolError
    pub reads : (refusal ≡ ReadFailed) ⊎ (refusal ≡ NoMemory)
    pub tells_reader : TellsReader {A = Bool} before (Err refusal) after
    pub status : s ≡ status_of (Err refusal)
    pub finished : IsFinished contents old (Err refusal) new
