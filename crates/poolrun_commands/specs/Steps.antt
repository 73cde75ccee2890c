-- What the command steps does with a scenario.
use Rattle.std.specs.Prelude.{◌≡◌, ◌⊎◌, ◌<◌, ◌==◌, ℕ, Bool, true, false, List, length, Option, None, Result, Ok, Err, IfOk, IfSome}
use Rattle.std.specs.Io.KnownBytes.{Appends, Keeps}
use Rattle.tp_types.specs.declared.configs.Config.{Config}
use Rattle.tp_types.specs.declared.refusals.PoolError.{PoolError}
use Rattle.tp_types.specs.declared.refusals.PoolError.TheVariants.{NoMemory, ReadFailed, WriteFailed}
use Rattle.tp_text.specs.declared.watched.WatchedReader.{WatchedReader}
use Rattle.tp_text.specs.declared.watched.WatchedWriter.{WatchedWriter}
use Rattle.tp_text.specs.Watching.{TellsReader, TellsWriter, sink, source}
use Rattle.tp_text_record.specs.declared.versions.Version.TheVariants as version
use Rattle.tp_text_record.specs.RecordText.{record_text}
use Rattle.tp_scenario.specs.Played.{Ending, IsRun}
use Rattle.tp_scenario.specs.Plays.{Answered, IsPlayOf, RefusesPlay, entries_in, refusals_in}
use Rattle.poolrun_choices.specs.declared.choices.Playing.{Playing}

-- the text has no bad line, and the text of its play's record was written
abbrev pub PrintsRecord : List ℕ → Option (List ℕ) → Option (List ℕ) → Type 0
PrintsRecord text old new =
    (c : Config) × (xs : List Answered) × IsPlayOf text c None xs × Appends old new (record_text version.Two c (entries_in xs))

-- a reader with these bytes, where they are known, gave a text of which this holds
abbrev pub OfText : Option (List ℕ) → (List ℕ → Type 0) → Type 0
OfText input holds = (text : List ℕ) × IfSome input (λ xs. text ≡ xs) × holds text

-- a scenario from a reader with these bytes, where they are known, whose record is to be printed: a refusal has written
-- nothing, but where the writer failed
abbrev pub IsRecordRun : Option (List ℕ) → Option (List ℕ) → Option (List ℕ) → Result Bool PoolError → Type 0
IsRecordRun input old new (Ok passed) = OfText input (λ text. PrintsRecord text old new)
IsRecordRun input old new (Err ReadFailed) = Keeps old new
IsRecordRun input old new (Err WriteFailed) = Unit {0}
IsRecordRun input old new (Err e) = OfText input (λ text. RefusesPlay text e) × Keeps old new

-- whether a run that went to its end is let pass: each is, or where that is asked for each without a refused step
abbrev pub IsPassed : Bool → List ℕ → Bool → Type 0
IsPassed false text passed = passed ≡ true
IsPassed true text passed = (c : Config) × (xs : List Answered) × IsPlayOf text c None xs × (passed ≡ (refusals_in xs == 0))

-- how a run ended, which is let pass or not
abbrev pub ending : Result Bool PoolError → Ending
ending (Ok passed) = Ok tt
ending (Err e) = Err e

-- the run of a scenario from a reader with these bytes, where they are known
module _ {W : Type 0} (contents : W → Option (List ℕ)) where
  pub record Plays (playing : Playing) (input : Option (List ℕ)) (old : WatchedWriter W) (r : Result Bool PoolError) (new : WatchedWriter W) : Type 0 where
    pub output : playing.prints_record ≡ false → IsRun input (contents (sink old)) (contents (sink new)) (ending r)
    pub printed : playing.prints_record ≡ true → IsRecordRun input (contents (sink old)) (contents (sink new)) r
    pub passed : IfOk r (λ b. OfText input (λ text. IsPassed playing.is_strict text b))
    pub tells_writer : TellsWriter old r new

-- the run of a scenario that a reader gives. A text that is too long is not read whole, and a text that was not read has
-- written nothing
module _ {R W : Type 0} (remaining : R → Option (List ℕ)) (contents : W → Option (List ℕ)) where
  pub record RunsSteps (playing : Playing) (before after : WatchedReader R) (old : WatchedWriter W) (r : Result Bool PoolError) (new : WatchedWriter W) : Type 0 where
    pub plays : Plays contents playing (remaining (source before)) old r new
    pub long : IfSome (remaining (source before)) (λ text. 1048576 < length text → (r ≡ Err ReadFailed) ⊎ (r ≡ Err NoMemory))
    pub unread : r ≡ Err ReadFailed → new ≡ old
    pub tells_reader : TellsReader before r after
