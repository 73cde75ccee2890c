-- What the command audit does with a record.
use Rattle.std.specs.Prelude.{◌≡◌, ◌⊎◌, ◌<◌, ℕ, Bool, false, List, length, Option, Result, Err, IfSome}
use Rattle.tp_types.specs.declared.refusals.PoolError.{PoolError}
use Rattle.tp_types.specs.declared.refusals.PoolError.TheVariants.{NoMemory, ReadFailed}
use Rattle.tp_text.specs.declared.watched.WatchedReader.{WatchedReader}
use Rattle.tp_text.specs.declared.watched.WatchedWriter.{WatchedWriter}
use Rattle.tp_text.specs.Watching.{TellsReader, TellsWriter, sink, source}
use Rattle.tp_text_record.specs.AuditText.{IsAudit}

-- the audit of the record that a reader gives. Where it may not have any length, a text that is too long is not read whole
module _ {R W : Type 0} (remaining : R → Option (List ℕ)) (contents : W → Option (List ℕ)) where
  pub record Audits (has_any_length : Bool) (before after : WatchedReader R) (old : WatchedWriter W) (r : Result Bool PoolError) (new : WatchedWriter W) : Type 0 where
    pub audit : IsAudit (remaining (source before)) (contents (sink old)) (contents (sink new)) r
    pub long : has_any_length ≡ false → IfSome (remaining (source before)) (λ text. 1048576 < length text → (r ≡ Err ReadFailed) ⊎ (r ≡ Err NoMemory))
    pub tells_reader : TellsReader before r after
    pub tells_writer : TellsWriter old r new
