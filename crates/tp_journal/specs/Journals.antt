-- What a journal has written.
use Rattle.std.specs.Prelude.{◌≡◌, ℕ, List, Option, None, false, length, reverse}
use Rattle.std.specs.List.{flat_map}
use Rattle.std.specs.Io.KnownBytes.{Appends}
use Rattle.tp_types.specs.declared.configs.Config.{Config}
use Rattle.tp_record.specs.declared.entries.Entry.{Entry}
use Rattle.tp_glance.specs.Word.{IsFrontOf}
use Rattle.tp_text.specs.Lines.{ended}
use Rattle.tp_text_record.specs.declared.versions.Version.TheVariants as version
use Rattle.tp_text_record.specs.Reading.{lines_to}
use Rattle.tp_journal.specs.declared.writers.RecordWriter.{RecordWriter}

-- the text of the first entries of a record: its head, and a line for each of them
abbrev pub text_to : Config → List Entry → List ℕ
text_to c es = flat_map ended (lines_to version.Two c es false)

module _ {W : Type 0} (contents : W → Option (List ℕ)) (before : Option (List ℕ)) (c : Config) where
  -- behind what its writer held before, the text of these entries was written, the oldest first
  pub record HasWritten (es : List Entry) (w : RecordWriter W) : Type 0 where
    pub counted : w.entries ≡ length es
    pub long : w.bytes ≡ length (text_to c es)
    pub written : Appends before (contents w.writer) (text_to c es)

  -- the text of a front of this history was written
  pub record HasFront (known : List Entry) (w : RecordWriter W) : Type 0 where
    pub entries : List Entry
    pub front : IsFrontOf (reverse entries) known
    pub has_written : HasWritten entries w

  -- it was, unless the writer failed
  abbrev pub IsJournalOf : List Entry → RecordWriter W → Type 0
  IsJournalOf known w = w.failure ≡ None → HasFront known w
