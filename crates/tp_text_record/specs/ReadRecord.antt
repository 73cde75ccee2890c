-- What it means to read a text as that of a record.
use Rattle.std.specs.Prelude.{◌≡◌, ◌≢◌, ◌⊎◌, ℕ, suc, List, [], ◌∷◌, ◌++◌, length, Result, Ok, Err}
use Rattle.std.specs.List.{AllByRecursion, flat_map}
use Rattle.tp_types.specs.declared.configs.Config.{Config}
use Rattle.tp_types.specs.declared.refusals.PoolError.{PoolError}
use Rattle.tp_types.specs.declared.refusals.PoolError.TheVariants.{BadEntry, NoMemory}
use Rattle.tp_types.specs.Config.{checked}
use Rattle.tp_record.specs.declared.entries.Entry.{Entry}
use Rattle.tp_text.specs.Lines.{HasNoLineFeed, ended}
use Rattle.tp_text.specs.RunText.{IsFront}
use Rattle.tp_text_record.specs.declared.records.BodyLine.{BodyLine}
use Rattle.tp_text_record.specs.declared.records.BodyLine.TheVariants as body
use Rattle.tp_text_record.specs.declared.records.Record.{Record}
use Rattle.tp_text_record.specs.declared.versions.Version.{Version}
use Rattle.tp_text_record.specs.EntryFits.{IsStep}
use Rattle.tp_text_record.specs.RecordText.{FitsConfig, HasText, end_line, entry_text, header, pool_line, record_lines, record_text}

-- the line that stands behind so many entries and says this
abbrev pub body_text : ℕ → BodyLine → List ℕ
body_text n (body.Entry e) = entry_text (suc n) e
body_text n body.End = end_line n

abbrev pub FitsBody : Version → BodyLine → Type 0
FitsBody v (body.Entry e) = IsStep v e
FitsBody v body.End = Unit {0}

-- lines with which the text of a record begins, in one of the forms
pub record Begins (lines : List (List ℕ)) : Type 0 where
  pub version : Version
  pub config : Config
  pub entries : List Entry
  pub has_text : HasText version config entries
  pub more : List (List ℕ)
  pub whole : record_lines version config entries ≡ lines ++ more

-- the lines that say the form, and what pool a record is of
abbrev pub head : Version → Config → List ℕ
head v c = ended (header v) ++ ended (pool_line c)

-- line k of a text is the first that is wrong in the text of a record: such a text begins with the lines before it, and
-- none with line k too; and where there is no line k that is ended, the text is that of no record. No pool line before it
-- is refused.
pub record IsFirstWrong (text : List ℕ) (k : ℕ) : Type 0 where
  pub before : List (List ℕ)
  pub behind : List ℕ
  pub each : AllByRecursion HasNoLineFeed before
  pub parts : text ≡ flat_map ended before ++ behind
  pub number : k ≡ suc (length before)
  pub begins : Begins before
  pub wrong : (line rest : List ℕ) → HasNoLineFeed line → behind ≡ line ++ 10 ∷ rest → Begins (before ++ line ∷ []) → ⊥
  pub no_text : (v : Version) (c : Config) (es : List Entry) → HasText v c es → text ≢ record_text v c es
  pub accepted : (v : Version) (c : Config) → FitsConfig v c → IsFront (head v c) text → checked c ≡ Ok tt

-- all is good up to a pool line that is refused so
pub record HasRefusedPool (text : List ℕ) (e : PoolError) : Type 0 where
  pub version : Version
  pub config : Config
  pub fits : FitsConfig version config
  pub begins : IsFront (head version config) text
  pub refused : checked config ≡ Err e

-- a text has a first wrong line, and this is its refusal
abbrev pub IsWrongAt : List ℕ → PoolError → Type 0
IsWrongAt text e = (k : ℕ) × (e ≡ BadEntry k) × IsFirstWrong text k

-- a text is refused so: there was no memory, or its pool line is refused, or a line is the first wrong one
abbrev pub IsRefusedText : List ℕ → PoolError → Type 0
IsRefusedText text e = (e ≡ NoMemory) ⊎ (HasRefusedPool text e ⊎ IsWrongAt text e)

-- a text is read as a record just where it is that record's text in the form that it says, and else it is refused
abbrev pub ReadsRecord : List ℕ → Result Record PoolError → Type 0
ReadsRecord text (Ok r) =
    HasText r.version r.config r.entries.items × (checked r.config ≡ Ok tt) × (text ≡ record_text r.version r.config r.entries.items)
ReadsRecord text (Err e) = IsRefusedText text e
