-- What an audit of a record text writes and answers.
use Rattle.std.specs.Prelude.{◌≡◌, ◌⊎◌, ℕ, Bool, true, false, List, [], ◌∷◌, ◌++◌, length, reverse, Option, Result, Ok, Err, IfSome, codes}
use Rattle.std.specs.Fmt.{decimal}
use Rattle.std.specs.Io.KnownBytes.{Appends, Keeps}
use Rattle.tp_types.specs.declared.configs.Config.{Config}
use Rattle.tp_types.specs.declared.refusals.PoolError.{PoolError}
use Rattle.tp_types.specs.declared.refusals.PoolError.TheVariants.{ReadFailed, WriteFailed}
use Rattle.tp_types.specs.Config.{checked}
use Rattle.tp_record.specs.declared.entries.Entry.{Entry}
use Rattle.tp_record.specs.Fields.{rank}
use Rattle.tp_record.specs.State.{state, counts}
use Rattle.tp_record.specs.Step.{Legal}
use Rattle.tp_audit_plain.specs.Audit.{IsFirstFlaw}
use Rattle.tp_text.specs.EntryLine.{line}
use Rattle.tp_text.specs.EndLines.{counts_line, state_at, state_line}
use Rattle.tp_text_record.specs.declared.versions.Version.{Version}
use Rattle.tp_text_record.specs.ReadRecord.{IsRefusedText}
use Rattle.tp_text_record.specs.Reading.{OfReader}
use Rattle.tp_text_record.specs.RecordText.{HasText, record_text}
use Rattle.tp_text_record.specs.declared.judgments.Judgment.{Judgment}

abbrev pub legal_line : ℕ → List ℕ
legal_line n = line (codes "legal" ∷ decimal n ∷ [])

abbrev pub flaw_line : ℕ → List ℕ
flaw_line n = line (codes "flaw" ∷ decimal n ∷ [])

-- what is written of a legal record: how many entries it has, its run state and its counters
abbrev pub legal_lines : Config → List Entry → List ℕ
legal_lines c es = legal_line (length es) ++ (state_line (state_at (rank (reverse es))) ++ counts_line (counts (state c (reverse es))))

-- a record, oldest entry first, is judged so, and this is written of it
abbrev pub IsJudged : Config → List Entry → Bool → List ℕ → Type 0
IsJudged c es true out = Legal c (reverse es) × (out ≡ legal_lines c es)
IsJudged c es false out = (n : ℕ) × IsFirstFlaw c es n × (out ≡ flaw_line n)

-- a text is that of a record with an accepted configuration, in one of the forms, which is judged so
pub record IsJudgedText (text : List ℕ) (legal : Bool) (out : List ℕ) : Type 0 where
  pub version : Version
  pub config : Config
  pub entries : List Entry
  pub has_text : HasText version config entries
  pub accepted : checked config ≡ Ok tt
  pub is_text : text ≡ record_text version config entries
  pub judged : IsJudged config entries legal out

abbrev pub JudgesText : List ℕ → Result Judgment PoolError → Type 0
JudgesText text (Ok j) = IsJudgedText text j.legal j.lines.items
JudgesText text (Err e) = IsRefusedText text e

-- a reader with these bytes, where they are known, gave a text that is judged so, or refused so; or it was not read
abbrev pub JudgesFrom : Option (List ℕ) → Result Judgment PoolError → Type 0
JudgesFrom input (Ok j) = OfReader input (λ text. IsJudgedText text j.legal j.lines.items)
JudgesFrom input (Err e) = (e ≡ ReadFailed) ⊎ OfReader input (λ text. IsRefusedText text e)

-- an audit from a reader with these bytes, where they are known, to a writer: what it wrote is the judgment of a text,
-- which is that of the reader; a refusal has written nothing, but where the writer failed
abbrev pub IsAudit : Option (List ℕ) → Option (List ℕ) → Option (List ℕ) → Result Bool PoolError → Type 0
IsAudit input old new (Ok legal) =
    (text : List ℕ) × (out : List ℕ) × IfSome input (λ xs. text ≡ xs) × IsJudgedText text legal out × Appends old new out
IsAudit input old new (Err ReadFailed) = Keeps old new
IsAudit input old new (Err WriteFailed) = Unit {0}
IsAudit input old new (Err e) = OfReader input (λ text. IsRefusedText text e) × Keeps old new
