-- What comes of a question about a record that a reader gives.
use Rattle.std.specs.Prelude.{ℕ, ◌≡◌, ◌⊎◌, ◌++◌, Bool, true, List, [], Option, IfSome, Result, Ok, Err}
use Rattle.std.specs.Io.KnownBytes.{Appends, Keeps}
use Rattle.std.specs.List.{flat_map}
use Rattle.tp_types.specs.declared.configs.Config.{Config}
use Rattle.tp_types.specs.declared.refusals.PoolError.{PoolError}
use Rattle.tp_types.specs.declared.refusals.PoolError.TheVariants.{ReadFailed, WriteFailed}
use Rattle.tp_types.specs.Config.{checked}
use Rattle.tp_record.specs.declared.entries.Entry.{Entry}
use Rattle.tp_text.specs.Lines.{HasNoLineFeed, ended}
use Rattle.tp_text.specs.Watching.{FailsOnce, sink}
use Rattle.tp_text.specs.declared.watched.WatchedWriter.{WatchedWriter}
use Rattle.tp_text_record.specs.declared.versions.Version.{Version}
use Rattle.tp_text_record.specs.ReadRecord.{IsRefusedText}
use Rattle.tp_text_record.specs.Reading.{OfReader, lines_to}
use Rattle.tp_text_record.specs.RecordText.{HasText}
use Rattle.tp_story_words.specs.declared.forms.Form.{Form}
use Rattle.tp_story_questions.specs.declared.accounts.Said.{Said}
use Rattle.tp_story_questions.specs.Asking.{IsAskedOf, IsToldAll, SaysOfAll}

-- a text is that of a record with accepted settings, in one of the forms, or goes on as one and is cut off in some line
pub record IsRecordText (text : List ℕ) (config : Config) (entries : List Entry) : Type 0 where
  pub version : Version
  pub is_over : Bool
  pub left : List ℕ
  pub has_text : HasText version config entries
  pub accepted : checked config ≡ Ok tt
  pub is_text : text ≡ flat_map ended (lines_to version config entries is_over) ++ left
  pub is_part : HasNoLineFeed left
  pub none_left : is_over ≡ true → left ≡ []

module _ {A Q : Type 0} (settings : A → Config) (is_asked : Q → A → Type 0) (tells : A → List Entry → Type 0) (says : A → List Entry → Form → List ℕ → Bool → Type 0) where
  -- this is the answer to a question about the record of a text: an account was asked it, was told all entries of the text up to
  -- the first flaw, if there is one, and says so
  pub record IsAnswer (q : Q) (form : Form) (text out : List ℕ) (holds : Bool) : Type 0 where
    pub config : Config
    pub entries : List Entry
    pub is_record : IsRecordText text config entries
    pub account : A
    pub flaw : Option ℕ
    pub asked : IsAskedOf settings is_asked q account config
    pub told : IsToldAll settings tells account flaw entries
    pub said : SaysOfAll settings says account flaw entries form out holds

  -- what is said of what a reader with these bytes, where they are known, gave; or it was not read, or is refused
  abbrev pub AnswersFrom : Q → Form → Option (List ℕ) → Result Said PoolError → Type 0
  AnswersFrom q form input (Ok s) = OfReader input (λ text. IsAnswer q form text s.text.items s.holds)
  AnswersFrom q form input (Err e) = (e ≡ ReadFailed) ⊎ OfReader input (λ text. IsRefusedText text e)

  -- a question about what a reader with these bytes, where they are known, gave, answered to a writer; a refusal has written
  -- nothing, but where the writer failed
  abbrev pub IsAsked : Q → Form → Option (List ℕ) → Option (List ℕ) → Option (List ℕ) → Result Bool PoolError → Type 0
  IsAsked q form input old new (Ok holds) =
      (text : List ℕ) × (out : List ℕ) × IfSome input (λ xs. text ≡ xs) × IsAnswer q form text out holds × Appends old new out
  IsAsked q form input old new (Err ReadFailed) = Keeps old new
  IsAsked q form input old new (Err WriteFailed) = Unit {0}
  IsAsked q form input old new (Err e) = OfReader input (λ text. IsRefusedText text e) × Keeps old new

module _ {W : Type 0} (contents : W → Option (List ℕ)) where
  -- what is said was written, or the writer failed; a refusal is left as it is
  abbrev pub IsWritten : Result Said PoolError → WatchedWriter W → Result Bool PoolError → WatchedWriter W → Type 0
  IsWritten (Ok s) old r new =
      ((r ≡ Ok s.holds) × Appends (contents (sink old)) (contents (sink new)) s.text.items × (new.failures ≡ old.failures))
      ⊎ ((r ≡ Err WriteFailed) × FailsOnce old.failures new.failures)
  IsWritten (Err e) old r new = (r ≡ Err e) × (new ≡ old)
