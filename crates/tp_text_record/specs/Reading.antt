-- A record's text, read line by line.
use Rattle.std.specs.Prelude.{◌≡◌, ◌⊎◌, ◌<◌, ◌≤◌, ℕ, suc, Bool, true, false, List, [], ◌∷◌, ◌++◌, length, Option, IfSome, Ok, Err}
use Rattle.std.specs.List.{AllByRecursion, flat_map}
use Rattle.tp_types.specs.declared.configs.Config.{Config}
use Rattle.tp_types.specs.declared.refusals.PoolError.{PoolError}
use Rattle.tp_types.specs.declared.refusals.PoolError.TheVariants.{BadEntry, NoMemory, ReadFailed}
use Rattle.tp_types.specs.Config.{checked}
use Rattle.tp_record.specs.declared.entries.Entry.{Entry}
use Rattle.tp_text.specs.Lines.{HasNoLineFeed, IsLines, ended}
use Rattle.tp_text_record.specs.declared.reading.Body.{Body}
use Rattle.tp_text_record.specs.declared.reading.Reading.{Reading}
use Rattle.tp_text_record.specs.declared.reading.Ending.{Ending}
use Rattle.tp_text_record.specs.declared.reading.Ending.TheVariants as ending
use Rattle.tp_text_record.specs.declared.reading.Reading.TheVariants as reading
use Rattle.tp_text_record.specs.declared.reading.Stream.{Stream}
use Rattle.tp_text_record.specs.declared.versions.Version.{Version}
use Rattle.tp_text_record.specs.ReadRecord.{Begins, IsRefusedText}
use Rattle.tp_text_record.specs.RecordText.{FitsConfig, HasText, entry_texts, header, pool_line, record_lines, record_text}

-- the lines of a record up to these entries, or up to its end
abbrev pub lines_to : Version → Config → List Entry → Bool → List (List ℕ)
lines_to v c es false = header v ∷ pool_line c ∷ entry_texts 1 es
lines_to v c es true = record_lines v c es

-- a text that may end so does, where this says whether the record is over at its end
abbrev pub EndsSo : Ending → Bool → Type 0
EndsSo ending.Whole over = over ≡ true
EndsSo ending.Anywhere over = Unit {0}

-- there are more lines than have numbers
abbrev pub AreTooMany : List (List ℕ) → Type 0
AreTooMany lines = 4294967290 < length lines

-- behind the header there stands a pool line that is refused so
abbrev pub RefusesPool : List (List ℕ) → List ℕ → PoolError → Type 0
RefusesPool lines line e = (v : Version) × (c : Config) × (lines ≡ header v ∷ []) × FitsConfig v c × (line ≡ pool_line c) × (checked c ≡ Err e)

-- no record has these lines and then this one
abbrev pub IsWrongBehind : List (List ℕ) → List ℕ → PoolError → Type 0
IsWrongBehind lines line e = (e ≡ BadEntry (suc (length lines))) × (Begins (lines ++ line ∷ []) → ⊥)

-- why a line is refused behind these: want of memory, too many lines, its pool, or since it is wrong
abbrev pub RefusesLine : List (List ℕ) → List ℕ → PoolError → Type 0
RefusesLine lines line e =
    (e ≡ NoMemory) ⊎ (((e ≡ ReadFailed) × AreTooMany lines) ⊎ (RefusesPool lines line e ⊎ IsWrongBehind lines line e))

-- lines with which a record begins, and no pool line among them is refused
pub record AreFine (lines : List (List ℕ)) : Type 0 where
  pub begins : Begins lines
  pub accepted : (v : Version) (c : Config) (more : List (List ℕ)) → FitsConfig v c → lines ≡ header v ∷ pool_line c ∷ more → checked c ≡ Ok tt

-- behind these lines a text is read up to one that is refused so, with which this rest begins
pub record StopsAt (lines : List (List ℕ)) (text rest : List ℕ) (e : PoolError) : Type 0 where
  pub more : List (List ℕ)
  pub line : List ℕ
  pub behind : List ℕ
  pub parts : text ≡ flat_map ended more ++ rest
  pub each : AllByRecursion HasNoLineFeed more
  pub goes : rest ≡ line ++ 10 ∷ behind
  pub single : HasNoLineFeed line
  pub fine : AreFine (lines ++ more)
  pub refused : RefusesLine (lines ++ more) line e

-- bytes are refused so, whatever comes later: there are too many of them, or no record's text begins with them
abbrev pub IsRefusedBy : List ℕ → List ℕ → PoolError → Type 0
IsRefusedBy bytes later e = ((e ≡ ReadFailed) × (1048576 < length bytes)) ⊎ IsRefusedText (bytes ++ later) e

-- a reader with these bytes, where they are known, gave a text of which this holds
abbrev pub OfReader : Option (List ℕ) → (List ℕ → Type 0) → Type 0
OfReader input holds = (text : List ℕ) × IfSome input (λ xs. text ≡ xs) × holds text

-- what takes the entries is of this pool, and took these
module _ {T : Type 0} (about : T → Version → Config → Type 0) (took : T → List Entry → Type 0) where
  -- these lines were read, and the entries among them were taken
  pub record HasRead (b : Body T) (lines : List (List ℕ)) : Type 0 where
    pub config : Config
    pub entries : List Entry
    pub about_pool : about b.taker b.version config
    pub taken : took b.taker entries
    pub counted : b.entries ≡ length entries
    pub has_text : HasText b.version config entries
    pub accepted : checked config ≡ Ok tt
    pub lines_read : lines ≡ lines_to b.version config entries b.is_over

  -- these lines were read
  abbrev pub IsRead : Reading T → List (List ℕ) → Type 0
  IsRead reading.Start lines = lines ≡ []
  IsRead (reading.Formed v) lines = lines ≡ header v ∷ []
  IsRead (reading.Opened b) lines = HasRead b lines

  -- a text is that of a record, or goes on as one and is cut off in some line, and all its entries were taken
  pub record IsTaken (b : Body T) (text : List ℕ) : Type 0 where
    pub config : Config
    pub entries : List Entry
    pub left : List ℕ
    pub about_pool : about b.taker b.version config
    pub taken : took b.taker entries
    pub counted : b.entries ≡ length entries
    pub has_text : HasText b.version config entries
    pub accepted : checked config ≡ Ok tt
    pub is_text : text ≡ flat_map ended (lines_to b.version config entries b.is_over) ++ left
    pub is_part : HasNoLineFeed left
    pub none_left : b.is_over ≡ true → left ≡ []

  -- these bytes were read, the last of which are no whole line yet
  pub record HasStreamed (s : Stream T) (bytes : List ℕ) : Type 0 where
    pub lines : List (List ℕ)
    pub read : IsRead s.reading lines
    pub parts : IsLines bytes lines s.left.items
    pub short : length s.left.items ≤ 256
