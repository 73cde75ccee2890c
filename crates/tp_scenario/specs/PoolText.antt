-- What a text says that begins with a pool line: its pool, what the lines behind it say, and the first bad line, if there is one.
use Rattle.std.specs.Prelude.{◌≡◌, ◌≢◌, ℕ, suc, List, [], ◌∷◌, Option, Some, None, Result, Ok, Err}
use Rattle.tp_text.specs.declared.pools.PoolLine.{PoolLine}
use Rattle.tp_scenario.specs.declared.forms.LineRead.{LineRead}
use Rattle.tp_scenario.specs.declared.forms.LineRead.TheVariants as read
use Rattle.tp_scenario.specs.declared.forms.PoolRead.{PoolRead}
use Rattle.tp_scenario.specs.declared.forms.PoolRead.TheVariants as head
use Rattle.tp_text.specs.Lines.{IsClean, IsLines, IsSkipped}
use Rattle.tp_text.specs.Pools.{FitsPool, pool_text}

-- what a line is, up to the pool line
abbrev pub ReadsPoolLine : List ℕ → PoolRead → Type 0
ReadsPoolLine bytes head.Skipped = IsSkipped bytes
ReadsPoolLine bytes (head.Pool p) = IsClean bytes × FitsPool p × (bytes ≡ pool_text p)
ReadsPoolLine bytes head.Bad = (IsSkipped bytes → ⊥) × (IsClean bytes → (p : PoolLine) → FitsPool p → bytes ≢ pool_text p)

-- what lines say in order, up to the first bad line, and the number of that line, if there is one
abbrev pub LinesSaid : Type 0 → Type 0
LinesSaid L = List L × Option ℕ

-- what a text says: its pool and what its lines say, or the bad line before any pool line
abbrev pub TextSaid : Type 0 → Type 0
TextSaid L = Result (PoolLine × LinesSaid L) ℕ

module _ {L : Type 0} where
  -- how a line, line k, goes before what the lines behind it say
  abbrev pub Before : LineRead L → ℕ → (LinesSaid L → Type 0) → LinesSaid L → Type 0
  Before read.Skipped k on said = on said
  Before (read.Says l) k on ([], bad) = ⊥
  Before (read.Says l) k on (s ∷ lines, bad) = (s ≡ l) × on (lines, bad)
  Before read.Bad k on said = said ≡ ([], Some k)

  abbrev pub BeforePool : PoolRead → ℕ → (TextSaid L → Type 0) → (LinesSaid L → Type 0) → TextSaid L → Type 0
  BeforePool head.Skipped k on lines s = on s
  BeforePool (head.Pool p) k on lines (Ok q) = (q.0 ≡ p) × lines q.1
  BeforePool (head.Pool p) k on lines (Err n) = ⊥
  BeforePool head.Bad k on lines s = s ≡ Err k

-- lines of a form, each of which has one text and holds numbers in the range of their types
module _ {L : Type 0} (text_of : L → List ℕ) (fits : L → Type 0) where
  -- what a line is, behind the pool line
  abbrev pub ReadsLine : List ℕ → LineRead L → Type 0
  ReadsLine bytes read.Skipped = IsSkipped bytes
  ReadsLine bytes (read.Says l) = IsClean bytes × fits l × (bytes ≡ text_of l)
  ReadsLine bytes read.Bad = (IsSkipped bytes → ⊥) × (IsClean bytes → (l : L) → fits l → bytes ≢ text_of l)

  -- lines, the first of which is line k, and a rest without its end say this
  abbrev pub LinesSay : ℕ → List (List ℕ) → List ℕ → LinesSaid L → Type 0
  LinesSay k [] [] said = said ≡ ([], None)
  LinesSay k [] (b ∷ bs) said = said ≡ ([], Some k)
  LinesSay k (l ∷ lines) rest said = (r : LineRead L) × ReadsLine l r × Before r k (LinesSay (suc k) lines rest) said

  -- lines, the first of which is line k, and a rest without its end say this: a missing pool line is bad at the line
  -- after the last
  abbrev pub TextSays : ℕ → List (List ℕ) → List ℕ → TextSaid L → Type 0
  TextSays k [] rest s = s ≡ Err k
  TextSays k (l ∷ lines) rest s = (r : PoolRead) × ReadsPoolLine l r × BeforePool r k (TextSays (suc k) lines rest) (LinesSay (suc k) lines rest) s

  -- a text, the first line of which is line k, says this behind a pool line
  abbrev pub LinesSayFrom : ℕ → List ℕ → LinesSaid L → Type 0
  LinesSayFrom k text said = (lines : List (List ℕ)) × (rest : List ℕ) × IsLines text lines rest × LinesSay k lines rest said

  -- it says this, from its pool line on
  abbrev pub TextSaysFrom : ℕ → List ℕ → TextSaid L → Type 0
  TextSaysFrom k text s = (lines : List (List ℕ)) × (rest : List ℕ) × IsLines text lines rest × TextSays k lines rest s

  -- a text says this; lines count from 1
  abbrev pub IsPoolText : List ℕ → TextSaid L → Type 0
  IsPoolText text s = TextSaysFrom 1 text s
