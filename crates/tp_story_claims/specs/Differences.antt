-- Where two records part.
use Rattle.std.specs.Prelude.{ℕ, suc, ◌≡◌, ◌++◌, ◌∷◌, List, [], Option, Some, None, codes, map, reverse}
use Rattle.std.specs.Fmt.{decimal}
use Rattle.tp_record.specs.declared.entries.Entry.{Entry}
use Rattle.tp_record.specs.declared.entries.Did.{Did}
use Rattle.tp_audit_plain.specs.Audit.{IsFirstFlaw}
use Rattle.tp_audit.specs.Audited.{settings}
use Rattle.tp_story.specs.Fronts.{Followed, Follows}
use Rattle.tp_text.specs.EntryLine.{entry_line}
use Rattle.tp_story_words.specs.Fronts.{front_head}
use Rattle.tp_story_words.specs.declared.forms.Form.{Form}
use Rattle.tp_story_words.specs.declared.forms.Form.TheVariants as form
use Rattle.tp_story_claims.specs.Listed.{listed}
use Rattle.tp_story_claims.specs.declared.differences.Meeting.{Meeting}
use Rattle.tp_story_claims.specs.declared.differences.Meeting.TheVariants as meeting

-- what an entry's line shows of it: the pass, and what was done
abbrev pub shown : Entry → ℕ × Did
shown e = (e.by, e.did)

-- both records have an entry next, of which the first is this one, and both stand in the same line
pub record AreNext (a b : Option Entry) (e : Entry) : Type 0 where
  pub other : Entry
  pub first : a ≡ Some e
  pub second : b ≡ Some other
  pub alike : shown e ≡ shown other

-- the records do not go on in the same line: both end, or these come next, which are not in the same line
abbrev pub IsEnd : Option Entry → Option Entry → Meeting → Type 0
IsEnd a b meeting.Same = (a ≡ None) × (b ≡ None)
IsEnd a b (meeting.Parted x y) = (x ≡ a) × (y ≡ b) × (map shown (listed x) ≡ map shown (listed y) → ⊥)
IsEnd a b (meeting.Flawed n e) = ⊥

module _ {A B : Type 0} (gave_first : A → List Entry → Type 0) (gave_second : B → List Entry → Type 0) where
  -- two sources gave entries that stand in the same lines, of which the first's were followed, and then these
  pub record Gave (a : A) (b : B) (f : Followed) (xs ys : List Entry) : Type 0 where
    pub es : List Entry
    pub fs : List Entry
    pub first : gave_first a (es ++ xs)
    pub second : gave_second b (fs ++ ys)
    pub alike : map shown es ≡ map shown fs
    pub follows : Follows f (reverse es)

  -- they gave none but those, and all that comes is followed
  abbrev pub GoTogether : A → B → Followed → Type 0
  GoTogether a b f = (f.until ≡ None) × Gave a b f [] []

  -- the next entry stands in both, and is the first flaw
  pub record MeetFlaw (a : A) (b : B) (f : Followed) (n : ℕ) (e : Entry) : Type 0 where
    pub other : Entry
    pub gave : Gave a b f (e ∷ []) (other ∷ [])
    pub alike : shown e ≡ shown other
    pub flaw : IsFirstFlaw (settings f.judge) (gave.es ++ e ∷ []) n

  -- how two records go on behind the entries that they share: both end there, or these entries come next, which are not in the same
  -- line, or the next entry stands in both, and is the first flaw of them
  abbrev pub Meet : A → B → Followed → Meeting → Type 0
  Meet a b f meeting.Same = Gave a b f [] []
  Meet a b f (meeting.Parted x y) = Gave a b f (listed x) (listed y) × (map shown (listed x) ≡ map shown (listed y) → ⊥)
  Meet a b f (meeting.Flawed n e) = MeetFlaw a b f n e

-- the number of the entry behind those that were followed
abbrev pub next_number : Followed → ℕ
next_number f = suc f.judge.tables.steps

-- at which entry the records part
abbrev pub parting_head : Form → ℕ → List ℕ
parting_head form.Words n = codes "the records part at entry " ++ (decimal n ++ codes "\n")
parting_head form.Json n = codes "{\"part\":" ++ (decimal n ++ codes ",")

-- the line of an entry, or that there is none
abbrev pub line_of : ℕ → Option Entry → List ℕ
line_of n None = codes "the record ends\n"
line_of n (Some e) = entry_line n e

-- the lines of both, each behind its mark
abbrev pub both_lines : ℕ → Option Entry → Option Entry → List ℕ
both_lines n a b = codes "< " ++ (line_of n a ++ (codes "> " ++ line_of n b))

abbrev pub AreLines : Form → ℕ → Option Entry → Option Entry → List ℕ → Type 0
AreLines form.Words n a b text = text ≡ both_lines n a b
AreLines form.Json n a b text = Unit {0}

-- the text of where two records part: the entry's number, both lines, and first of the pool before it after which entry that is, in
-- which state, and at which moment
pub record IsParting (f : Form) (front : Followed) (a b : Option Entry) (text : List ℕ) : Type 0 where
  pub lines : List ℕ
  pub more : List ℕ
  pub are_lines : AreLines f (next_number front) a b lines
  pub is_text : text ≡ parting_head f (next_number front) ++ (lines ++ (front_head f front.judge.tables ++ more))
