-- A record that is followed up to an entry.
use Rattle.std.specs.Prelude.{ℕ, ◌≡◌, Bool, true, false, nat_le, List, [], ◌∷◌, Option, Some, None, length, nat_lt, if◌then◌else◌}
use Rattle.tp_record.specs.declared.entries.Entry.{Entry}
use Rattle.tp_types.specs.declared.configs.Config.{Config}
use Rattle.tp_audit.specs.Audited.{Judge, Judged, settings}
use Rattle.tp_story.specs.declared.times.Times.{Times}
use Rattle.tp_story.specs.Since.{Timed}

-- the history of the first n entries of a record, where it has so many, and else of all; of all where no number is given
abbrev pub first_of : Option ℕ → List Entry → List Entry
first_of None h = h
first_of (Some n) [] = []
first_of (Some n) (e ∷ h) = if nat_lt (length h) n then e ∷ h else first_of (Some n) h

-- so many entries reach the number
abbrev pub is_full : Option ℕ → ℕ → Bool
is_full None count = false
is_full (Some n) count = nat_le n count

-- so many entries have that of the number, where one is given
abbrev pub has_entry : Option ℕ → ℕ → Bool
has_entry None count = true
has_entry (Some n) count = nat_le n count

-- what a contract sees of a record that is followed up to an entry
pub record Followed : Type 0 where
  pub config : Config
  pub judge : Judge
  pub times : Times
  pub until : Option ℕ

-- it was told this history, and knows what its first entries say, up to that number, and since when all is as they say
pub record Follows (f : Followed) (h : List Entry) : Type 0 where
  pub config : f.config ≡ settings f.judge
  pub judged : Judged f.judge (first_of f.until h)
  pub timed : Timed (first_of f.until h) f.times
