-- What an audit of a record answers. A record lists its entries oldest first, a history latest first.
use Rattle.std.specs.Prelude.{◌≡◌, ℕ, suc, List, ◌∷◌, ◌++◌, length, map, reverse}
use Rattle.tp_types.specs.declared.configs.Config.{Config}
use Rattle.tp_types.specs.RunState.{state_rank}
use Rattle.tp_record.specs.declared.entries.Entry.{Entry}
use Rattle.tp_record.specs.Fields.{rank, task_rows}
use Rattle.tp_record.specs.State.{state, counts, fate_of}
use Rattle.tp_record.specs.Step.{Gives, Legal}
use Rattle.tp_audit_plain.specs.declared.summary.Summary.{Summary}
use Rattle.tp_audit_plain.specs.declared.summary.Flaw.{Flaw}
use Rattle.tp_audit_plain.specs.declared.summary.Flaw.TheVariants.{At, NoMemory}

-- what a record says at its end: its counters, its run state, and each task's fate by its number
pub record IsSummary (c : Config) (h : List Entry) (s : Summary) : Type 0 where
  pub counts : s.counts ≡ counts (state c h)
  pub rank : state_rank s.state ≡ rank h
  pub fates : s.fates.items ≡ map fate_of (task_rows h)

-- entry n, counted from 1, is the first that the step does not give: the entries before it are a legal record, and the
-- step does not answer its ask so after them
pub record IsFirstFlaw (c : Config) (es : List Entry) (n : ℕ) : Type 0 where
  pub before : List Entry
  pub entry : Entry
  pub later : List Entry
  pub parts : es ≡ before ++ entry ∷ later
  pub number : n ≡ suc (length before)
  pub legal : Legal c (reverse before)
  pub not_given : Gives c (state c (reverse before)) entry.ask entry.did → ⊥

-- why a record has no summary: its first flaw, or there was no memory to judge it
abbrev pub IsFlawOf : Config → List Entry → Flaw → Type 0
IsFlawOf c es (At n) = IsFirstFlaw c es n
IsFlawOf c es NoMemory = Unit {0}

-- a record is legal or has one first flaw, and not both
pub record OneJudgment : Type 0 where
  pub not_both : (c : Config) (es : List Entry) (n : ℕ) → IsFirstFlaw c es n → Legal c (reverse es) → ⊥
  pub one_flaw : (c : Config) (es : List Entry) (n m : ℕ) → IsFirstFlaw c es n → IsFirstFlaw c es m → n ≡ m
