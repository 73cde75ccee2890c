-- What is told of a closed pool, and of its passes.
use Rattle.std.specs.Prelude.{ℕ, Bool, true, ◌≡◌, ◌+◌, List, length, reverse, count_by, is_none}
use Rattle.tp_types.specs.declared.configs.Config.{Config}
use Rattle.tp_types.specs.declared.states.Counts.{Counts}
use Rattle.tp_record.specs.declared.entries.Entry.{Entry}
use Rattle.tp_record.specs.Paths.{own}
use Rattle.tp_record.specs.State.{State, state, counts, fate_of}
use Rattle.tp_book.specs.declared.reports.Report.{Report}
use Rattle.tp_book.specs.declared.reports.TallyReport.{TallyReport}

-- how many tasks have a fate by these counters
abbrev pub fates_of : Counts → ℕ
fates_of c = c.run + c.caller + (c.rejected + c.discarded + c.handedback) + c.removed + c.cancelled

-- how many tasks have no fate
abbrev pub unended_of : State → ℕ
unended_of s = count_by (λ r. is_none (fate_of r)) s.tasks

-- where receipts are kept, these are the entries of this history that the pass of this number asked for
abbrev pub IsOwn : Bool → List Entry → ℕ → List Entry → Type 0
IsOwn keeps h by receipts = keeps ≡ true → own by (reverse h) ≡ receipts

-- a report of the history of a pool with these settings: the record itself, and its counters
pub record TellsRecord (c : Config) (h : List Entry) (r : Report) : Type 0 where
  pub entries : r.entries.items ≡ reverse h
  pub counts : r.counts ≡ counts (state c h)

-- a report without the record: how many entries it has, its counters, and how many tasks have no fate in it: all that were submitted, less those that
-- have one
pub record TellsCount (c : Config) (h : List Entry) (r : TallyReport) : Type 0 where
  pub steps : r.steps ≡ length h
  pub counts : r.counts ≡ counts (state c h)
  pub fateless : r.unended ≡ unended_of (state c h)
  pub unended : r.unended + fates_of r.counts ≡ r.counts.submitted
