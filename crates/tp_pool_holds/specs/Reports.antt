-- What a close answers.
use Rattle.std.specs.Prelude.{Bool, true, false, ◌≡◌, ◌+◌, List, All, length, sum_by}
use Rattle.tp_types.specs.Config.{IsConfig}
use Rattle.tp_types.specs.declared.configs.Config.{Config}
use Rattle.tp_record.specs.State.{state}
use Rattle.tp_record.specs.Step.{Legal}
use Rattle.tp_record.specs.Terms.{without_end}
use Rattle.tp_record.specs.declared.entries.Entry.{Entry}
use Rattle.tp_laws.specs.Lawful.{IsLawful}
use Rattle.tp_glance.specs.Word.{IsFrontOf}
use Rattle.tp_book.specs.PassView.{GatheredView, PassView}
use Rattle.tp_book.specs.Reports.{IsOwn, TellsCount, TellsRecord}
use Rattle.tp_book.specs.declared.reports.Report.{Report}
use Rattle.tp_book.specs.declared.reports.TallyReport.{TallyReport}

-- the report of a pool that was made with these settings, whose steps are judged by these terms, and of whose callers these are the passes: it is told of
-- a legal record, of which all laws hold and which ends the pool; each step is accounted for
pub record Closes {R : Type 0} (told : Config → List Entry → R → Type 0) (keeps : Bool) (settings c : Config) (passes : List PassView) (r : R) : Type 0 where
  pub good : IsConfig settings
  pub history : List Entry
  pub legal : Legal c history
  pub lawful : IsLawful c history
  pub ended : (state c history).rank ≡ 4
  pub tells : told c history r
  -- the passes that workers handed in: with theirs the units of all passes are the record's entries
  pub workers : GatheredView
  pub shares : sum_by (λ p. p.amount) passes + workers.amount ≡ length history
  -- where receipts are kept, those of each pass are its own entries
  pub receipts : All (λ p. IsOwn keeps history p.number p.receipts) passes
  -- what a pass was told stays told: the record goes on from what the pass knows
  pub fronts : All (λ p. IsFrontOf p.front history) passes

-- the report of a pool that kept its record: the record itself, and its counters
abbrev pub Reports : Config → List PassView → Report → Type 0
Reports c passes r = Closes TellsRecord true c c passes r

-- the report of a pool that kept none: there is one, which is legal at a pool's limit without end, of so many entries, with these counters and so many
-- tasks without a fate
abbrev pub Tallies : Config → List PassView → TallyReport → Type 0
Tallies c passes r = Closes TellsCount false c (without_end c) passes r
