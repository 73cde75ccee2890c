-- What a run of a file of jobs leaves: in its caller's pass, in the record of its pool, and where it is written.
use Rattle.std.specs.Prelude.{ℕ, Bool, false, ◌≡◌, ◌⊎◌, List, [], ◌∷◌, ◌++◌, All, map, reverse, Option, unwrap_or, Ok, Err, if◌then◌else◌}
use Rattle.std.specs.Io.KnownBytes.{Appends}
use Rattle.tp_types.specs.Config.{IsConfig, checked}
use Rattle.tp_types.specs.declared.configs.Config.{Config}
use Rattle.tp_types.specs.declared.ids.TaskId.{TaskId}
use Rattle.tp_types.specs.declared.refusals.PoolError.{PoolError}
use Rattle.tp_types.specs.declared.refusals.PoolError.TheVariants.{NoMemory, BookFull, TornRecord}
use Rattle.tp_types.specs.declared.states.Counts.{Counts}
use Rattle.tp_types.specs.declared.states.RunState.TheVariants.{Terminated}
use Rattle.tp_types.specs.declared.tasks.Kind.{Kind}
use Rattle.tp_types.specs.declared.tasks.Kind.TheVariants as kind
use Rattle.tp_record.specs.declared.entries.Ask.TheVariants as ask
use Rattle.tp_record.specs.declared.entries.Did.TheVariants as did
use Rattle.tp_record.specs.declared.entries.Entry.{Entry}
use Rattle.tp_record.specs.Fields.{rank}
use Rattle.tp_record.specs.Paths.{Admission, IsPath, own}
use Rattle.tp_record.specs.State.{state, counts}
use Rattle.tp_record.specs.Step.{Legal}
use Rattle.tp_text.specs.EndLines.{state_line, counts_line}
use Rattle.tp_text_record.specs.declared.versions.Version.TheVariants as version
use Rattle.tp_text_record.specs.RecordText.{record_text}
use Rattle.tp_scenario.specs.Jobs.{IsRead}
use Rattle.tp_scenario.specs.declared.jobs.JobLine.{JobLine}
use Rattle.tp_scenario.specs.declared.jobs.Jobs.{Jobs}
use Rattle.tp_book.specs.PassView.{PassView}
use Rattle.tp_book.specs.Reports.{TellsCount}
use Rattle.tp_book.specs.declared.reports.Report.{Report}
use Rattle.tp_book.specs.declared.reports.TallyReport.{TallyReport}
use Rattle.tp_pool_holds.specs.Passes.{Adds, AddsNone, entry_of, tidied, ended}
use Rattle.tp_pool.specs.Admissions.{AddsFront, AsksFor}
use Rattle.tp_record.specs.Terms.{without_end}
use Rattle.tp_pool_holds.specs.Reports.{Closes}

-- as what a task is submitted: its kind and its priority
abbrev pub Asked : Type 0
Asked = Kind × ℕ

-- a job's task: a future where it is submitted, a plain task where it is executed; its line's priority, or 0
abbrev pub asked_of : JobLine → Asked
asked_of job = (if job.future then kind.Future else kind.Plain, unwrap_or job.priority 0)

abbrev pub asked : List JobLine → List Asked
asked jobs = map asked_of jobs

-- the whole path of the submission of a task as this
abbrev pub IsSubmission : Asked → List Entry → Type 0
IsSubmission k steps = (t : ℕ) × (end : Admission) × IsPath t steps end × AsksFor k.0 k.1 steps

-- submissions of tasks as these, in this order, each followed to its end before the next begins
abbrev pub AreSubmissions : List Asked → List Entry → Type 0
AreSubmissions [] steps = steps ≡ []
AreSubmissions (k ∷ ks) steps = (path rest : List Entry) × (steps ≡ path ++ rest) × IsSubmission k path × AreSubmissions ks rest

-- the pass has their receipts
abbrev pub AddsSubmissions : Config → List Asked → PassView → PassView → Type 0
AddsSubmissions c ks old new = (steps : List Entry) × AreSubmissions ks steps × Adds c old steps new

-- a submission of a task as this is refused: torn off on its path, or before its first step
abbrev pub IsTorn : Bool → Config → Asked → PoolError → PassView → PassView → Type 0
IsTorn keeps c k e old new = (((e ≡ NoMemory) ⊎ (e ≡ BookFull)) × AddsNone old new) ⊎ ((e ≡ TornRecord) × ((t : TaskId) × AddsFront keeps c k.0 k.1 t old new))

-- the first of these submissions are followed to their end, and the one behind them is refused: it is the last
abbrev pub BreaksOff : Bool → Config → List Asked → PoolError → PassView → PassView → Type 0
BreaksOff keeps c ks e old new = (before : List Asked) × (k : Asked) × (behind : List Asked) × (mid : PassView) × (ks ≡ before ++ k ∷ behind) × AddsSubmissions c before old mid × IsTorn keeps c k e mid new

-- a shutdown, and steps of the pool's end
abbrev pub IsEnd : ℕ → List Entry → Type 0
IsEnd by steps = (rest : List Entry) × (steps ≡ entry_of by ask.Shutdown did.Shutdown ∷ rest) × All (λ e. (e ≡ tidied by) ⊎ (e ≡ ended by)) rest

-- the pass has their receipts, and has seen the pool terminated
abbrev pub AddsEnd : Config → PassView → PassView → Type 0
AddsEnd c old new = (steps : List Entry) × IsEnd old.number steps × Adds c old steps new × (rank new.front ≡ 4)

-- the report of a pool with these settings that ran jobs of these kinds and priorities: its record is legal and ends it, and pass 0
-- submitted such tasks in their order, each to the end of its submission, and then shut the pool down. It does not say that each task
-- ends as its line says, since what a worker ran lies under the lock: tests show that
pub record IsRun (c : Config) (ks : List Asked) (r : Report) : Type 0 where
  pub good : IsConfig c
  pub legal : Legal c (reverse r.entries.items)
  pub ended : (state c (reverse r.entries.items)).rank ≡ 4
  pub counts : r.counts ≡ counts (state c (reverse r.entries.items))
  pub submissions : (steps last : List Entry) × AreSubmissions ks steps × IsEnd 0 last × (own 0 r.entries.items ≡ steps ++ last)

-- the report, as its keeper tells it, of a pool with these settings and terms that ran jobs of these kinds and priorities: its first
-- pass, which keeps receipts or none, submitted such tasks in their order, each to the end of its submission, and then shut the pool
-- down; with it the pool was closed
pub record IsLife {Report : Type 0} (told : Config → List Entry → Report → Type 0) (keeps : Bool) (settings c : Config) (ks : List Asked) (r : Report) : Type 0 where
  pub first : PassView
  pub opened : first ≡ record { number = 0; amount = 0; front = []; released = []; keeps = keeps; receipts = []; room = first.room }
  pub submitted : PassView
  pub submits : AddsSubmissions c ks first submitted
  pub last : PassView
  pub ends : AddsEnd c submitted last
  pub closes : Closes told keeps settings c (last ∷ []) r

-- the report of a pool with these settings that kept no record and ran such jobs
abbrev pub IsTally : Config → List Asked → TallyReport → Type 0
IsTally c ks r = IsLife TellsCount false c (without_end c) ks r

-- there is no memory, or no room in the record, or it is torn
abbrev pub IsShort : PoolError → Type 0
IsShort e = (e ≡ NoMemory) ⊎ (e ≡ BookFull) ⊎ (e ≡ TornRecord)

-- no pool has these settings, or there is too little for the run
abbrev pub RefusesRun : Config → PoolError → Type 0
RefusesRun c e = (checked c ≡ Err e) ⊎ IsShort e

-- the jobs of the text that a reader has were run, and the text of the record was written
abbrev pub WritesRun : Option (List ℕ) → Option (List ℕ) → Option (List ℕ) → Type 0
WritesRun input old new = (jobs : Jobs) × (r : Report) × IsRead input (Ok jobs) × IsRun jobs.config (asked jobs.jobs.items) r
    × Appends old new (record_text version.Two jobs.config r.entries.items)

-- the run state of a closed pool, and these counters
abbrev pub tally_lines : Counts → List ℕ
tally_lines c = state_line Terminated ++ counts_line c

-- the jobs of the text that a reader has were run without a record, and the run state and the counters were written
abbrev pub WritesTally : Option (List ℕ) → Option (List ℕ) → Option (List ℕ) → Type 0
WritesTally input old new = (jobs : Jobs) × (r : TallyReport) × IsRead input (Ok jobs) × IsTally jobs.config (asked jobs.jobs.items) r × Appends old new (tally_lines r.counts)

-- the text is refused, or the run of its jobs
abbrev pub RefusesText : Option (List ℕ) → PoolError → Type 0
RefusesText input e = IsRead input (Err e) ⊎ ((jobs : Jobs) × IsRead input (Ok jobs) × RefusesRun jobs.config e)
