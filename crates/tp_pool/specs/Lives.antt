-- What a pool's whole life in one call leaves.
use Rattle.std.specs.Prelude.{ℕ, ℤ, Bool, true, false, ◌≡◌, ◌⊎◌, ◌+◌, ◌*◌, ◌<◌, ◌≤◌, max, List, [], ◌∷◌, None, Result, Ok, Err}
use Rattle.tp_types.specs.Config.{checked}
use Rattle.tp_types.specs.declared.configs.Config.{Config}
use Rattle.tp_types.specs.declared.ids.TaskId.{TaskId}
use Rattle.tp_types.specs.declared.refusals.PoolError.{PoolError}
use Rattle.tp_types.specs.declared.refusals.PoolError.TheVariants.{BadLimit, NoMemory, BookFull, MissingPass, TornRecord}
use Rattle.tp_types.specs.declared.tasks.Promise.{Promise}
use Rattle.tp_record.specs.declared.entries.Ask.TheVariants as ask
use Rattle.tp_record.specs.declared.entries.Entry.{Entry}
use Rattle.tp_record.specs.Fields.{rank}
use Rattle.tp_record.specs.Terms.{without_end}
use Rattle.tp_glance.specs.Word.{IsFrontOf}
use Rattle.tp_book.specs.PassView.{PassView}
use Rattle.tp_book.specs.Reports.{TellsCount, TellsRecord}
use Rattle.tp_book.specs.declared.reports.Report.{Report}
use Rattle.tp_book.specs.declared.reports.TallyReport.{TallyReport}
use Rattle.tp_pool_holds.specs.Moments.{AtSome, BookOf}
use Rattle.tp_pool_holds.specs.Passes.{LooksOnly}
use Rattle.tp_pool_holds.specs.Readings.{got, IsFound}
use Rattle.tp_pool_holds.specs.declared.tasks.Payload.{Payload}
use Rattle.tp_pool_holds.specs.Reports.{Closes}
use Rattle.tp_pool_holds.specs.Endings.{IsBarred}
use Rattle.tp_pool.specs.Submissions.{Submits}
use Rattle.tp_pool.specs.Turns.{ThroughBoth}

-- J are a pool's jobs, c the terms by which its steps are judged; it keeps receipts, or none
module _ (J : Type 0) (keeps : Bool) (c : Config) where
  -- the pass looks, and is told what became of this task; or the refusal of its submission is the answer
  abbrev pub IsTold : Result TaskId PoolError → Result ℤ PoolError → PassView → PassView → Type 0
  IsTold (Ok t) answer old new = LooksOnly c old new × BookOf (Payload J) c new (λ b. IsFound b t.0 keeps None (got answer))
  IsTold (Err e) answer old new = (new ≡ old) × (answer ≡ Err e)

  -- so it is told of each of these, one after another
  abbrev pub AreTold : List (Result TaskId PoolError) → List (Result ℤ PoolError) → PassView → PassView → Type 0
  AreTold tasks answers old new = ThroughBoth IsTold tasks answers old new

-- and a job promises so and names this priority
module _ {J : Type 0} (keeps : Bool) (c : Config) (promised : J → Promise) (urgency : J → ℕ) where
  -- the pass submits these jobs with futures, one after another, as these tasks, or is refused so
  abbrev pub AreSubmitted : List J → List (Result TaskId PoolError) → PassView → PassView → Type 0
  AreSubmitted jobs tasks old new = ThroughBoth (λ job task. Submits keeps c job (promised job) (urgency job) task) jobs tasks old new

  -- it submits these jobs, and then is told, in the same order, what became of each
  pub record AreAnswered (jobs : List J) (answers : List (Result ℤ PoolError)) (old new : PassView) : Type 0 where
    pub tasks : List (Result TaskId PoolError)
    pub mid : PassView
    pub submitted : AreSubmitted jobs tasks old mid
    pub told : AreTold J keeps c tasks answers mid new

-- of a pool with these settings, whose steps are judged by these terms, so much is told at its close
module _ {J R : Type 0} (told : Config → List Entry → R → Type 0) (keeps : Bool) (settings terms : Config) (promised : J → Promise) (urgency : J → ℕ) where
  -- a new pool's first pass submits these jobs and is told what became of each, and the pool is closed with it and one other
  pub record IsClosedRun (jobs : List J) (answers : List (Result ℤ PoolError)) (r : R) : Type 0 where
    pub first : PassView
    pub opened : first ≡ record { number = 0; amount = 0; front = []; released = []; keeps = keeps; receipts = []; room = first.room }
    pub new : PassView
    pub other : PassView
    pub answered : AreAnswered keeps terms promised urgency jobs answers first new
    pub reports : Closes told keeps settings terms (new ∷ other ∷ []) r

-- with its record
abbrev pub IsRun : {J : Type 0} → Config → (J → Promise) → (J → ℕ) → List J → List (Result ℤ PoolError) → Report → Type 0
IsRun c promised urgency jobs answers r = IsClosedRun TellsRecord true c c promised urgency jobs answers r

-- without one
abbrev pub IsTallyRun : {J : Type 0} → Config → (J → Promise) → (J → ℕ) → List J → List (Result ℤ PoolError) → TallyReport → Type 0
IsTallyRun c promised urgency jobs answers r = IsClosedRun TellsCount false c (without_end c) promised urgency jobs answers r

-- no pool was opened: none has these settings, or there was no memory or no number for it
abbrev pub IsUnopened : Config → PoolError → Type 0
IsUnopened c e = (checked c ≡ Err e) ⊎ (e ≡ NoMemory) ⊎ (e ≡ BookFull)

-- the life of one that was opened is cut short: there was no memory for the answers, or its close was refused
abbrev pub IsCut : PoolError → Type 0
IsCut e = (e ≡ NoMemory) ⊎ (e ≡ MissingPass) ⊎ (e ≡ TornRecord)

-- no pool was opened with these settings; or one was, and by these terms it has come to where no slot is left
abbrev pub IsOver : Config → Config → PoolError → Type 0
IsOver settings terms e = IsUnopened settings e ⊎ (IsCut e × AtSome terms (λ s. 3 ≤ s.rank))

-- these settings, with a record that has room for so many jobs
abbrev pub sized : Config → ℕ → Config
sized c jobs = record c { record_limit = max (jobs * 13 + 4) 64 }

-- no record has room for so many jobs; or a pool of that size was not opened, or is over
abbrev pub IsUnrun : Config → ℕ → PoolError → Type 0
IsUnrun c jobs e = ((e ≡ BadLimit) × (1048576 < jobs * 13 + 4)) ⊎ IsOver (sized c jobs) (sized c jobs) e

-- at this history the pool is shut down, or at a front of it a shutdown is refused
abbrev pub IsShut : Config → List Entry → Type 0
IsShut c h = (1 ≤ rank h) ⊎ ((f : List Entry) × IsFrontOf f h × IsBarred c f ask.Shutdown)
