-- Files of jobs: a pool line, and behind it a line for each job.
use Rattle.std.specs.Prelude.{◌≡◌, ◌⊎◌, ℕ, Bool, true, false, List, Option, Some, None, Result, Ok, Err, IfSome, codes}
use Rattle.tp_types.specs.declared.configs.Config.{Config}
use Rattle.tp_types.specs.declared.refusals.PoolError.{PoolError}
use Rattle.tp_types.specs.declared.refusals.PoolError.TheVariants.{NoMemory, BadLine, ReadFailed}
use Rattle.tp_types.specs.Config.{checked}
use Rattle.tp_text.specs.Pools.{config_of}
use Rattle.tp_text.specs.Reads.{spaced}
use Rattle.tp_scenario.specs.declared.jobs.JobLine.{JobLine}
use Rattle.tp_scenario.specs.declared.jobs.Jobs.{Jobs}
use Rattle.tp_scenario.specs.Lines.{FitsGiven, given_text}
use Rattle.tp_scenario.specs.PoolText.{IsPoolText, LinesSaid, TextSaid}

-- a job with a future is submitted, one without is executed
abbrev pub job_word : Bool → List ℕ
job_word false = codes "execute"
job_word true = codes "submit"

-- the text of a job's line
abbrev pub job_text : JobLine → List ℕ
job_text j = spaced (job_word j.future) (given_text (j.outcome, j.priority))

abbrev pub FitsJob : JobLine → Type 0
FitsJob j = FitsGiven (j.outcome, j.priority)

-- the pool, the jobs in order up to the first bad line, and that line, if there is one; or the bad line before any pool line
abbrev pub JobsSaid : Type 0
JobsSaid = TextSaid JobLine

-- a text of jobs says this; lines count from 1
abbrev pub IsJobsText : List ℕ → JobsSaid → Type 0
IsJobsText text s = IsPoolText job_text FitsJob text s

-- the settings and the jobs, or a refusal
abbrev pub Answer : Type 0
Answer = Result (Config × List JobLine) PoolError

-- what a pool whose check answers this comes to, and the lines behind its line: a refused configuration comes before a
-- later bad line
abbrev pub answer_behind : Result (Unit {0}) PoolError → Config → LinesSaid JobLine → Answer
answer_behind (Err e) c said = Err e
answer_behind (Ok u) c (jobs, Some k) = Err (BadLine k)
answer_behind (Ok u) c (jobs, None) = Ok (c, jobs)

-- what a text comes to that says this
abbrev pub answer_to : JobsSaid → Answer
answer_to (Err k) = Err (BadLine k)
answer_to (Ok q) = answer_behind (checked (config_of q.0)) (config_of q.0) q.1

-- the jobs that were read, or the refusal
abbrev pub answer_of : Result Jobs PoolError → Answer
answer_of (Ok jobs) = Ok (jobs.config, jobs.jobs.items)
answer_of (Err e) = Err e

-- the answer to a text: what it comes to, or that there was no memory
abbrev pub ReadsJobs : List ℕ → Result Jobs PoolError → Type 0
ReadsJobs text r = (r ≡ Err NoMemory) ⊎ ((s : JobsSaid) × IsJobsText text s × (answer_of r ≡ answer_to s))

-- the answer to a reader with these bytes, where they are known: it failed, or this is the answer to its text
abbrev pub IsRead : Option (List ℕ) → Result Jobs PoolError → Type 0
IsRead input r = (r ≡ Err ReadFailed) ⊎ ((text : List ℕ) × IfSome input (λ xs. text ≡ xs) × ReadsJobs text r)
