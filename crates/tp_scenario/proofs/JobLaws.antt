-- Which texts are those of jobs, and that a text says one job.
use Rattle.std.proofs.Common.{◌≡◌, ◌≢◌, ◌⊎◌, inl, inr, ℕ, ◌<◌, List, [], Option, Some, None, Result, Ok, Err, Bool, true, false, get_or, unwrap_or, refl, sym, ◌∙◌, ap, subst, arith, codes}
use Rattle.std.proofs.lemmas.Option.{same_Some}
use Rattle.tp_types.specs.declared.refusals.PoolError.{PoolError}
use Rattle.tp_types.specs.declared.refusals.PoolError.TheVariants.{NoMemory, ReadFailed}
use Rattle.tp_types.specs.declared.configs.Config.{Config}
use Rattle.tp_types.specs.Config.{checked}
use Rattle.tp_text.specs.Pools.{config_of}
use Rattle.tp_text.specs.Reads.{FirstWord, IsWord}
use Rattle.tp_text.proofs.Outputs.{known_or}
use Rattle.tp_text.proofs.Refusals.{checked_inner, outer_err, same_outer}
use Rattle.tp_text.proofs.WordSplits.{differ, same_words, word_from_test}
use Rattle.tp_scenario.specs.declared.jobs.JobLine.{JobLine}
use Rattle.tp_scenario.specs.declared.jobs.Jobs.{Jobs}
use Rattle.tp_scenario.specs.Lines.{Given, given_text}
use Rattle.tp_scenario.specs.Jobs.{FitsJob, IsJobsText, IsRead, JobsSaid, ReadsJobs, answer_behind, answer_of, answer_to, job_text, job_word}
use Rattle.tp_text.specs.Lines.{IsSkipped}
use Rattle.tp_scenario.specs.PoolText.{LinesSaid}
use Rattle.tp_scenario.proofs.OneReading.{given_text-injective}
use Rattle.tp_scenario.proofs.OneText.{followed_first, letter_not_skipped, one_said}

job_is_word : (future : Bool) → IsWord (job_word future)
job_is_word false = word_from_test (codes "execute") refl
job_is_word true = word_from_test (codes "submit") refl

-- a text is that of a job only by its first word and what follows
pub no_job : (bs w : List ℕ) (r : Option (List ℕ)) → FirstWord bs w r → ((j : JobLine) → FitsJob j → w ≡ job_word j.future → r ≢ Some (given_text (j.outcome, j.priority))) → (j : JobLine) → FitsJob j → bs ≢ job_text j
no_job bs w r first none j fits same =
    let p = first.only (job_word j.future) (Some (given_text (j.outcome, j.priority))) (job_is_word j.future) same in none j fits p.0 p.1

-- no other word begins a job's line
pub no_job_word : (w : List ℕ) → w ≢ codes "execute" → w ≢ codes "submit" → (future : Bool) → w ≢ job_word future
no_job_word w execute submit false e = execute e
no_job_word w execute submit true e = submit e

-- a text that was not read
pub unread : (input : Option (List ℕ)) (e : PoolError) → (e ≡ ReadFailed) ⊎ (e ≡ NoMemory) → IsRead input (Err e)
unread input e (inl is) = inl (ap Err is)
unread input e (inr is) = inr (unwrap_or input [], known_or input, inl (ap Err is))

behind_inner : (r : Result (Unit {0}) PoolError) (c : Config) (said : LinesSaid JobLine) → outer_err r ≡ false → outer_err (answer_behind r c said) ≡ false
behind_inner (Err e) c said inner = inner
behind_inner (Ok u) c (jobs, Some k) inner = refl
behind_inner (Ok u) c (jobs, None) inner = refl

answer_inner : (s : JobsSaid) → outer_err (answer_to s) ≡ false
answer_inner (Err k) = refl
answer_inner (Ok q) = let c : Config = config_of q.0 in behind_inner (checked c) c q.1 (checked_inner c)

jobs_by : (r : Result Jobs PoolError) (s : JobsSaid) → answer_of r ≡ answer_to s → outer_err r ≡ false
jobs_by (Ok jobs) s is = refl
jobs_by (Err e) s is = same_outer (answer_of (Err e)) (answer_to s) is ∙ answer_inner s

-- a text of jobs is refused otherwise than a reader or a writer is
pub jobs_inner : (text : List ℕ) (r : Result Jobs PoolError) → ReadsJobs text r → outer_err r ≡ false
jobs_inner text r (inl memory) = same_outer r (Err NoMemory) memory
jobs_inner text r (inr reads) = jobs_by r reads.0 reads.2

same_word : (a b : Bool) → job_word a ≡ job_word b → a ≡ b
same_word false false e = refl
same_word false true e = absurd (differ (codes "execute") (codes "submit") refl e)
same_word true false e = absurd (differ (codes "submit") (codes "execute") refl e)
same_word true true e = refl

-- no text is that of two jobs
pub job_text-injective : (j k : JobLine) → FitsJob j → FitsJob k → job_text j ≡ job_text k → j ≡ k
job_text-injective j k f h e =
    let p = same_words (job_word j.future) (job_word k.future) (Some (given_text (j.outcome, j.priority))) (Some (given_text (k.outcome, k.priority))) (job_is_word j.future) (job_is_word k.future) e in
    ap (λ x. record { future = x; outcome = j.outcome; priority = j.priority }) (same_word j.future k.future p.0)
    ∙ ap (λ (g : Given). record { future = k.future; outcome = g.0; priority = g.1 }) (given_text-injective (j.outcome, j.priority) (k.outcome, k.priority) f h (same_Some _ _ p.1))

letter_first : (future : Bool) → 96 < get_or (job_word future) 0 0
letter_first false = omega arith
letter_first true = omega arith

job_not_skipped : (bytes : List ℕ) (j : JobLine) → bytes ≡ job_text j → IsSkipped bytes → ⊥
job_not_skipped bytes j is skipped =
    let P : List ℕ → Type 0 = λ x. 96 < get_or x 0 0 in
    letter_not_skipped bytes (subst P (sym is) (followed_first (job_word j.future) (Some (given_text (j.outcome, j.priority))) (letter_first j.future))) skipped

-- a text of jobs says one thing
pub one_file : (text : List ℕ) (s t : JobsSaid) → IsJobsText text s → IsJobsText text t → s ≡ t
one_file = one_said job_text FitsJob job_not_skipped job_text-injective
