-- The twelve counters: the words of the rules agree with the working tables.
use Rattle.std.proofs.Common.{◌≡◌, ℕ, suc, cond, List, [], ◌∷◌, length, refl, sym, ap, ◌∙◌}
use Rattle.std.specs.Prelude.{count_by, if◌then◌else◌}
use Rattle.tp_types.specs.declared.tasks.Fate.{Fate}
use Rattle.tp_types.specs.declared.tasks.Fate.TheVariants as fate
use Rattle.tp_types.specs.declared.configs.Config.{Config}
use Rattle.tp_record.specs.declared.entries.Entry.{Entry}
use Rattle.tp_record.specs.declared.entries.Did.{Did}
use Rattle.tp_record.specs.declared.entries.Did.TheVariants as did
use Rattle.tp_record.specs.declared.entries.Started.TheVariants as started
use Rattle.tp_record.specs.Lists.{count_from}
use Rattle.tp_record.specs.Effects.{is_completion}
use Rattle.tp_record.specs.Fields.{submitted, queued, priority, completions, task_row}
use Rattle.tp_record.specs.State.{state, is_fate, fate_of, fated, counts}
use Rattle.tp_record.specs.Words.{with_fate, has_fate, is_completed_by, counters}
use Rattle.tp_laws.proofs.Model.Given.{Told}
use Rattle.tp_laws.proofs.Model.Readings.{tasks_counted}
use Rattle.tp_laws.proofs.WordsLists.{count_by-cons, count_by-map, count_by_below}
use Rattle.tp_laws.proofs.WordsQueue.{waiting_words}
use Rattle.tp_types.specs.Queues.{is_ranked}
use Rattle.tp_laws.proofs.Model.Arranged.{line-length}
use Rattle.tp_laws.proofs.WordsSlots.{submissions_agrees, live_slots_agree, largest_agrees}
use Rattle.tp_laws.proofs.WordsFates.{fate_agrees}

-- the tasks with a fate
pub fated_agrees : (c : Config) (h : List Entry) → Told c h → (f : Fate) → with_fate f h ≡ fated f (state c h)
fated_agrees c h told f =
    ap (λ n. count_by (has_fate f h) (count_from 0 n)) (submissions_agrees h)
    ∙ count_by_below (has_fate f h) (λ t. is_fate f (fate_of (task_row h t))) 0 (submitted h) (λ t below. fate_agrees c h told f t)
    ∙ sym (count_by-map (λ r. is_fate f (fate_of r)) (task_row h) (count_from 0 (submitted h)))

-- an entry completes in words as by the table
completed_step : (d : Did) (n : ℕ) → cond (is_completed_by d) (suc n) n ≡ (if is_completion d then suc n else n)
completed_step (did.End w t o) n = refl
completed_step (did.Begin w (started.Skip t)) n = refl
completed_step _ n = refl

-- the completions by workers
pub completed_agrees : (h : List Entry) → count_by (λ e. is_completed_by e.did) h ≡ completions h
completed_agrees [] = refl
completed_agrees (e ∷ h) =
    count_by-cons (λ x. is_completed_by x.did) e h
    ∙ ap (λ n. cond (is_completed_by e.did) (suc n) n) (completed_agrees h)
    ∙ completed_step e.did (completions h)

-- the counters
pub counters_words : (c : Config) (h : List Entry) → Told c h → counters h ≡ counts (state c h)
counters_words c h told = λ i. record {
  submitted = (submissions_agrees h ∙ sym (tasks_counted h)) i;
  run = fated_agrees c h told fate.Run i;
  caller = fated_agrees c h told fate.RunByCaller i;
  rejected = fated_agrees c h told fate.Rejected i;
  discarded = fated_agrees c h told fate.Discarded i;
  handedback = fated_agrees c h told fate.HandedBack i;
  removed = fated_agrees c h told fate.Removed i;
  cancelled = fated_agrees c h told fate.Cancelled i;
  completed = completed_agrees h i;
  queued = (ap length (waiting_words c h told) ∙ sym (line-length (is_ranked c.queue) (priority h) (queued h))) i;
  live = live_slots_agree c h told i;
  largest = largest_agrees c h told i;
}
