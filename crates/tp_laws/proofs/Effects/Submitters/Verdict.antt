-- A verdict on a refused task.
use Rattle.std.proofs.Common.{◌≡◌, ℕ, suc, ◌+◌, true, false, cond, Bool, List, ◌∷◌, Option, Some, None, refl, arith, sym, ap, ◌∙◌}
use Rattle.std.specs.Prelude.{drop, if◌then◌else◌}
use Rattle.std.proofs.lemmas.Bool.{eq-eqb, ne_eqb, false≢true}
use Rattle.std.proofs.lemmas.Bool.Decides.{nat_tests}
use Rattle.tp_types.specs.declared.configs.Config.{Config}
use Rattle.tp_types.specs.declared.configs.Verdict.{Verdict}
use Rattle.tp_types.specs.declared.ids.TaskId.{TaskId}
use Rattle.tp_types.specs.declared.tasks.Place.TheVariants as at
use Rattle.tp_types.specs.declared.tasks.Fate.{Fate}
use Rattle.tp_types.specs.declared.tasks.Fate.TheVariants as fate
use Rattle.tp_record.specs.declared.entries.Entry.{Entry}
use Rattle.tp_record.specs.declared.entries.Did.TheVariants as did
use Rattle.tp_record.specs.declared.entries.Ruled.TheVariants as ruled
use Rattle.tp_record.specs.Fields.{is_queued, is_queued_place}
use Rattle.tp_record.specs.State.{state, task_at, fated, is_fate}
use Rattle.tp_record.specs.Step.{Legal}
use Rattle.tp_laws.proofs.Model.Given.{Given}
use Rattle.tp_laws.specs.View.{view, Effect, put}
use Rattle.tp_laws.proofs.Effects.Rows.{moved_to}
use Rattle.tp_laws.proofs.Effects.Next.{entry}
use Rattle.tp_laws.proofs.Effects.Sums.{named_due}
use Rattle.tp_laws.proofs.Effects.Lists.{only, queue_same, queue_rest}
use Rattle.tp_laws.proofs.Effects.Done.{done_same}
use Rattle.tp_laws.proofs.Effects.Invariants.{is_gone}
use Rattle.tp_laws.proofs.Effects.Facts.{open_row}
use Rattle.tp_laws.proofs.Effects.Shapes.{reads_by, owes_by, task_turned, task_ended, tasks_two, slots_kept}

verdict_rejected_falls : (c : Config) (h : List Entry) (t : TaskId) (v : Verdict) → Given c h (did.Verdict t v ruled.Rejected) → named_due h (did.Verdict t v ruled.Rejected) h + 0 ≡ named_due h (did.Verdict t v ruled.Rejected) (entry (did.Verdict t v ruled.Rejected) ∷ h) + 2
verdict_rejected_falls c h t v given = grind (arith, nat_tests)

-- a verdict that rejects
pub verdict_rejected : (c : Config) (h : List Entry) (t : TaskId) (v : Verdict) → Legal c h → Given c h (did.Verdict t v ruled.Rejected) →
    Effect (state c h) (did.Verdict t v ruled.Rejected)
    (record (view (state c h)) {
      tasks = put t.0 (record (task_at (state c h) t.0) { place = at.Gone; ending = Some fate.Rejected }) (task_at (state c h));
      fates = λ f. fated f (state c h) + cond (is_fate f (if (task_at (state c h) t.0).cancelled then None else Some fate.Rejected)) 1 0;
    }) 2 0
verdict_rejected c h t v legal given =
    let d = did.Verdict t v ruled.Rejected in
    record {
      reads = reads_by (state c h) d refl
          (task_ended c h d legal given refl refl t.0 refl refl refl (record (task_at (state c h) t.0) { place = at.Gone; ending = Some fate.Rejected }) (rw (eq-eqb t.0 t.0 refl) refl) fate.Rejected (open_row c h legal t.0 (ap is_gone given.0.1)) refl refl)
          (queue_same c h d refl refl refl (only (is_queued h) t.0 false (ap is_queued_place given.0.1)))
          (slots_kept c h d legal given refl refl refl refl)
          (done_same c h d legal given refl) refl;
      owes = owes_by c h d legal given refl 2 0 (verdict_rejected_falls c h t v given);
    }

verdict_discarded_falls : (c : Config) (h : List Entry) (t : TaskId) (v : Verdict) → Given c h (did.Verdict t v ruled.Discarded) → named_due h (did.Verdict t v ruled.Discarded) h + 0 ≡ named_due h (did.Verdict t v ruled.Discarded) (entry (did.Verdict t v ruled.Discarded) ∷ h) + 2
verdict_discarded_falls c h t v given = grind (arith, nat_tests)

-- a verdict that discards
pub verdict_discarded : (c : Config) (h : List Entry) (t : TaskId) (v : Verdict) → Legal c h → Given c h (did.Verdict t v ruled.Discarded) →
    Effect (state c h) (did.Verdict t v ruled.Discarded)
    (record (view (state c h)) {
      tasks = put t.0 (record (task_at (state c h) t.0) { place = at.Gone; ending = Some fate.Discarded }) (task_at (state c h));
      fates = λ f. fated f (state c h) + cond (is_fate f (if (task_at (state c h) t.0).cancelled then None else Some fate.Discarded)) 1 0;
    }) 2 0
verdict_discarded c h t v legal given =
    let d = did.Verdict t v ruled.Discarded in
    record {
      reads = reads_by (state c h) d refl
          (task_ended c h d legal given refl refl t.0 refl refl refl (record (task_at (state c h) t.0) { place = at.Gone; ending = Some fate.Discarded }) (rw (eq-eqb t.0 t.0 refl) refl) fate.Discarded (open_row c h legal t.0 (ap is_gone given.0.1)) refl refl)
          (queue_same c h d refl refl refl (only (is_queued h) t.0 false (ap is_queued_place given.0.1)))
          (slots_kept c h d legal given refl refl refl refl)
          (done_same c h d legal given refl) refl;
      owes = owes_by c h d legal given refl 2 0 (verdict_discarded_falls c h t v given);
    }

verdict_caller_falls : (c : Config) (h : List Entry) (t : TaskId) (v : Verdict) → Given c h (did.Verdict t v ruled.Caller) → named_due h (did.Verdict t v ruled.Caller) h + 0 ≡ named_due h (did.Verdict t v ruled.Caller) (entry (did.Verdict t v ruled.Caller) ∷ h) + 1
verdict_caller_falls c h t v given = grind (arith, nat_tests)

-- a verdict by which the submitter runs the task
pub verdict_caller : (c : Config) (h : List Entry) (t : TaskId) (v : Verdict) → Legal c h → Given c h (did.Verdict t v ruled.Caller) →
    Effect (state c h) (did.Verdict t v ruled.Caller)
    (record (view (state c h)) {
      tasks = put t.0 (moved_to at.Caller (task_at (state c h) t.0)) (task_at (state c h));
    }) 1 0
verdict_caller c h t v legal given =
    let d = did.Verdict t v ruled.Caller in
    record {
      reads = reads_by (state c h) d refl
          (task_turned c h d legal given refl refl refl t.0 refl refl (moved_to at.Caller (task_at (state c h) t.0)) (rw (eq-eqb t.0 t.0 refl) refl))
          (queue_same c h d refl refl refl (only (is_queued h) t.0 false (ap is_queued_place given.0.1)))
          (slots_kept c h d legal given refl refl refl refl)
          (done_same c h d legal given refl) refl;
      owes = owes_by c h d legal given refl 1 0 (verdict_caller_falls c h t v given);
    }

verdict_skip_falls : (c : Config) (h : List Entry) (t : TaskId) (v : Verdict) → Given c h (did.Verdict t v ruled.Skip) → named_due h (did.Verdict t v ruled.Skip) h + 0 ≡ named_due h (did.Verdict t v ruled.Skip) (entry (did.Verdict t v ruled.Skip) ∷ h) + 2
verdict_skip_falls c h t v given = grind (arith, nat_tests)

-- a verdict on a cancelled task
pub verdict_skip : (c : Config) (h : List Entry) (t : TaskId) (v : Verdict) → Legal c h → Given c h (did.Verdict t v ruled.Skip) →
    Effect (state c h) (did.Verdict t v ruled.Skip)
    (record (view (state c h)) {
      tasks = put t.0 (moved_to at.Gone (task_at (state c h) t.0)) (task_at (state c h));
    }) 2 0
verdict_skip c h t v legal given =
    let d = did.Verdict t v ruled.Skip in
    record {
      reads = reads_by (state c h) d refl
          (task_turned c h d legal given refl refl refl t.0 refl refl (moved_to at.Gone (task_at (state c h) t.0)) (rw (eq-eqb t.0 t.0 refl) refl))
          (queue_same c h d refl refl refl (only (is_queued h) t.0 false (ap is_queued_place given.0.1)))
          (slots_kept c h d legal given refl refl refl refl)
          (done_same c h d legal given refl) refl;
      owes = owes_by c h d legal given refl 2 0 (verdict_skip_falls c h t v given);
    }

verdict_retry_falls : (c : Config) (h : List Entry) (t : TaskId) (v : Verdict) → Given c h (did.Verdict t v ruled.Retry) → named_due h (did.Verdict t v ruled.Retry) h + 11 ≡ named_due h (did.Verdict t v ruled.Retry) (entry (did.Verdict t v ruled.Retry) ∷ h) + 0
verdict_retry_falls c h t v given = grind (arith, nat_tests)

-- a retry
pub verdict_retry : (c : Config) (h : List Entry) (t : TaskId) (v : Verdict) → Legal c h → Given c h (did.Verdict t v ruled.Retry) →
    Effect (state c h) (did.Verdict t v ruled.Retry)
    (record (view (state c h)) {
      tasks = put t.0 (record (task_at (state c h) t.0) { place = at.Looking; retries = suc (task_at (state c h) t.0).retries }) (task_at (state c h));
    }) 0 11
verdict_retry c h t v legal given =
    let d = did.Verdict t v ruled.Retry in
    record {
      reads = reads_by (state c h) d refl
          (task_turned c h d legal given refl refl refl t.0 refl refl (record (task_at (state c h) t.0) { place = at.Looking; retries = suc (task_at (state c h) t.0).retries }) (rw (eq-eqb t.0 t.0 refl) refl))
          (queue_same c h d refl refl refl (only (is_queued h) t.0 false (ap is_queued_place given.0.1)))
          (slots_kept c h d legal given refl refl refl refl)
          (done_same c h d legal given refl) refl;
      owes = owes_by c h d legal given refl 0 11 (verdict_retry_falls c h t v given);
    }

discarded : (f : Fate) (b : Bool) (o : Option Fate) → o ≡ None →
    ◌≡◌ {A = ℕ} (cond (is_fate f (if b then Some fate.Cancelled else Some fate.Discarded)) 1 0)
    (cond (is_fate f (if b then Some fate.Cancelled else o)) 1 0 + cond (is_fate f (if b then None else Some fate.Discarded)) 1 0)
discarded f true o none = grind arith
discarded f false o none = rw none (by_fate f)
  where
    by_fate : (f : Fate) → ◌≡◌ {A = ℕ} (cond (is_fate f (Some fate.Discarded)) 1 0) (cond (is_fate f None) 1 0 + cond (is_fate f (Some fate.Discarded)) 1 0)
    by_fate f = grind arith

-- the head is another task
heads_apart : (c : Config) (h : List Entry) (t u : TaskId) (v : Verdict) → Given c h (did.Verdict t v (ruled.RetryDrop u)) → u.0 ≡ t.0 → ⊥
heads_apart c h t u v given same = false≢true (sym (ap is_queued_place given.0.1) ∙ ap (is_queued h) (sym same) ∙ ap is_queued_place given.1.3.1)

verdict_retry_drop_falls : (c : Config) (h : List Entry) (t u : TaskId) (v : Verdict) → Given c h (did.Verdict t v (ruled.RetryDrop u)) → (u.0 ≡ t.0 → ⊥) →
    named_due h (did.Verdict t v (ruled.RetryDrop u)) h + 5 ≡ named_due h (did.Verdict t v (ruled.RetryDrop u)) (entry (did.Verdict t v (ruled.RetryDrop u)) ∷ h) + 0
verdict_retry_drop_falls c h t u v given apart = grind (arith, nat_tests)

-- a retry that drops the queue's head
pub verdict_retry_drop : (c : Config) (h : List Entry) (t u : TaskId) (v : Verdict) → Legal c h → Given c h (did.Verdict t v (ruled.RetryDrop u)) →
    Effect (state c h) (did.Verdict t v (ruled.RetryDrop u))
    (record (view (state c h)) {
      tasks = put t.0 (record (task_at (state c h) t.0) { place = at.Looking; retries = suc (task_at (state c h) t.0).retries })
          (put u.0 (record (task_at (state c h) u.0) { place = at.Gone; ending = Some fate.Discarded }) (task_at (state c h)));
      fates = λ f. fated f (state c h) + cond (is_fate f (if (task_at (state c h) u.0).cancelled then None else Some fate.Discarded)) 1 0;
      queue = drop 1 (state c h).queue;
    }) 0 5
verdict_retry_drop c h t u v legal given =
    let d = did.Verdict t v (ruled.RetryDrop u) in
    let apart = heads_apart c h t u v given in
    let other : t.0 ≡ u.0 → ⊥ = λ e. apart (sym e) in
    record {
      reads = reads_by (state c h) d refl
          (tasks_two c h d legal given refl refl t.0 u.0 refl refl refl apart
          (record (task_at (state c h) t.0) { place = at.Looking; retries = suc (task_at (state c h) t.0).retries })
          (record (task_at (state c h) u.0) { place = at.Gone; ending = Some fate.Discarded })
          (rw (eq-eqb t.0 t.0 refl, ne_eqb t.0 u.0 other) refl) (rw (ne_eqb u.0 t.0 apart, eq-eqb u.0 u.0 refl) refl) refl
          (λ f. cond (is_fate f (if (task_at (state c h) u.0).cancelled then None else Some fate.Discarded)) 1 0)
          (λ f. discarded f (task_at (state c h) u.0).cancelled (task_at (state c h) u.0).ending (open_row c h legal u.0 (ap is_gone given.1.3.1))))
          (queue_rest c h d refl refl u.0 given.1.2.0 given.1.2.1 (rw (ne_eqb u.0 t.0 apart, eq-eqb u.0 u.0 refl) refl)
          (λ x is ne. (ne_eqb x t.0 (λ e. false≢true (sym (ap is_queued_place given.0.1) ∙ ap (is_queued h) (sym e) ∙ is)), ne_eqb x u.0 ne)))
          (slots_kept c h d legal given refl refl refl refl)
          (done_same c h d legal given refl) refl;
      owes = owes_by c h d legal given refl 0 5 (verdict_retry_drop_falls c h t u v given apart);
    }
