-- A cancel.
use Rattle.std.proofs.Common.{◌≡◌, ℕ, ◌+◌, Bool, true, false, ◌&&◌, cond, List, [], ◌∷◌, ◌++◌, Option, Some, None, refl, arith, ◌∙◌}
use Rattle.std.specs.Prelude.{if◌then◌else◌}
use Rattle.std.proofs.lemmas.Bool.{eq-eqb}
use Rattle.std.proofs.lemmas.Bool.Decides.{nat_tests}
use Rattle.tp_types.specs.declared.configs.Config.{Config}
use Rattle.tp_types.specs.declared.ids.TaskId.{TaskId}
use Rattle.tp_types.specs.declared.tasks.Fate.{Fate}
use Rattle.tp_types.specs.declared.tasks.Fate.TheVariants as fate
use Rattle.tp_record.specs.declared.entries.Entry.{Entry}
use Rattle.tp_record.specs.declared.entries.Did.TheVariants as did
use Rattle.tp_record.specs.Effects.{is_group}
use Rattle.tp_record.specs.State.{state, task_at, fated, is_fate}
use Rattle.tp_record.specs.Step.{Legal, done_of, is_of_group}
use Rattle.tp_laws.proofs.Model.Given.{Given}
use Rattle.tp_laws.specs.View.{view, Effect, put}
use Rattle.tp_laws.proofs.Effects.Next.{entry}
use Rattle.tp_laws.proofs.Effects.Sums.{named_due}
use Rattle.tp_laws.proofs.Effects.Lists.{queue_still}
use Rattle.tp_laws.proofs.Effects.Done.{done_same, done_more}
use Rattle.tp_laws.proofs.Effects.Facts.{unclosed, cancelled_read, ending_read}
use Rattle.tp_laws.proofs.Effects.Shapes.{reads_by, owes_by, tasks_kept, task_fated, slots_kept}

whole : (b : Bool) (t : ℕ) → ◌≡◌ {A = Option ℕ} (cond b (Some t) None) (cond (b && true) (Some t) None)
whole true t = refl
whole false t = refl

either : (b : Bool) (xs ys : List ℕ) → (if b && true then xs else ys) ≡ (if b then xs else ys)
either true xs ys = refl
either false xs ys = refl

newly : (f : Fate) (b : Bool) (o : Option Fate) → b ≡ false → o ≡ None →
    ◌≡◌ {A = ℕ} (cond (is_fate f (Some fate.Cancelled)) 1 0) (cond (is_fate f (if b then Some fate.Cancelled else o)) 1 0 + cond (is_fate f (Some fate.Cancelled)) 1 0)
newly f b o alive none = rw (alive, none) (by_fate f)
  where
    by_fate : (f : Fate) → ◌≡◌ {A = ℕ} (cond (is_fate f (Some fate.Cancelled)) 1 0) (cond (is_fate f None) 1 0 + cond (is_fate f (Some fate.Cancelled)) 1 0)
    by_fate f = grind arith

cancel_falls : (c : Config) (h : List Entry) (t : TaskId) (flag : Bool) → Given c h (did.Cancel t flag true) → named_due h (did.Cancel t flag true) h + 0 ≡ named_due h (did.Cancel t flag true) (entry (did.Cancel t flag true) ∷ h) + 0
cancel_falls c h t flag given = grind (arith, nat_tests)

-- a cancel that has effect
pub cancel : (c : Config) (h : List Entry) (t : TaskId) (flag : Bool) → Legal c h → Given c h (did.Cancel t flag true) →
    Effect (state c h) (did.Cancel t flag true)
    (record (view (state c h)) {
      tasks = put t.0 (record (task_at (state c h) t.0) { cancelled = true }) (task_at (state c h));
      fates = λ f. fated f (state c h) + cond (is_fate f (Some fate.Cancelled)) 1 0;
      done = λ g. if is_of_group g (task_at (state c h) t.0).kind then done_of (state c h) g ++ t.0 ∷ [] else done_of (state c h) g;
    }) 0 0
cancel c h t flag legal given =
    let d = did.Cancel t flag true in
    record {
      reads = reads_by (state c h) d refl
          (task_fated c h d legal given refl refl t.0 refl refl refl (record (task_at (state c h) t.0) { cancelled = true }) (rw (eq-eqb t.0 t.0 refl) refl) (λ f. cond (is_fate f (Some fate.Cancelled)) 1 0) (λ f. newly f (task_at (state c h) t.0).cancelled (task_at (state c h) t.0).ending (cancelled_read c h legal t.0 ∙ given.2) (ending_read c h legal t.0 ∙ given.3)))
          (queue_still c h d refl refl refl)
          (slots_kept c h d legal given refl refl refl refl)
          (λ g.
          done_more c h d legal given refl refl t.0 true (whole (is_group (task_at (state c h) t.0).kind) t.0) (λ is. unclosed c h legal t.0 given.2 given.3) g
          ∙ either (is_of_group g (task_at (state c h) t.0).kind) (done_of (state c h) g ++ t.0 ∷ []) (done_of (state c h) g)) refl;
      owes = owes_by c h d legal given refl 0 0 (cancel_falls c h t flag given);
    }

cancel_late_falls : (c : Config) (h : List Entry) (t : TaskId) (flag : Bool) → Given c h (did.Cancel t flag false) → named_due h (did.Cancel t flag false) h + 0 ≡ named_due h (did.Cancel t flag false) (entry (did.Cancel t flag false) ∷ h) + 0
cancel_late_falls c h t flag given = grind (arith, nat_tests)

-- a cancel without effect
pub cancel_late : (c : Config) (h : List Entry) (t : TaskId) (flag : Bool) → Legal c h → Given c h (did.Cancel t flag false) →
    Effect (state c h) (did.Cancel t flag false)
    (view (state c h)) 0 0
cancel_late c h t flag legal given =
    let d = did.Cancel t flag false in
    record {
      reads = reads_by (state c h) d refl
          (tasks_kept c h d legal given refl refl refl refl refl)
          (queue_still c h d refl refl refl)
          (slots_kept c h d legal given refl refl refl refl)
          (done_same c h d legal given refl) refl;
      owes = owes_by c h d legal given refl 0 0 (cancel_late_falls c h t flag given);
    }
