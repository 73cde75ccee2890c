-- The completed tasks of each group after an entry of a legal history.
use Rattle.std.proofs.Common.{◌≡◌, ℕ, Bool, true, false, not, ◌&&◌, cond, List, [], ◌∷◌, ◌++◌, Option, Some, None, refl, sym, ap, ◌∙◌}
use Rattle.std.specs.Prelude.{◌==◌}
use Rattle.tp_types.specs.declared.configs.Config.{Config}
use Rattle.tp_types.specs.declared.tasks.Kind.{Kind}
use Rattle.tp_types.specs.declared.tasks.Kind.TheVariants as kinds
use Rattle.tp_record.specs.declared.entries.Entry.{Entry}
use Rattle.tp_record.specs.declared.entries.Did.{Did}
use Rattle.tp_record.specs.declared.entries.Did.TheVariants as did
use Rattle.tp_record.specs.Effects.{is_group}
use Rattle.tp_record.specs.State.{state, next, task_at}
use Rattle.tp_record.specs.Step.{Legal, done_of, is_of_group}
use Rattle.tp_laws.proofs.Model.Given.{Given}
use Rattle.tp_laws.proofs.Effects.Done.{done_same, done_more, done_submit, done_taken}
use Rattle.tp_laws.proofs.Effects.Invariants.{is_gone}
use Rattle.tp_laws.proofs.Effects.Facts.{undone, unclosed}
use Rattle.tp_audit.specs.Tables.{group_of, grouped, completion, with_completion, handed_out}

-- a task of kind k is completed, if b
grouped_by : (k : Kind) (t g : ℕ) (b : Bool) (xs : List ℕ) → with_completion (cond (is_group k && b) (group_of k t) None) g xs ≡ cond (is_of_group g k && b) (xs ++ t ∷ []) xs
grouped_by kinds.Plain t g b xs = refl
grouped_by kinds.Future t g b xs = refl
grouped_by (kinds.Group n) t g true xs = whole (n == g)
  where
    whole : (a : Bool) → cond a (xs ++ t ∷ []) xs ≡ cond (a && true) (xs ++ t ∷ []) xs
    whole true = refl
    whole false = refl
grouped_by (kinds.Group n) t g false xs = none (n == g)
  where
    none : (a : Bool) → xs ≡ cond (a && false) (xs ++ t ∷ []) xs
    none true = refl
    none false = refl

module _ (c : Config) (h : List Entry) (legal : Legal c h) where
  chosen : (b : Bool) (t : ℕ) → grouped (state c h) (cond b (Some t) None) ≡ cond b (group_of (task_at (state c h) t).kind t) None
  chosen true t = refl
  chosen false t = refl

  -- the completion of t, if it is of a group and b
  ended : (d : Did) (t : ℕ) (b : Bool) → completion d (state c h) ≡ cond (is_group (task_at (state c h) t).kind && b) (group_of (task_at (state c h) t).kind t) None → (g : ℕ) →
      with_completion (completion d (state c h)) g (done_of (state c h) g)
      ≡ cond (is_of_group g (task_at (state c h) t).kind && b) (done_of (state c h) g ++ t ∷ []) (done_of (state c h) g)
  ended d t b is g = ap (λ o. with_completion o g (done_of (state c h) g)) is ∙ grouped_by (task_at (state c h) t).kind t g b (done_of (state c h) g)

  -- the completed tasks of each group, by the tables' change
  pub done_given : (d : Did) → Given c h d → (g : ℕ) → handed_out d g (with_completion (completion d (state c h)) g (done_of (state c h) g)) ≡ done_of (next (state c h) d) g
  done_given (did.Submit t k p l) given g = sym (done_submit c h t k p l legal given g)
  done_given (did.TakeDone n t) given g = sym (done_taken c h n t legal given g)
  done_given (did.CallerEnd t o) given g =
      ended (did.CallerEnd t o) t.0 (not (task_at (state c h) t.0).cancelled) (chosen (is_group (task_at (state c h) t.0).kind && not (task_at (state c h) t.0).cancelled) t.0) g
      ∙ sym (done_more c h (did.CallerEnd t o) legal given refl refl t.0 (not (task_at (state c h) t.0).cancelled) refl (undone c h legal t.0 (ap is_gone given.1)) g)
  done_given (did.End w t o) given g =
      ended (did.End w t o) t.0 (not (task_at (state c h) t.0).cancelled) (chosen (is_group (task_at (state c h) t.0).kind && not (task_at (state c h) t.0).cancelled) t.0) g
      ∙ sym (done_more c h (did.End w t o) legal given refl refl t.0 (not (task_at (state c h) t.0).cancelled) refl (undone c h legal t.0 (ap is_gone given.1.1)) g)
  done_given (did.Cancel t flag true) given g =
      ended (did.Cancel t flag true) t.0 true (ap (grouped (state c h)) (whole (is_group (task_at (state c h) t.0).kind) t.0) ∙ chosen (is_group (task_at (state c h) t.0).kind && true) t.0) g
      ∙ sym (done_more c h (did.Cancel t flag true) legal given refl refl t.0 true (whole (is_group (task_at (state c h) t.0).kind) t.0) (λ is. unclosed c h legal t.0 given.2 given.3) g)
    where
      whole : (b : Bool) (t : ℕ) → ◌≡◌ {A = Option ℕ} (cond b (Some t) None) (cond (b && true) (Some t) None)
      whole true t = refl
      whole false t = refl
  done_given d given g = sym (done_same c h d legal given refl g)
