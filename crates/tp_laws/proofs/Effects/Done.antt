-- The completions of each group that are not handed out, after an entry.
use Rattle.std.proofs.Common.{◌≡◌, ℕ, Bool, true, false, not, ◌&&◌, cond, List, [], ◌∷◌, ◌++◌, Some, None, refl, arith, sym, ap, ◌∙◌, inl, inr}
use mathlib.Core.Path.{fun_ext}
use Rattle.std.specs.Prelude.{◌==◌, filter, drop, unwrap_or, if◌then◌else◌}
use Rattle.std.proofs.lemmas.Bool.{cases_eq, eq-eqb, ne_eqb, and_parts}
use Rattle.std.proofs.lemmas.Bool.Decides.{nat_tests}
use Rattle.std.proofs.lemmas.List.{append-nil}
use Rattle.std.proofs.lemmas.List.Elements.{filter-append}
use Rattle.tp_types.specs.declared.configs.Config.{Config}
use Rattle.tp_types.specs.declared.ids.TaskId.{TaskId}
use Rattle.tp_types.specs.declared.tasks.Kind.{Kind}
use Rattle.tp_types.specs.declared.tasks.Kind.TheVariants as kinds
use Rattle.tp_record.specs.declared.entries.Entry.{Entry}
use Rattle.tp_record.specs.declared.entries.Did.{Did}
use Rattle.tp_record.specs.declared.entries.Did.TheVariants as did
use Rattle.tp_record.specs.declared.entries.Looked.{Looked}
use Rattle.tp_record.specs.Lists.{said_of, without, at_end, is_among}
use Rattle.tp_record.specs.Effects.{kinds_said, is_submit, completes, hands_out, is_group}
use Rattle.tp_record.specs.Fields.{is_done, completed, done}
use Rattle.tp_record.specs.State.{State, state, next, task_at, stays_done}
use Rattle.tp_record.specs.Step.{Legal, done_of, is_of_group}
use Rattle.tp_laws.proofs.Model.ListLaws.{filter-filter_agree, filter-filter}
use Rattle.tp_laws.proofs.Model.Given.{Given}
use Rattle.tp_laws.proofs.Model.Queues.{among-done, among-filter, once-done, once-filter}
use Rattle.tp_laws.proofs.Model.Told.{told_legal}
use Rattle.tp_laws.proofs.Effects.Next.{row_next}
use Rattle.tp_laws.proofs.Effects.Lists.{filter_all, without_absent, without_head}
use Rattle.tp_laws.proofs.Effects.Invariants.{done_known}

-- an entry that completes nothing and hands out nothing
abbrev pub is_unfinishing : Did → Bool
is_unfinishing (did.Submit t k p l) = false
is_unfinishing (did.Cancel t flag true) = false
is_unfinishing (did.CallerEnd t o) = false
is_unfinishing (did.End w t o) = false
is_unfinishing (did.TakeDone g t) = false
is_unfinishing _ = true

none_completed : (d : Did) (f : ℕ → Kind) (g : ℕ → Bool) → is_unfinishing d ≡ true → completes d f g ≡ None
none_completed d f g still = grind arith

none_handed : (d : Did) → is_unfinishing d ≡ true → hands_out d ≡ []
none_handed d still = grind arith

none_submitted : (d : Did) → is_unfinishing d ≡ true → is_submit d ≡ false
none_submitted d still = grind arith

kind_unsaid : (d : Did) (t : ℕ) → is_submit d ≡ false → said_of t (kinds_said d) ≡ None
kind_unsaid d t old = grind arith

-- whether a task is of the group
abbrev pub is_in : State → ℕ → ℕ → Bool
is_in s g t = is_of_group g (task_at s t).kind

filter_agree : (p q : ℕ → Bool) → ((t : ℕ) → p t ≡ q t) → (xs : List ℕ) → filter p xs ≡ filter q xs
filter_agree p q same xs = ap (λ f. filter f xs) (fun_ext same)

-- filters in either order
filter_swap : (p q : ℕ → Bool) (xs : List ℕ) → filter p (filter q xs) ≡ filter q (filter p xs)
filter_swap p q xs = filter-filter p q xs ∙ filter_agree (λ x. q x && p x) (λ x. p x && q x) (λ x. and_swap (q x) (p x)) xs ∙ sym (filter-filter q p xs)
  where
    and_swap : (a b : Bool) → (a && b) ≡ (b && a)
    and_swap true true = refl
    and_swap true false = refl
    and_swap false true = refl
    and_swap false false = refl

module _ (c : Config) (h : List Entry) (d : Did) (legal : Legal c h) (given : Given c h d) where
  -- a task of an entry that submits none is of the groups that it was of
  group_stays : is_submit d ≡ false → (g t : ℕ) → is_in (next (state c h) d) g t ≡ is_in (state c h) g t
  group_stays old g t =
      ap (λ r. is_of_group g r.kind) (row_next c h d legal given t)
      ∙ ap (λ o. is_of_group g (unwrap_or o (task_at (state c h) t).kind)) (kind_unsaid d t old)

  -- what is done of each group, by the list over all groups
  done_by : is_submit d ≡ false → (xs : List ℕ) → (next (state c h) d).done ≡ xs → (g : ℕ) → done_of (next (state c h) d) g ≡ filter (is_in (state c h) g) xs
  done_by old xs is g =
      ap (filter (is_in (next (state c h) d) g)) is ∙ filter_agree (is_in (next (state c h) d) g) (is_in (state c h) g) (group_stays old g) xs

  stays_all : hands_out d ≡ [] → (xs : List ℕ) → filter (stays_done d) xs ≡ xs
  stays_all none xs = filter_agree (stays_done d) (λ t. true) (λ t. ap (λ ps. unwrap_or (said_of t ps) true) none) xs ∙ filter_all xs

  -- nothing is completed, and nothing handed out
  pub done_same : is_unfinishing d ≡ true → (g : ℕ) → done_of (next (state c h) d) g ≡ done_of (state c h) g
  done_same still = done_by (none_submitted d still) (done h)
      (ap (λ o. at_end o (filter (stays_done d) (done h))) (none_completed d (λ t. (task_at (state c h) t).kind) (λ t. (task_at (state c h) t).cancelled) still)
      ∙ stays_all (none_handed d still) (done h))

  -- t is completed, if it is of a group and b
  pub done_more : is_submit d ≡ false → hands_out d ≡ [] → (t : ℕ) (b : Bool) →
      completes d (λ x. (task_at (state c h) x).kind) (λ x. (task_at (state c h) x).cancelled) ≡ (if is_group (task_at (state c h) t).kind && b then Some t else None) →
      (b ≡ true → is_done h t ≡ false) → (g : ℕ) →
      done_of (next (state c h) d) g ≡ (if is_of_group g (task_at (state c h) t).kind && b then done_of (state c h) g ++ t ∷ [] else done_of (state c h) g)
  done_more old none t b says apart g =
      by_test (task_at (state c h) t).kind b refl apart
      (ap (λ o. at_end o (filter (stays_done d) (done h))) says ∙ ap (λ xs. at_end (if is_group (task_at (state c h) t).kind && b then Some t else None) xs) (stays_all none (done h)))
    where
      absent : is_done h t ≡ false → without t (done h) ≡ done h
      absent is = without_absent t (done h) (among-done h t ∙ is)

      pushed : (b : Bool) → (b ≡ true → is_done h t ≡ false) → b ≡ true → (next (state c h) d).done ≡ at_end (Some t) (done h) → (k : Kind) → (task_at (state c h) t).kind ≡ k →
          done_of (next (state c h) d) g ≡ cond (is_of_group g k) (done_of (state c h) g ++ t ∷ []) (done_of (state c h) g)
      pushed b apart is list k kind =
          done_by old (done h ++ t ∷ []) (list ∙ ap (λ xs. xs ++ t ∷ []) (absent (apart is))) g
          ∙ filter-append (is_in (state c h) g) (done h) (t ∷ [])
          ∙ ap (λ x. filter (is_in (state c h) g) (done h) ++ cond (is_of_group g x) (t ∷ []) []) kind
          ∙ tail (is_of_group g k)
        where
          tail : (a : Bool) → filter (is_in (state c h) g) (done h) ++ cond a (t ∷ []) [] ≡ cond a (done_of (state c h) g ++ t ∷ []) (done_of (state c h) g)
          tail true = refl
          tail false = append-nil (filter (is_in (state c h) g) (done h))

      by_test : (k : Kind) (b : Bool) → (task_at (state c h) t).kind ≡ k → (b ≡ true → is_done h t ≡ false) → (next (state c h) d).done ≡ at_end (if is_group k && b then Some t else None) (done h) →
          done_of (next (state c h) d) g ≡ (if is_of_group g k && b then done_of (state c h) g ++ t ∷ [] else done_of (state c h) g)
      by_test kinds.Plain b kind apart list = done_by old (done h) list g
      by_test kinds.Future b kind apart list = done_by old (done h) list g
      by_test (kinds.Group n) true kind apart list = pushed true apart refl list (kinds.Group n) kind ∙ last (n == g)
        where
          last : (a : Bool) → cond a (done_of (state c h) g ++ t ∷ []) (done_of (state c h) g) ≡ cond (a && true) (done_of (state c h) g ++ t ∷ []) (done_of (state c h) g)
          last true = refl
          last false = refl
      by_test (kinds.Group n) false kind apart list = done_by old (done h) list g ∙ last (n == g)
        where
          last : (a : Bool) → done_of (state c h) g ≡ cond (a && false) (done_of (state c h) g ++ t ∷ []) (done_of (state c h) g)
          last true = refl
          last false = refl

-- a submission completes nothing
pub done_submit : (c : Config) (h : List Entry) (t : TaskId) (k : Kind) (p : ℕ) (l : Looked) (legal : Legal c h) (given : Given c h (did.Submit t k p l)) →
    (g : ℕ) → done_of (next (state c h) (did.Submit t k p l)) g ≡ done_of (state c h) g
done_submit c h t k p l legal given g =
    filter-filter (is_in (next (state c h) d) g) (stays_done d) (done h)
    ∙ filter-filter_agree (is_done h) (λ x. stays_done d x && is_in (next (state c h) d) g x) (is_in (state c h) g) same (completed h)
  where
    d : Did
    d = did.Submit t k p l

    same : (x : ℕ) → is_done h x ≡ true → (stays_done (did.Submit t k p l) x && is_in (next (state c h) (did.Submit t k p l)) g x) ≡ is_in (state c h) g x
    same x is =
        let below = done_known c h (told_legal c h legal) x is in
        let number = given.0 in
        let ne : x ≡ t.0 → ⊥ = λ e. absurd (omega arith) in
        ap (λ r. stays_done (did.Submit t k p l) x && is_of_group g r.kind) (row_next c h (did.Submit t k p l) legal given x) ∙ rw (ne_eqb x t.0 ne) refl

-- a completion is handed out
pub done_taken : (c : Config) (h : List Entry) (n : ℕ) (t : TaskId) (legal : Legal c h) (given : Given c h (did.TakeDone n t)) →
    (g : ℕ) → done_of (next (state c h) (did.TakeDone n t)) g ≡ (if g == n then drop 1 (done_of (state c h) g) else done_of (state c h) g)
done_taken c h n t legal given g =
    done_by c h (did.TakeDone n t) legal given refl (without t.0 (done h)) (filter_agree (stays_done (did.TakeDone n t)) (λ x. not (x == t.0)) (λ x. by_test (x == t.0)) (done h)) g
    ∙ filter_swap (is_in (state c h) g) (λ x. not (x == t.0)) (done h)
    ∙ elim (cases_eq g n) [
      | inl same ↦ rw (eq-eqb g n same) (without_head t.0 (done_of (state c h) g) given.0 (once-filter (is_in (state c h) g) (done h) (once-done h)) (ap (done_of (state c h)) same ∙ given.1))
      | inr ne ↦ rw (ne_eqb g n ne) (without_absent t.0 (done_of (state c h) g) (among-filter t.0 (is_in (state c h) g) (done h) ∙ ap (λ b. b && is_among t.0 (done h)) (off ne)))
    ]
  where
    by_test : (b : Bool) → unwrap_or (cond b (Some false) None) true ≡ not b
    by_test true = refl
    by_test false = refl

    there : is_in (state c h) n t.0 ≡ true
    there = passes (is_in (state c h) n) (done h) t.0 (ap (is_among t.0) given.1 ∙ rw (eq-eqb t.0 t.0 refl) refl)
      where
        passes : (p : ℕ → Bool) (xs : List ℕ) (x : ℕ) → is_among x (filter p xs) ≡ true → p x ≡ true
        passes p xs x is = (and_parts (p x) (is_among x xs) (sym (among-filter x p xs) ∙ is)).0

    off : (g ≡ n → ⊥) → is_in (state c h) g t.0 ≡ false
    off ne = other (task_at (state c h) t.0).kind there
      where
        other : (k : Kind) → is_of_group n k ≡ true → is_of_group g k ≡ false
        other k is = grind (arith, nat_tests)
