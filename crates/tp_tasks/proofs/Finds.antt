-- A row is counted where its task is found, and a count that is not 0 counts a task that is found.
use Rattle.std.proofs.Common.{◌≡◌, ℕ, zero, suc, ◌+◌, ◌<◌, Bool, true, false, cond, List, [], ◌∷◌, length, Option, Some, None, is_some, refl, sym, ap, subst, ◌∙◌, arith, ◌⊎◌, inl, inr}
use Rattle.std.specs.Prelude.{nat_eq, slice_get}
use Rattle.std.specs.List.{sum_by}
use Rattle.std.specs.Map.{values_of, lookup}
use Rattle.std.proofs.lemmas.Bool.{eqb-true, false≢true}
use Rattle.std.proofs.lemmas.Cmp.{nat_eq_equiv}
use Rattle.std.proofs.lemmas.List.Sums.{sum_by-cons}
use Rattle.std.proofs.lemmas.Map.Entries.{hash_map_get_place}
use Rattle.std.proofs.lemmas.Option.{none-some, same_Some}
use Rattle.indexmap.specs.IndexMap.{get}
use Rattle.tp_record.specs.declared.rows.TaskRow.{TaskRow}
use Rattle.tp_tasks.specs.declared.homes.Home.{Home}
use Rattle.tp_tasks.specs.declared.homes.Rows.{Rows}
use Rattle.tp_tasks.specs.declared.table.KeptTask.{KeptTask}
use Rattle.tp_tasks.specs.Homes.{home_of, held, holder, home_passes, home_at, or_beside, home_count, beside_count}
use Rattle.tp_tasks.specs.Table.{task_in, row_count}
use Rattle.tp_tasks.proofs.AtHome.{one, held_same}

more : (m n : ℕ) → 0 < n → 0 < m + n
more m n some = omega (arith, some)

some_of : (m n : ℕ) → 0 < m + n → (0 < m) ⊎ (0 < n)
some_of zero n some = inr (omega (arith, some))
some_of (suc m) n some = inl (omega arith)

module _ {P : Type 0} (p : TaskRow → Bool) where
  -- a task that passes is counted
  found_counts : (test : ℕ → Bool) (es : List (ℕ × KeptTask P)) (v : KeptTask P) → lookup test es ≡ Some v → p v.row ≡ true → 0 < sum_by (λ (k : KeptTask P). one (p k.row)) (values_of es)
  found_counts test [] v found pass = absurd (none-some v found)
  found_counts test (e ∷ es) v found pass =
      let f : KeptTask P → ℕ = λ k. one (p k.row) in
      subst (λ n. 0 < n) (sym (sum_by-cons f e.1 (values_of es))) (by (test e.0) refl (found_counts test es v))
    where
      by : (b : Bool) → test e.0 ≡ b → (lookup test es ≡ Some v → p v.row ≡ true → 0 < sum_by (λ (k : KeptTask P). one (p k.row)) (values_of es)) →
          0 < one (p e.1.row) + sum_by (λ (k : KeptTask P). one (p k.row)) (values_of es)
      by true is rest =
          let same : e.1 ≡ v = same_Some e.1 v (sym (ap (λ b. cond b (Some e.1) (lookup test es)) is) ∙ found) in
          let once : one (p e.1.row) ≡ 1 = ap (λ (k : KeptTask P). one (p k.row)) same ∙ ap one pass in
          omega (arith, once)
      by false is rest = more (one (p e.1.row)) _ (rest (sym (ap (λ b. cond b (Some e.1) (lookup test es)) is) ∙ found) pass)

  home_counts : (homes : List (Option (Home P))) (i : ℕ) → home_passes p (home_at homes i) ≡ true → 0 < home_count p homes
  home_counts [] i pass = absurd (false≢true pass)
  home_counts (o ∷ os) zero pass =
      let all = sum_by-cons (λ h. one (home_passes p h)) o os in
      let once = ap one pass in
      omega (arith, all, once)
  home_counts (o ∷ os) (suc i) pass =
      let all = sum_by-cons (λ h. one (home_passes p h)) o os in
      let rest = home_counts os i pass in
      omega (arith, all, rest)

  -- a count that is not 0 counts a task that passes
  counts_found : (es : List (ℕ × KeptTask P)) → 0 < sum_by (λ (k : KeptTask P). one (p k.row)) (values_of es) → (i : ℕ) × (t : ℕ) × (v : KeptTask P) × (slice_get es i ≡ Some (t, v)) × (p v.row ≡ true)
  counts_found [] some = absurd (omega (arith, some))
  counts_found (e ∷ es) some = by (p e.1.row) refl (counts_found es)
    where
      by : (b : Bool) → p e.1.row ≡ b → (0 < sum_by (λ (k : KeptTask P). one (p k.row)) (values_of es) → (i : ℕ) × (t : ℕ) × (v : KeptTask P) × (slice_get es i ≡ Some (t, v)) × (p v.row ≡ true)) →
          (i : ℕ) × (t : ℕ) × (v : KeptTask P) × (slice_get (e ∷ es) i ≡ Some (t, v)) × (p v.row ≡ true)
      by true is rest = (0, e.0, e.1, refl, is)
      by false is rest =
          let all = sum_by-cons (λ (k : KeptTask P). one (p k.row)) e.1 (values_of es) in
          let none : one (p e.1.row) ≡ 0 = ap one is in
          let later = rest (omega (arith, all, none, some)) in
          (suc later.0, later.1, later.2, later.3, later.4)

  home_found : (homes : List (Option (Home P))) → 0 < home_count p homes → (i : ℕ) × (home_passes p (home_at homes i) ≡ true)
  home_found [] some = absurd (omega (arith, some))
  home_found (o ∷ os) some = by (home_passes p o) refl (home_found os)
    where
      by : (b : Bool) → home_passes p o ≡ b → (0 < home_count p os → (i : ℕ) × (home_passes p (home_at os i) ≡ true)) → (i : ℕ) × (home_passes p (home_at (o ∷ os) i) ≡ true)
      by true is rest = (0, is)
      by false is rest =
          let all = sum_by-cons (λ h. one (home_passes p h)) o os in
          let none : one (home_passes p o) ≡ 0 = ap one is in
          let later = rest (omega (arith, all, none, some)) in
          (suc later.0, later.1)

  -- what passes at a home, or is found there
  passing : (o : Option (Home P)) → home_passes p o ≡ true → (h : Home P) × (o ≡ Some h) × (p h.task.row ≡ true)
  passing None pass = absurd (false≢true pass)
  passing (Some h) pass = (h, refl, pass)

module _ {P : Type 0} where
  pub holding : (t : ℕ) (o : Option (Home P)) (v : KeptTask P) → held t o ≡ Some v → (h : Home P) × (o ≡ Some h) × (h.number ≡ t) × (h.task ≡ v)
  holding t None v e = absurd (none-some v e)
  holding t (Some h) v e = by (nat_eq h.number t) refl e
    where
      by : (b : Bool) → nat_eq h.number t ≡ b → cond b (Some h.task) None ≡ Some v → (k : Home P) × (Some h ≡ Some k) × (k.number ≡ t) × (k.task ≡ v)
      by true is e = (h, refl, eqb-true h.number t is, same_Some h.task v e)
      by false is e = absurd (none-some v e)

  -- a task is found at its home, or beside
  pub placed_of : (o x : Option (KeptTask P)) (v : KeptTask P) → or_beside o x ≡ Some v → (o ≡ Some v) ⊎ (x ≡ Some v)
  placed_of None x v e = inr e
  placed_of (Some k) x v e = inl e

  -- and what lies at a home, or beside, is found
  pub home_task : (m : Rows P) (i : ℕ) (h : Home P) → home_at m.homes.items i ≡ Some h → task_in m h.number ≡ Some h.task
  unfolding task_in
  home_task m i h is = ap (λ o. or_beside o (get nat_eq m.beside h.number))
      (ap (λ j. held h.number (home_at m.homes.items j)) (m.placed i h.number (ap holder is)) ∙ ap (held h.number) is ∙ held_same h h.number refl)

  pub beside_task : (m : Rows P) (t : ℕ) (v : KeptTask P) → get nat_eq m.beside t ≡ Some v → task_in m t ≡ Some v
  unfolding task_in
  beside_task m t v is = by (held t (home_at m.homes.items (home_of (length m.homes.items) t))) refl
    where
      by : (o : Option (KeptTask P)) → held t (home_at m.homes.items (home_of (length m.homes.items) t)) ≡ o → or_beside o (get nat_eq m.beside t) ≡ Some v
      by None none = is
      by (Some k) there =
          let h = holding t (home_at m.homes.items (home_of (length m.homes.items) t)) k there in
          absurd (false≢true (sym (m.apart (home_of (length m.homes.items) t) t (ap holder h.1 ∙ ap (λ n. Some n) h.2)) ∙ ap is_some is))

  pub task_counts : (p : TaskRow → Bool) (m : Rows P) (t : ℕ) (v : KeptTask P) → task_in m t ≡ Some v → p v.row ≡ true → 0 < row_count p m
  unfolding task_in
  task_counts p m t v is pass = elim (placed_of (held t (home_at m.homes.items (home_of (length m.homes.items) t))) (get nat_eq m.beside t) v is) [
    | inl home ↦
        let h = holding t _ v home in
        let some = home_counts p m.homes.items _ (ap (home_passes p) h.1 ∙ ap (λ (k : KeptTask P). p k.row) h.3 ∙ pass) in
        omega (arith, some)
    | inr beside ↦ more (home_count p m.homes.items) _ (found_counts p (nat_eq t) m.beside.entries v beside pass)
  ]

  pub counts_task : (p : TaskRow → Bool) (m : Rows P) → 0 < row_count p m → (t : ℕ) × (v : KeptTask P) × (task_in m t ≡ Some v) × (p v.row ≡ true)
  counts_task p m some = elim (some_of (home_count p m.homes.items) (beside_count p m.beside) some) [
    | inl home ↦
        let at = home_found p m.homes.items home in
        let h = passing p (home_at m.homes.items at.0) at.1 in
        (h.0.number, h.0.task, home_task m at.0 h.0 h.1, h.2)
    | inr beside ↦
        let at = counts_found p m.beside.entries beside in
        (at.1, at.2, beside_task m at.1 at.2 (hash_map_get_place nat_eq_equiv m.beside at.0 at.1 at.2 m.unique at.3), at.4)
  ]
