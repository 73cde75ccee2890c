-- What a write at a task's home leaves of the tasks, and what a write beside leaves.
use Rattle.std.proofs.Common.{◌≡◌, ℕ, zero, suc, ◌+◌, ◌-◌, ◌%◌, ◌^◌, ◌<◌, ◌≤◌, Bool, true, false, cond, List, [], ◌∷◌, ◌++◌, length, set, get_or, replicate, Option, Some, None, Result, Ok, Err, OnOk, OnErr, is_some, refl, sym, ap, subst, ◌∙◌, arith, inl, inr}
use Rattle.std.specs.Prelude.{nat_eq, slice_get, bit_and}
use Rattle.std.specs.List.{sum_by}
use Rattle.std.proofs.lemmas.Bool.{cases_eq, ne_eqb, eq-eqb, eqb-true, false≢true}
use Rattle.std.proofs.lemmas.List.{length-append, length-set, length-replicate, get_or-set_same, get_or-set_other}
use Rattle.std.proofs.lemmas.List.Folds.{sum_by-replicate}
use Rattle.std.proofs.lemmas.List.Sums.{sum_by-set, sum_by-le-sum_by}
use Rattle.std.proofs.lemmas.Nat.{and_mask, pow_pos}
use Rattle.std.proofs.Math.Logic.{∥∥₁_elim}
use Rattle.std.proofs.Math.Nat.{mod-zero, ℕ_set}
use Rattle.std.proofs.lemmas.Option.{none-some, same_Some, get_or_from_slice_get, slice_get_within}
use Rattle.std.specs.declared.hash.BuildHasherDefault.{BuildHasherDefault}
use Rattle.std.specs.declared.hash.FoldHasher.{FoldHasher}
use Rattle.std.specs.Map.{values_of}
use Rattle.std.proofs.lemmas.Map.Entries.{sum_by-set_value}
use Rattle.indexmap.specs.IndexMap.{IndexMap, get, WritesThrough, UpdatesBy, swap_remove_entry, insert_entry}
use Rattle.indexmap.proofs.CallerLemmas.{insert_entry-new}
use Rattle.tp_record.specs.declared.rows.TaskRow.{TaskRow}
use Rattle.tp_tasks.specs.declared.homes.Home.{Home}
use Rattle.tp_tasks.specs.declared.homes.Rows.{Rows}
use Rattle.tp_tasks.specs.declared.table.KeptTask.{KeptTask}
use Rattle.tp_tasks.specs.Homes.{home_of, IsSize, is_purgeable, held, holder, home_passes, is_free, is_held, home_at, or_beside, found, home_count, beside_count, ArePlaced, AreApart, AreKept}
use Rattle.tp_tasks.proofs.Counts.{count-put, count-removed}
use Rattle.tp_tasks.specs.Table.{row_of_task, task_in, row_in, row_count}

abbrev pub one : Bool → ℕ
one b = cond b 1 0

-- no more rows pass a test than there are
module _ {P S : Type 0} where
  pass_few : (p : TaskRow → Bool) (homes : List (Option (Home P))) (beside : IndexMap ℕ (KeptTask P) S) → home_count p homes + beside_count p beside ≤ home_count (λ _. true) homes + beside_count (λ _. true) beside
  pass_few p homes beside =
      let at_homes = sum_by-le-sum_by (λ h. one (home_passes p h)) (λ h. one (home_passes (λ _. true) h)) homes at_home in
      let others = sum_by-le-sum_by (λ (k : KeptTask P). one (p k.row)) (λ k. one true) (values_of beside.entries) (λ k. short (p k.row)) in
      omega (arith, at_homes, others)
    where
      short : (b : Bool) → one b ≤ 1
      short true = omega arith
      short false = omega arith

      at_home : (h : Option (Home P)) → one (home_passes p h) ≤ one (home_passes (λ _. true) h)
      at_home None = omega arith
      at_home (Some h) = short (p h.task.row)

module _ {P : Type 0} (m : Rows P) where
  -- so a purge takes no more tasks than are kept
  pub purged_few : m.purgeable < 2 ^ 32
  purged_few =
      let few = pass_few is_purgeable m.homes.items m.beside in
      let all = m.counted in
      let taken = m.purged in
      let small = m.small in
      omega (arith, few, all, taken, small)

  -- also after a write to a task
  pub recounted_few : (homes : List (Option (Home P))) (beside : IndexMap ℕ (KeptTask P) (BuildHasherDefault FoldHasher)) (before after : Bool) →
      home_count is_purgeable homes + beside_count is_purgeable beside + one before ≡ m.purgeable + one after → home_count (λ _. true) homes + beside_count (λ _. true) beside ≡ m.count →
      m.purgeable + one after < 2 ^ 32 + one before
  recounted_few homes beside before after sum all =
      let few = pass_few is_purgeable homes beside in
      let small = m.small in
      omega (arith, few, sum, all, small)

-- the low bits of a number are what is left of it
pub low_bits : (n t : ℕ) → IsSize n → n < 2 ^ 64 → t < 2 ^ 32 → bit_and t ((n + 18446744073709551615) % 18446744073709551616) ≡ home_of n t
low_bits n t size small fits = ∥∥₁_elim size (ℕ_set (bit_and t ((n + 18446744073709551615) % 18446744073709551616)) (home_of n t)) (λ cases. elim cases [
  | inl none ↦ ap (λ k. bit_and t ((k + 18446744073709551615) % 18446744073709551616)) none ∙ and_mask t 64 ∙ whole ∙ sym (mod-zero t) ∙ ap (λ k. t % k) (sym none)
  | inr power ↦ ap (bit_and t) (less power.0 power.1) ∙ and_mask t power.0 ∙ ap (λ k. t % k) (sym power.1)
])
  where
    whole : t % 2 ^ 64 ≡ t
    whole = omega (arith, fits)

    less : (bits : ℕ) → n ≡ 2 ^ bits → (n + 18446744073709551615) % 18446744073709551616 ≡ 2 ^ bits - 1
    less bits e = let some = pow_pos bits in omega (arith, e, small, some)

pub is_nil : {X : Type 0} (xs : List X) → length xs ≡ 0 → xs ≡ []
is_nil [] e = refl
is_nil (x ∷ xs) e = absurd (omega (arith, e))

-- homes that are free
module _ {P : Type 0} where
  pub free_at : (n i : ℕ) → home_at {P = P} (replicate {A = Option (Home P)} n None) i ≡ None
  free_at zero i = refl
  free_at (suc n) zero = refl
  free_at (suc n) (suc i) = free_at n i

  pub count_free : (p : TaskRow → Bool) (n : ℕ) (hs : List (Option (Home P))) → hs ≡ replicate n None → home_count p hs ≡ 0
  count_free p n hs is =
      let sum = ap (home_count p) is ∙ sum_by-replicate (λ (h : Option (Home P)). one (home_passes p h)) n None in
      omega (arith, sum)

  module _ {S : Type 0} (homes : List (Option (Home P))) (n : ℕ) (free : homes ≡ replicate n None) (beside : IndexMap ℕ (KeptTask P) S) where
    no_holder : (i t : ℕ) → holder (home_at homes i) ≡ Some t → ⊥
    no_holder i t e = none-some t (sym (ap (λ hs. holder (home_at hs i)) free ∙ ap holder (free_at n i)) ∙ e)

    pub sized_free : IsSize n → IsSize (length homes)
    sized_free size = subst IsSize (sym (ap length free ∙ length-replicate n None)) size

    pub placed_free : ArePlaced homes
    placed_free i t e = absurd (no_holder i t e)

    pub found_free : (t : ℕ) → found homes beside t ≡ get nat_eq beside t
    found_free t = ap (λ o. or_beside o (get nat_eq beside t)) (ap (λ hs. held t (home_at hs (home_of (length homes) t))) free ∙ ap (held t) (free_at n (home_of (length homes) t)))

    pub apart_free : AreApart homes beside
    apart_free i t e = absurd (no_holder i t e)

  -- where there was no home, so many are made, or none
  pub made_free : {T E : Type 0} (old new : List (Option (Home P))) (n : ℕ) (made : Result T E) → old ≡ [] → IsSize n → OnOk made (new ≡ old ++ replicate n None) → OnErr made (new ≡ old) → (k : ℕ) × IsSize k × (new ≡ replicate k None) × (k ≤ n)
  made_free old new n (Ok x) none size added same = (n, size, added ∙ ap (λ hs. hs ++ replicate n None) none, omega arith)
  made_free old new n (Err e) none size added same = (0, ∣ inl refl ∣₁, same ∙ none, omega arith)

module _ {P : Type 0} where
  pub a_task : (o : Option (KeptTask P)) → is_some o ≡ true → (v : KeptTask P) × (o ≡ Some v)
  a_task None e = absurd (false≢true e)
  a_task (Some v) e = (v, refl)

  pub is_nothing : (o : Option (KeptTask P)) → is_some o ≡ false → o ≡ None
  is_nothing None e = refl
  is_nothing (Some v) e = absurd (false≢true (sym e))

  -- a task that is not kept lies at no home, nor beside
  neither : (o x : Option (KeptTask P)) → or_beside o x ≡ None → (o ≡ None) × (x ≡ None)
  neither None x e = (refl, e)
  neither (Some v) x e = absurd (none-some v (sym e))

  pub is_taken : (t : ℕ) (o : Option (Option (Home P))) → is_held t o ≡ true → (h : Home P) × (o ≡ Some (Some h)) × (h.number ≡ t)
  is_taken t None e = absurd (false≢true e)
  is_taken t (Some None) e = absurd (false≢true e)
  is_taken t (Some (Some h)) e = (h, refl, eqb-true h.number t e)

  pub is_vacant : (o : Option (Option (Home P))) → is_free o ≡ true → o ≡ Some None
  is_vacant None e = absurd (false≢true e)
  is_vacant (Some None) e = refl
  is_vacant (Some (Some h)) e = absurd (false≢true e)

  -- what is lent of a home that holds the task
  pub lent : (homes : List (Option (Home P))) (i t : ℕ) (d : Option (Home P)) → is_held t (slice_get homes i) ≡ true → d ≡ get_or homes i d → (h : Home P) × (d ≡ Some h) × (slice_get homes i ≡ Some (Some h)) × (h.number ≡ t)
  lent homes i t d is value = let x = is_taken t (slice_get homes i) is in (x.0, value ∙ get_or_from_slice_get homes i (Some x.0) d x.1, x.1, x.2)

  pub lent_home : (homes : List (Option (Home P))) (i t : ℕ) (d : Option (Home P)) → is_held t (slice_get homes i) ≡ true → d ≡ get_or homes i d → (h : Home P) → d ≡ Some h → (slice_get homes i ≡ Some (Some h)) × (h.number ≡ t)
  lent_home homes i t d is value h some =
      let x = lent homes i t d is value in
      subst (λ k. (slice_get homes i ≡ Some (Some k)) × (k.number ≡ t)) (same_Some x.0 h (sym x.1 ∙ some)) (x.2, x.3)

  pub here : (homes : List (Option (Home P))) (i : ℕ) (o : Option (Home P)) → slice_get homes i ≡ Some o → home_at homes i ≡ o
  here homes i o there = get_or_from_slice_get homes i o None there

  -- what is not held there does not lie there
  pub not_held : (homes : List (Option (Home P))) (i t : ℕ) → is_held t (slice_get homes i) ≡ false → held t (home_at homes i) ≡ None
  not_held [] i t e = refl
  not_held (h ∷ hs) (suc i) t e = not_held hs i t e
  not_held (None ∷ hs) zero t e = refl
  not_held (Some h ∷ hs) zero t e = ap (λ b. cond b (Some h.task) None) e

  pub held_same : (h : Home P) (t : ℕ) → h.number ≡ t → held t (Some h) ≡ Some h.task
  held_same h t e = ap (λ b. cond b (Some h.task) None) (eq-eqb h.number t e)

  pub held_other : (h : Home P) (t u : ℕ) → h.number ≡ t → nat_eq t u ≡ false → held u (Some h) ≡ None
  held_other h t u e ne = ap (λ n. cond (nat_eq n u) (Some h.task) None) e ∙ ap (λ b. cond b (Some h.task) None) ne

  -- where no other task than t lies
  held_none : (t : ℕ) (o : Option (Home P)) → ((u : ℕ) → holder o ≡ Some u → t ≡ u) → (u : ℕ) → nat_eq t u ≡ false → held u o ≡ None
  held_none t None only u ne = refl
  held_none t (Some h) only u ne = held_other h t u (sym (only h.number refl)) ne

  -- a task whose number is that of a home is held there
  pub holds : (o : Option (Home P)) (t : ℕ) → holder o ≡ Some t → (v : KeptTask P) × (held t o ≡ Some v)
  holds None t e = absurd (none-some t e)
  holds (Some h) t e = (h.task, held_same h t (same_Some h.number t e))

  module _ (homes : List (Option (Home P))) (i : ℕ) (o : Option (Home P)) (within : i < length homes) where
    at_same : (j : ℕ) → j ≡ i → home_at (set homes i o) j ≡ o
    at_same j e = ap (home_at (set homes i o)) e ∙ get_or-set_same homes i o None within

    at_other : (j : ℕ) → (j ≡ i → ⊥) → home_at (set homes i o) j ≡ home_at homes j
    at_other j ne = get_or-set_other homes i j o None ne

    home_same : (t : ℕ) → home_of (length (set homes i o)) t ≡ home_of (length homes) t
    home_same t = ap (λ n. home_of n t) (length-set homes i o)

    -- what lies at its home after the write
    pub held_here : (t : ℕ) → home_of (length homes) t ≡ i → held t (home_at (set homes i o) (home_of (length (set homes i o)) t)) ≡ held t o
    held_here t e = ap (held t) (at_same _ (home_same t ∙ e))

    pub held_beyond : (t : ℕ) → ((u : ℕ) → nat_eq t u ≡ false → held u o ≡ held u (home_at homes i)) → (u : ℕ) → nat_eq t u ≡ false →
        held u (home_at (set homes i o) (home_of (length (set homes i o)) u)) ≡ held u (home_at homes (home_of (length homes) u))
    held_beyond t same u ne = ap (λ j. held u (home_at (set homes i o) j)) (home_same u) ∙ elim (cases_eq (home_of (length homes) u) i) [
      | inl e ↦ ap (held u) (at_same _ e) ∙ same u ne ∙ ap (λ j. held u (home_at homes j)) (sym e)
      | inr apart ↦ ap (held u) (at_other _ apart)
    ]

    pub count_set : (p : TaskRow → Bool) → home_count p (set homes i o) + one (home_passes p (home_at homes i)) ≡ home_count p homes + one (home_passes p o)
    count_set p = sum_by-set (λ h. one (home_passes p h)) homes i o None within

    pub placed_set : ((t : ℕ) → holder o ≡ Some t → home_of (length homes) t ≡ i) → ArePlaced homes → ArePlaced (set homes i o)
    placed_set new placed j t e = home_same t ∙ elim (cases_eq j i) [
      | inl same ↦ new t (sym (ap holder (at_same j same)) ∙ e) ∙ sym same
      | inr apart ↦ placed j t (sym (ap holder (at_other j apart)) ∙ e)
    ]

    pub apart_set : {S : Type 0} (beside : IndexMap ℕ (KeptTask P) S) → ((t : ℕ) → holder o ≡ Some t → is_some (get nat_eq beside t) ≡ false) → AreApart homes beside → AreApart (set homes i o) beside
    apart_set beside new are j t e = elim (cases_eq j i) [
      | inl same ↦ new t (sym (ap holder (at_same j same)) ∙ e)
      | inr apart ↦ are j t (sym (ap holder (at_other j apart)) ∙ e)
    ]

  -- a task that does not lie at its home lies at none
  pub nowhere : (homes : List (Option (Home P))) → ArePlaced homes → (t : ℕ) → held t (home_at homes (home_of (length homes) t)) ≡ None → (i : ℕ) → holder (home_at homes i) ≡ Some t → ⊥
  nowhere homes placed t away i e =
      let there = holds (home_at homes i) t e in
      none-some there.0 (sym away ∙ ap (λ j. held t (home_at homes j)) (placed i t e) ∙ there.1)

  -- so what is written beside for it keeps the two places apart
  pub apart_beside : {S : Type 0} (homes : List (Option (Home P))) (old new : IndexMap ℕ (KeptTask P) S) (t : ℕ) → ArePlaced homes → held t (home_at homes (home_of (length homes) t)) ≡ None →
      ((u : ℕ) → nat_eq t u ≡ false → get nat_eq new u ≡ get nat_eq old u) → AreApart homes old → AreApart homes new
  apart_beside homes old new t placed away others are i u e = elim (cases_eq t u) [
    | inl same ↦ absurd (nowhere homes placed t away i (e ∙ ap (λ x. Some x) (sym same)))
    | inr apart ↦ ap is_some (others u (ne_eqb t u apart)) ∙ are i u e
  ]

  pub found_beside : {S : Type 0} (homes : List (Option (Home P))) (beside : IndexMap ℕ (KeptTask P) S) (t : ℕ) → held t (home_at homes (home_of (length homes) t)) ≡ None → found homes beside t ≡ get nat_eq beside t
  found_beside homes beside t away = ap (λ o. or_beside o (get nat_eq beside t)) away

-- a table in which `o` lies at the home of task t, where `was` lay
pub record IsWritten {P : Type 0} (m : Rows P) (t : ℕ) (homes : List (Option (Home P))) (was o : Option (Home P)) : Type 0 where
  pub len : length homes ≡ length m.homes.items
  pub sized : IsSize (length homes)
  pub placed : ArePlaced homes
  pub apart : AreApart homes m.beside
  pub task : found homes m.beside t ≡ or_beside (held t o) (get nat_eq m.beside t)
  pub others : (u : ℕ) → nat_eq t u ≡ false → found homes m.beside u ≡ task_in m u
  pub count : (p : TaskRow → Bool) → home_count p homes + one (home_passes p was) ≡ home_count p m.homes.items + one (home_passes p o)

module _ {P : Type 0} (m : Rows P) (t i : ℕ) (is : i ≡ home_of (length m.homes.items) t) where
  home_written : (was o : Option (Home P)) → slice_get m.homes.items i ≡ Some was → ((u : ℕ) → holder was ≡ Some u → t ≡ u) → ((u : ℕ) → holder o ≡ Some u → t ≡ u) →
      is_some (get nat_eq m.beside t) ≡ false → IsWritten m t (set m.homes.items i o) was o
  unfolding task_in
  home_written was o there before after alone =
      let within = slice_get_within m.homes.items i was there in
      let lay = here m.homes.items i was there in
      record {
        len = length-set m.homes.items i o;
        sized = subst IsSize (sym (length-set m.homes.items i o)) m.sized;
        placed = placed_set m.homes.items i o within (λ u e. ap (home_of (length m.homes.items)) (sym (after u e)) ∙ sym is) m.placed;
        apart = apart_set m.homes.items i o within m.beside (λ u e. ap (λ x. is_some (get nat_eq m.beside x)) (sym (after u e)) ∙ alone) m.apart;
        task = ap (λ x. or_beside x (get nat_eq m.beside t)) (held_here m.homes.items i o within t (sym is));
        others = λ u ne. ap (λ x. or_beside x (get nat_eq m.beside u))
            (held_beyond m.homes.items i o within t (λ x apart. held_none t o after x apart ∙ sym (ap (held x) lay ∙ held_none t was before x apart)) u ne);
        count = λ p.
            let sum = count_set m.homes.items i o within p in
            let is = ap (λ x. one (home_passes p x)) lay in
            omega (arith, sum, is);
      }

  -- a new task lies at its home
  pub put_home : slice_get m.homes.items i ≡ Some None → task_in m t ≡ None → (w : KeptTask P) → IsWritten m t (set m.homes.items i (Some (record { number = t; task = w }))) None (Some (record { number = t; task = w }))
  unfolding task_in
  put_home free absent w = home_written None (Some (record { number = t; task = w })) free (λ u e. absurd (none-some u e)) (λ u e. same_Some t u e) (ap is_some (neither (held t (home_at m.homes.items (home_of (length m.homes.items) t))) (get nat_eq m.beside t) absent).1)

  module _ (h : Home P) (there : slice_get m.homes.items i ≡ Some (Some h)) (number : h.number ≡ t) where
    only : (u : ℕ) → Some h.number ≡ Some u → t ≡ u
    only u e = sym number ∙ same_Some h.number u e

    pub alone : is_some (get nat_eq m.beside t) ≡ false
    alone = m.apart i t (ap holder (here m.homes.items i (Some h) there) ∙ ap (λ n. Some n) number)

    -- a task at its home is found
    pub found_home : task_in m t ≡ Some h.task
    unfolding task_in
    found_home = ap (λ o. or_beside o (get nat_eq m.beside t))
        (ap (λ j. held t (home_at m.homes.items j)) (sym is) ∙ ap (held t) (here m.homes.items i (Some h) there) ∙ held_same h t number)

    -- what is kept of it is written
    pub change_home : (w : KeptTask P) → IsWritten m t (set m.homes.items i (Some (record { number = h.number; task = w }))) (Some h) (Some (record { number = h.number; task = w }))
    change_home w = home_written (Some h) (Some (record { number = h.number; task = w })) there only only alone

    -- it is forgotten
    pub remove_home : IsWritten m t (set m.homes.items i None) (Some h) None
    remove_home = home_written (Some h) None there only (λ u e. absurd (none-some u e)) alone

    pub row_home : (r : TaskRow) → row_in m t ≡ Some r → h.task.row ≡ r
    row_home r is = same_Some h.task.row r (sym (ap row_of_task found_home) ∙ is)

-- a table beside in which task t is another, or is not, where it lies at no home
module _ {P : Type 0} (m : Rows P) (t : ℕ) (away : is_held t (slice_get m.homes.items (home_of (length m.homes.items) t)) ≡ false) (beside : IndexMap ℕ (KeptTask P) (BuildHasherDefault FoldHasher)) where
  elsewhere : held t (home_at m.homes.items (home_of (length m.homes.items) t)) ≡ None
  elsewhere = not_held m.homes.items _ t away

  pub kept_beside : task_in m t ≡ get nat_eq m.beside t
  unfolding task_in
  kept_beside = found_beside m.homes.items m.beside t elsewhere

  module _ (o : Option (KeptTask P)) (updates : UpdatesBy nat_eq (nat_eq t) m.beside beside o) where
    pub apart_other : AreApart m.homes.items beside
    apart_other = apart_beside m.homes.items m.beside beside t m.placed elsewhere updates.2 m.apart

    pub task_other : found m.homes.items beside t ≡ o
    task_other = found_beside m.homes.items beside t elsewhere ∙ updates.1

    pub others_other : (u : ℕ) → nat_eq t u ≡ false → found m.homes.items beside u ≡ task_in m u
    unfolding task_in
    others_other u ne = ap (or_beside (held u (home_at m.homes.items (home_of (length m.homes.items) u)))) (updates.2 u ne)

  -- what is kept of a task beside is written
  module _ (v w : KeptTask P) (there : get nat_eq m.beside t ≡ Some v) (through : WritesThrough nat_eq (nat_eq t) m.beside w beside) where
    pub updates_through : UpdatesBy nat_eq (nat_eq t) m.beside beside (Some w)
    updates_through = through.3 (ap is_some there)

    pub count_through : (p : TaskRow → Bool) → beside_count p beside + one (p v.row) ≡ beside_count p m.beside + one (p w.row)
    count_through p = ap (λ es. sum_by (λ (k : KeptTask P). one (p k.row)) (values_of es) + one (p v.row)) through.0 ∙ sum_by-set_value (λ (k : KeptTask P). one (p k.row)) (nat_eq t) m.beside.entries v w there

  -- a task beside is forgotten
  module _ (out : beside.entries ≡ swap_remove_entry (nat_eq t) m.beside.entries) where
    pub count_out : (p : TaskRow → Bool) (r : TaskRow) → row_of_task (get nat_eq m.beside t) ≡ Some r → beside_count p beside + one (p r) ≡ beside_count p m.beside
    count_out p r is = count-removed m.beside beside t r out is p

    pub count_less : (p : TaskRow → Bool) (r : TaskRow) → row_in m t ≡ Some r → home_count p m.homes.items + beside_count p beside + one (p r) ≡ row_count p m
    count_less p r is =
        let sum = count_out p r (ap row_of_task (sym kept_beside) ∙ is) in
        omega (arith, sum)

    module _ (v : KeptTask P) (there : get nat_eq m.beside t ≡ Some v) where
      pub some_beside : 1 ≤ m.count
      some_beside =
          let sum = count_out (λ _. true) v.row (ap row_of_task there) in
          let all = m.counted in
          omega (arith, sum, all)

      pub kept_less : AreKept (m.count - 1) m.homes.items beside
      kept_less =
          let sum = count_out (λ _. true) v.row (ap row_of_task there) in
          let all = m.counted in
          omega (arith, sum, all)

  -- and one is put there
  module _ (w : KeptTask P) (entries : beside.entries ≡ insert_entry nat_eq m.beside.entries t w) (absent : task_in m t ≡ None) where
    pub count_more : (p : TaskRow → Bool) → home_count p m.homes.items + beside_count p beside ≡ row_count p m + one (p w.row)
    count_more p =
        let sum = count-put m.beside beside t w (entries ∙ insert_entry-new nat_eq m.beside t w (sym kept_beside ∙ absent)) p in
        omega (arith, sum)

    pub long_more : length beside.entries ≡ length m.beside.entries + 1
    long_more = ap length (entries ∙ insert_entry-new nat_eq m.beside t w (sym kept_beside ∙ absent)) ∙ length-append m.beside.entries ((t, w) ∷ [])

    pub kept_more : AreKept (m.count + 1) m.homes.items beside
    kept_more =
        let sum = count_more (λ _. true) in
        let all = m.counted in
        omega (arith, sum, all)
