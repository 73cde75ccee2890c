-- How many tasks are kept: as many as were submitted and are not away. How many rows pass a test: as many as a list has of their tasks.
use Rattle.std.proofs.Common.{◌≡◌, ℕ, zero, suc, ◌+◌, ◌<◌, ◌≤◌, Bool, true, false, not, ◌||◌, ◌&&◌, cond, List, [], ◌∷◌, ◌++◌, length, slice_get, is_some, Option, Some, None, arith, refl, sym, ap, ◌∙◌, inl, inr}
use mathlib.Core.Path.{ap₂}
use Rattle.std.specs.Prelude.{nat_eq}
use Rattle.std.specs.List.{IsDistinct, list_any, AllByRecursion, sum_by, filter}
use Rattle.std.specs.Map.{keys_of, values_of}
use Rattle.std.proofs.lemmas.Bool.{cases_lt, eq-eqb, eqb-true, or_cases, or_parts, true≢false, false≢true}
use Rattle.std.proofs.lemmas.List.{length-append}
use Rattle.std.proofs.lemmas.Cmp.{nat_eq_equiv}
use Rattle.std.proofs.lemmas.List.Elements.{filter-append}
use Rattle.std.proofs.lemmas.List.Folds.{list_any-append}
use Rattle.std.proofs.lemmas.List.Sums.{sum_by-cons}
use Rattle.std.proofs.lemmas.Map.Entries.{hash_map_get_place}
use Rattle.std.proofs.lemmas.Map.Made.{is_some-lookup, is_member-filter, length-from_same_keys}
use Rattle.std.proofs.lemmas.Map.Steps.{length-le_from_distinct_below, le-length_from_below}
use Rattle.std.proofs.lemmas.Option.{none-some, same_Some}
use Rattle.indexmap.specs.IndexMap.{get}
use Rattle.tp_record.specs.declared.rows.TaskRow.{TaskRow}
use Rattle.tp_record.specs.Lists.{is_among, IsOnce}
use Rattle.tp_tasks.specs.declared.homes.Home.{Home}
use Rattle.tp_tasks.specs.declared.homes.Rows.{Rows}
use Rattle.tp_tasks.specs.declared.table.KeptTask.{KeptTask}
use Rattle.tp_tasks.specs.Homes.{home_of, held, holder, home_passes, home_at, home_count}
use Rattle.tp_tasks.specs.Kept.{AreSubmitted}
use Rattle.tp_tasks.specs.Table.{row_of_task, passes, task_in, row_in, row_count, task_count}
use Rattle.tp_tasks.proofs.AtHome.{one, a_task}
use Rattle.tp_tasks.proofs.Counts.{keys_counted}
use Rattle.tp_tasks.proofs.Finds.{holding, placed_of, home_task, beside_task}

-- Lists without repetition

pub apart : (x : ℕ) (xs : List ℕ) → is_among x xs ≡ false → AllByRecursion (λ y. nat_eq x y ≡ false) xs
apart x [] out = tt
apart x (y ∷ ys) out = let parts = or_parts (nat_eq x y) (is_among x ys) out in (parts.0, apart x ys parts.1)

pub IsDistinct-once : (xs : List ℕ) → IsOnce xs → IsDistinct nat_eq xs
unfolding IsDistinct
IsDistinct-once [] once = tt
IsDistinct-once (x ∷ xs) once = (apart x xs once.0, IsDistinct-once xs once.1)

pub among_any : (x : ℕ) (xs : List ℕ) → list_any (nat_eq x) xs ≡ is_among x xs
among_any x [] = refl
among_any x (y ∷ ys) = ap (λ b. nat_eq x y || b) (among_any x ys)

all_append : (Q : ℕ → Type 0) (xs ys : List ℕ) → AllByRecursion Q xs → AllByRecursion Q ys → AllByRecursion Q (xs ++ ys)
all_append Q [] ys each more = more
all_append Q (x ∷ xs) ys each more = (each.0, all_append Q xs ys each.1 more)

pub or_true : (b : Bool) → (b || true) ≡ true
or_true true = refl
or_true false = refl

distinct_append : (ks rs : List ℕ) → IsDistinct nat_eq ks → IsDistinct nat_eq rs → ((x : ℕ) → is_among x ks ≡ true → is_among x rs ≡ false) → IsDistinct nat_eq (ks ++ rs)
unfolding IsDistinct
distinct_append [] rs first second other = second
distinct_append (k ∷ ks) rs first second other = (
  all_append (λ y. nat_eq k y ≡ false) ks rs first.0 (apart k rs (other k (ap (λ b. b || is_among k ks) (eq-eqb k k refl)))),
  distinct_append ks rs first.1 second (λ x is. other x (ap (λ b. nat_eq x k || b) is ∙ or_true (nat_eq x k))),
)

has_row : {P : Type 0} (o : Option (KeptTask P)) → is_some (row_of_task o) ≡ is_some o
has_row None = refl
has_row (Some v) = refl

not_that : (b : Bool) → true ≡ not b → b ≡ false
not_that true is = absurd (true≢false is)
not_that false is = refl

not_true : (b : Bool) → (b ≡ true → ⊥) → b ≡ false
not_true true out = absurd (out refl)
not_true false out = refl

same_truth : (a b : Bool) → (a ≡ true → b ≡ true) → (b ≡ true → a ≡ true) → a ≡ b
same_truth true b there back = sym (there refl)
same_truth false true there back = back refl
same_truth false false there back = refl

pub among_append : (x : ℕ) (xs ys : List ℕ) → is_among x (xs ++ ys) ≡ (is_among x xs || is_among x ys)
among_append x xs ys = sym (among_any x (xs ++ ys)) ∙ list_any-append (nat_eq x) xs ys ∙ ap₂ (λ a b. a || b) (among_any x xs) (among_any x ys)

all_filter : (Q : ℕ → Type 0) (p : ℕ → Bool) (xs : List ℕ) → AllByRecursion Q xs → AllByRecursion Q (filter p xs)
all_filter Q p [] each = tt
all_filter Q p (x ∷ xs) each = by (p x) (all_filter Q p xs each.1)
  where
    by : (b : Bool) → AllByRecursion Q (filter p xs) → AllByRecursion Q (cond b (x ∷ filter p xs) (filter p xs))
    by true rest = (each.0, rest)
    by false rest = rest

distinct_filter : (p : ℕ → Bool) (xs : List ℕ) → IsDistinct nat_eq xs → IsDistinct nat_eq (filter p xs)
unfolding IsDistinct
distinct_filter p [] all = tt
distinct_filter p (x ∷ xs) all = by (p x) (distinct_filter p xs all.1)
  where
    by : (b : Bool) → IsDistinct nat_eq (filter p xs) → IsDistinct nat_eq (cond b (x ∷ filter p xs) (filter p xs))
    by true rest = (all_filter (λ y. nat_eq x y ≡ false) p xs all.0, rest)
    by false rest = rest

length_more : (b : Bool) (x : ℕ) (xs : List ℕ) → length (cond b (x ∷ xs) xs) ≡ one b + length xs
length_more true x xs = omega arith
length_more false x xs = omega arith

-- Whose homes they are

module _ {P : Type 0} where
  abbrev numbers : List (Option (Home P)) → List ℕ
  numbers [] = []
  numbers (None ∷ hs) = numbers hs
  numbers (Some h ∷ hs) = h.number ∷ numbers hs

  numbers_counted : (hs : List (Option (Home P))) → length (numbers hs) ≡ home_count (λ _. true) hs
  numbers_counted [] = refl
  numbers_counted (None ∷ hs) =
      let rest = numbers_counted hs in
      let all = sum_by-cons (λ (h : Option (Home P)). one (home_passes (λ _. true) h)) None hs in
      omega (arith, rest, all)
  numbers_counted (Some h ∷ hs) =
      let rest = numbers_counted hs in
      let all = sum_by-cons (λ h. one (home_passes (λ _. true) h)) (Some h) hs in
      omega (arith, rest, all)

  number_there : (hs : List (Option (Home P))) (t : ℕ) → is_among t (numbers hs) ≡ true → (i : ℕ) × (holder (home_at hs i) ≡ Some t)
  number_there [] t is = absurd (false≢true is)
  number_there (None ∷ hs) t is = let at = number_there hs t is in (suc at.0, at.1)
  number_there (Some h ∷ hs) t is = by (number_there hs t)
    where
      by : (is_among t (numbers hs) ≡ true → (i : ℕ) × (holder (home_at hs i) ≡ Some t)) → (i : ℕ) × (holder (home_at (Some h ∷ hs) i) ≡ Some t)
      by later = elim (or_cases (nat_eq t h.number) (is_among t (numbers hs)) is) [
        | inl same ↦ (0, ap (λ n. Some n) (sym (eqb-true t h.number same)))
        | inr rest ↦ let at = later rest in (suc at.0, at.1)
      ]

  there_number : (hs : List (Option (Home P))) (t i : ℕ) → holder (home_at hs i) ≡ Some t → is_among t (numbers hs) ≡ true
  there_number [] t i is = absurd (none-some t is)
  there_number (None ∷ hs) t zero is = absurd (none-some t is)
  there_number (None ∷ hs) t (suc i) is = there_number hs t i is
  there_number (Some h ∷ hs) t zero is = ap (λ b. b || is_among t (numbers hs)) (eq-eqb t h.number (sym (same_Some h.number t is)))
  there_number (Some h ∷ hs) t (suc i) is = ap (λ b. nat_eq t h.number || b) (there_number hs t i is) ∙ or_true (nat_eq t h.number)

  numbers_once : (hs : List (Option (Home P))) → ((i j t : ℕ) → holder (home_at hs i) ≡ Some t → holder (home_at hs j) ≡ Some t → i ≡ j) → IsOnce (numbers hs)
  numbers_once [] one_home = tt
  numbers_once (None ∷ hs) one_home = numbers_once hs (λ i j t first second. let same = one_home (suc i) (suc j) t first second in omega (arith, same))
  numbers_once (Some h ∷ hs) one_home = (
    not_true (is_among h.number (numbers hs)) (λ is. let at = number_there hs h.number is in let same = one_home 0 (suc at.0) h.number refl at.1 in omega (arith, same)),
    numbers_once hs (λ i j t first second. let same = one_home (suc i) (suc j) t first second in omega (arith, same)),
  )

module _ {P : Type 0} (m : Rows P) (n : ℕ) (below : AreSubmitted n m) where
  abbrev at_homes : List ℕ
  at_homes = numbers m.homes.items

  abbrev beside : List ℕ
  beside = keys_of m.beside.entries

  abbrev ks : List ℕ
  ks = at_homes ++ beside

  key_found : (t : ℕ) → is_among t ks ≡ is_some (task_in m t)
  unfolding task_in
  key_found t = among_append t at_homes beside ∙ same_truth (is_among t at_homes || is_among t beside) (is_some (task_in m t))
      (λ is. elim (or_cases (is_among t at_homes) (is_among t beside) is) [
        | inl home ↦ let at = number_there m.homes.items t home in let h = held_by (home_at m.homes.items at.0) t at.1 in
            ap (λ x. is_some (task_in m x)) (sym h.2) ∙ ap is_some (home_task m at.0 h.0 h.1)
        | inr key ↦ let v = a_task (get nat_eq m.beside t) (is_some-lookup (nat_eq t) m.beside.entries ∙ among_any t beside ∙ key) in ap is_some (beside_task m t v.0 v.1)
      ])
      (λ is. let v = a_task (task_in m t) is in elim (placed_of (held t (home_at m.homes.items (home_of (length m.homes.items) t))) (get nat_eq m.beside t) v.0 v.1) [
        | inl home ↦ let h = holding t (home_at m.homes.items (home_of (length m.homes.items) t)) v.0 home in
            ap (λ b. b || is_among t beside) (there_number m.homes.items t (home_of (length m.homes.items) t) (ap holder h.1 ∙ ap (λ x. Some x) h.2))
        | inr there ↦ ap (λ b. is_among t at_homes || b) (sym (is_some-lookup (nat_eq t) m.beside.entries ∙ among_any t beside) ∙ ap is_some there) ∙ or_true (is_among t at_homes)
      ])
    where
      held_by : (o : Option (Home P)) (t : ℕ) → holder o ≡ Some t → (h : Home P) × (o ≡ Some h) × (h.number ≡ t)
      held_by None t e = absurd (none-some t e)
      held_by (Some h) t e = (h, refl, same_Some h.number t e)

  -- a key is that of a task with a row
  key_row : (t : ℕ) → is_among t ks ≡ is_some (row_in m t)
  key_row t = key_found t ∙ sym (has_row (task_in m t))

  key_below : (t : ℕ) → is_among t ks ≡ true → t < n
  key_below t is = elim (cases_lt t n) [
    | inl less ↦ less
    | inr past ↦ absurd (true≢false (sym is ∙ key_found t ∙ below t past))
  ]

  keys_distinct : IsDistinct nat_eq ks
  keys_distinct = distinct_append at_homes beside
      (IsDistinct-once at_homes (numbers_once m.homes.items (λ i j t first second. sym (m.placed i t first) ∙ m.placed j t second))) m.unique
      (λ t is. let at = number_there m.homes.items t is in sym (is_some-lookup (nat_eq t) m.beside.entries ∙ among_any t beside) ∙ m.apart at.0 t at.1)

  all_counted : length ks ≡ task_count m
  all_counted =
      length-append at_homes beside
      ∙ ap₂ (λ a b. a + b) (numbers_counted m.homes.items) (keys_counted m.beside.entries ∙ each m.beside.entries)
    where
      each : (es : List (ℕ × KeptTask P)) → length es ≡ sum_by (λ (k : KeptTask P). one true) (values_of es)
      each [] = refl
      each (e ∷ es) =
          let rest = each es in
          let all = sum_by-cons (λ (k : KeptTask P). one true) e.1 (values_of es) in
          omega (arith, rest, all)

  -- no more tasks are kept than were submitted
  pub kept_short : task_count m ≤ n
  kept_short =
      let few = length-le_from_distinct_below ks n keys_distinct (λ x is. key_below x (sym (among_any x ks) ∙ is)) in
      let keys = all_counted in
      omega (arith, few, keys)

  -- those that are kept and those that are away are all that were submitted
  pub kept_counted : (rs : List ℕ) → IsOnce rs → ((t : ℕ) → is_among t rs ≡ true → t < n) → ((t : ℕ) → t < n → is_some (row_in m t) ≡ not (is_among t rs)) → task_count m + length rs ≡ n
  kept_counted rs once short rows =
      let most = length-le_from_distinct_below (ks ++ rs) n (distinct_append ks rs keys_distinct (IsDistinct-once rs once) other) within in
      let least = le-length_from_below (ks ++ rs) n there in
      let both = length-append ks rs in
      let keys = all_counted in
      omega (arith, most, least, both, keys)
    where
      -- a task that is kept is not away
      other : (x : ℕ) → is_among x ks ≡ true → is_among x rs ≡ false
      other x is = not_that (is_among x rs) (sym is ∙ key_row x ∙ rows x (key_below x is))

      both_any : (x : ℕ) → list_any (nat_eq x) (ks ++ rs) ≡ (is_among x ks || is_among x rs)
      both_any x = list_any-append (nat_eq x) ks rs ∙ ap₂ (λ a b. a || b) (among_any x ks) (among_any x rs)

      within : (x : ℕ) → list_any (nat_eq x) (ks ++ rs) ≡ true → x < n
      within x is = elim (or_cases (is_among x ks) (is_among x rs) (sym (both_any x) ∙ is)) [
        | inl key ↦ key_below x key
        | inr away ↦ short x away
      ]

      there : (x : ℕ) → x < n → list_any (nat_eq x) (ks ++ rs) ≡ true
      there x less = both_any x ∙ by (is_among x rs) refl
        where
          by : (b : Bool) → is_among x rs ≡ b → (is_among x ks || is_among x rs) ≡ true
          by true away = ap (λ b. is_among x ks || b) away ∙ or_true (is_among x ks)
          by false kept = ap (λ b. b || is_among x rs) (key_row x ∙ rows x less ∙ ap not kept)

  -- so many rows pass a test as a list has numbers that names each of their tasks once
  pub passing_counted : (p : TaskRow → Bool) (ts : List ℕ) → IsOnce ts → ((t : ℕ) → is_among t ts ≡ passes p (row_in m t)) → row_count p m ≡ length ts
  passing_counted p ts once rows =
      let homes = homes_pass m.homes.items (λ i h is. ap (λ o. passes p (row_of_task o)) (home_task m i h is)) in
      let others = beside_pass m.beside.entries (λ i t v is. ap (λ o. passes p (row_of_task o)) (beside_task m t v (hash_map_get_place nat_eq_equiv m.beside i t v m.unique is))) in
      sym (ap length (filter-append test at_homes beside) ∙ length-append (filter test at_homes) (filter test beside) ∙ ap₂ (λ a b. a + b) homes others)
      ∙ length-from_same_keys nat_eq_equiv (filter test ks) ts (distinct_filter test ks keys_distinct) (IsDistinct-once ts once) (λ x.
      is_member-filter nat_eq_equiv test x (λ y e. ap test (eqb-true x y e)) ks ∙ ap (λ b. b && test x) (among_any x ks ∙ key_row x) ∙ passes_there (row_in m x) ∙ sym (among_any x ts ∙ rows x))
    where
      test : ℕ → Bool
      test t = passes p (row_in m t)

      passes_there : (o : Option TaskRow) → (is_some o && passes p o) ≡ passes p o
      passes_there None = refl
      passes_there (Some r) = refl

      homes_pass : (hs : List (Option (Home P))) → ((i : ℕ) (h : Home P) → home_at hs i ≡ Some h → test h.number ≡ p h.task.row) → length (filter test (numbers hs)) ≡ home_count p hs
      homes_pass [] each = refl
      homes_pass (None ∷ hs) each =
          let rest = homes_pass hs (λ i h is. each (suc i) h is) in
          let all = sum_by-cons (λ (h : Option (Home P)). one (home_passes p h)) None hs in
          omega (arith, rest, all)
      homes_pass (Some h ∷ hs) each =
          let rest = homes_pass hs (λ i k is. each (suc i) k is) in
          let all = sum_by-cons (λ k. one (home_passes p k)) (Some h) hs in
          let more = length_more (test h.number) h.number (filter test (numbers hs)) in
          let same = ap one (each 0 h refl) in
          omega (arith, rest, all, more, same)

      beside_pass : (es : List (ℕ × KeptTask P)) → ((i t : ℕ) (v : KeptTask P) → slice_get es i ≡ Some (t, v) → test t ≡ p v.row) → length (filter test (keys_of es)) ≡ sum_by (λ (k : KeptTask P). one (p k.row)) (values_of es)
      beside_pass [] each = refl
      beside_pass (e ∷ es) each =
          let rest = beside_pass es (λ i t v is. each (suc i) t v is) in
          let all = sum_by-cons (λ (k : KeptTask P). one (p k.row)) e.1 (values_of es) in
          let more = length_more (test e.0) e.0 (filter test (keys_of es)) in
          let same = ap one (each 0 e.0 e.1 refl) in
          omega (arith, rest, all, more, same)
