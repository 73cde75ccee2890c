-- How many tasks are kept, at most.
use Rattle.std.proofs.Common.{◌≡◌, ℕ, zero, suc, ◌+◌, ◌<◌, ◌≤◌, ◌⊎◌, Bool, true, false, not, ◌&&◌, ◌||◌, List, [], ◌∷◌, ◌++◌, length, Option, Some, None, refl, arith, sym, ap, ◌∙◌, inl, inr}
use mathlib.Core.Path.{ap₂}
use Rattle.std.specs.Prelude.{◌==◌, filter, is_some, is_none}
use Rattle.std.proofs.lemmas.Bool.{eq-eqb, ne_eqb, eqb-true, cases_eq, cases_lt, or_cases, or_parts, and_parts, false≢true, true≢false}
use Rattle.std.proofs.lemmas.List.{length-append}
use Rattle.std.proofs.lemmas.Map.Steps.{length-le_from_distinct_below}
use Rattle.tp_record.specs.Lists.{is_among, IsOnce, without, count_from}
use Rattle.tp_laws.proofs.Model.Queues.{among-append, among-filter, once-filter}
use Rattle.tp_tasks.specs.declared.tasks.Tasks.{Tasks}
use Rattle.tp_tasks.specs.declared.table.KeptTask.{KeptTask}
use Rattle.tp_tasks.specs.Table.{row_of_task}
use Rattle.tp_tasks.specs.Tasks.{row_of, submissions, task_of, AreReleased, KeepsOthers}
use Rattle.tp_tasks.proofs.Away.{IsDistinct-once, among_any}
use Rattle.tp_machine_state.specs.Kept.{KeepsAtMost}

-- Lists without repetition

-- numbers below n, each of them once, are at most n
pub once_few : (xs : List ℕ) (n : ℕ) → IsOnce xs → ((x : ℕ) → is_among x xs ≡ true → x < n) → length xs ≤ n
once_few xs n once below = length-le_from_distinct_below xs n (IsDistinct-once xs once) (λ x is. below x (sym (among_any x xs) ∙ is))

once_append : (xs ys : List ℕ) → IsOnce xs → IsOnce ys → ((x : ℕ) → is_among x xs ≡ true → is_among x ys ≡ false) → IsOnce (xs ++ ys)
once_append [] ys first second apart = second
once_append (x ∷ xs) ys first second apart = (
  among-append x xs ys ∙ ap₂ (λ a b. a || b) first.0 (apart x (ap (λ b. b || is_among x xs) (eq-eqb x x refl))),
  once_append xs ys first.1 second (λ y is. apart y (ap (λ b. y == x || b) is ∙ or_true (y == x))),
)
  where
    or_true : (b : Bool) → (b || true) ≡ true
    or_true true = refl
    or_true false = refl

absent : (t : ℕ) (xs : List ℕ) → is_among t xs ≡ false → length xs ≤ length (without t xs)
absent t [] off = omega arith
absent t (x ∷ xs) off =
    let parts = or_parts (t == x) (is_among t xs) off in
    let rest = absent t xs parts.1 in
    by rest (cases_eq x t) parts.0
  where
    by : length xs ≤ length (without t xs) → (x ≡ t) ⊎ (x ≡ t → ⊥) → (t == x) ≡ false → suc (length xs) ≤ length (without t (x ∷ xs))
    by rest (inl same) other = absurd (false≢true (sym other ∙ eq-eqb t x (sym same)))
    by rest (inr apart) other = rw (ne_eqb x t apart) (omega (arith, rest))

-- without a number it is shorter by one, or not at all
length_without : (t : ℕ) (xs : List ℕ) → IsOnce xs → length xs ≤ suc (length (without t xs))
length_without t [] once = omega arith
length_without t (x ∷ xs) once = by (length_without t xs once.1) (cases_eq x t)
  where
    by : length xs ≤ suc (length (without t xs)) → (x ≡ t) ⊎ (x ≡ t → ⊥) → suc (length xs) ≤ suc (length (without t (x ∷ xs)))
    by rest (inl same) = let short = absent t xs (ap (λ y. is_among y xs) (sym same) ∙ once.0) in rw (eq-eqb x t same) (omega (arith, short))
    by rest (inr apart) = rw (ne_eqb x t apart) (omega (arith, rest))

among_from : (k n t : ℕ) → is_among t (count_from k n) ≡ true → (k ≤ t) × (t < k + n)
among_from k zero t is = absurd (false≢true is)
among_from k (suc n) t is = elim (or_cases (t == k) (is_among t (count_from (suc k) n)) is) [
  | inl same ↦ let e = eqb-true t k same in (omega (arith, e), omega (arith, e))
  | inr later ↦ let rest = among_from (suc k) n t later in let low = rest.0 in let high = rest.1 in (omega (arith, low), omega (arith, high))
]

from_among : (k n t : ℕ) → k ≤ t → t < k + n → is_among t (count_from k n) ≡ true
from_among k zero t low high = absurd (let no : ⊥ = omega (arith, low, high) in no)
from_among k (suc n) t low high = elim (cases_eq t k) [
  | inl same ↦ ap (λ b. b || is_among t (count_from (suc k) n)) (eq-eqb t k same)
  | inr apart ↦ ap (λ b. b || is_among t (count_from (suc k) n)) (ne_eqb t k apart) ∙ from_among (suc k) n t (omega (arith, low, apart)) (omega (arith, high))
]

once_from : (k n : ℕ) → IsOnce (count_from k n)
once_from k zero = tt
once_from k (suc n) = (by (is_among k (count_from (suc k) n)) refl, once_from (suc k) n)
  where
    by : (b : Bool) → is_among k (count_from (suc k) n) ≡ b → is_among k (count_from (suc k) n) ≡ false
    by true among = let low = (among_from (suc k) n k among).0 in absurd (let no : ⊥ = omega (arith, low) in no)
    by false off = off

module _ {P : Type 0} where
  -- the other tasks stay, and t is kept only where it was: so are all
  pub fewer_but : (old new : Tasks P) (t : ℕ) → KeepsOthers old new t → (is_some (row_of new t) ≡ true → is_some (row_of old t) ≡ true) → (u : ℕ) → is_some (row_of new u) ≡ true → is_some (row_of old u) ≡ true
  fewer_but old new t others this u is = elim (cases_eq u t) [
    | inl same ↦ ap (λ x. is_some (row_of old x)) same ∙ this (ap (λ x. is_some (row_of new x)) (sym same) ∙ is)
    | inr apart ↦ ap (λ (k : Option (KeptTask P)). is_some (row_of_task k)) (sym (others u (ne_eqb t u (λ b. apart (sym b))))) ∙ is
  ]

  -- where no other tasks are kept than were
  pub most_fewer : (old new : Tasks P) (n : ℕ) → ((t : ℕ) → is_some (row_of new t) ≡ true → is_some (row_of old t) ≡ true) → KeepsAtMost old n → KeepsAtMost new n
  most_fewer old new n fewer most = λ ts once kept. most ts once (λ t is. fewer t (kept t is))

  pub most_more : (m : Tasks P) (n k : ℕ) → n ≤ k → KeepsAtMost m n → KeepsAtMost m k
  most_more m n k more most = λ ts once kept. let few = most ts once kept in omega (arith, few, more)

  -- a new task is one more
  pub most_new : (old new : Tasks P) (t n : ℕ) → KeepsOthers old new t → KeepsAtMost old n → KeepsAtMost new (suc n)
  most_new old new t n others most = λ ts once kept.
      let few = most (without t ts) (once-filter (λ y. not (y == t)) ts once) (λ u is.
      let both = and_parts (not (u == t)) (is_among u ts) (sym (among-filter u (λ y. not (y == t)) ts) ∙ is) in
      ap (λ (k : Option (KeptTask P)). is_some (row_of_task k)) (sym (others u (other u both.0))) ∙ kept u both.1) in
      let short = length_without t ts once in
      omega (arith, few, short)
    where
      other : (u : ℕ) → not (u == t) ≡ true → (t == u) ≡ false
      other u is = elim (cases_eq u t) [
        | inl same ↦ absurd (false≢true (ap not (sym (eq-eqb u t same)) ∙ is))
        | inr apart ↦ ne_eqb t u (λ b. apart (sym b))
      ]

  -- without tasks
  pub most_none : (m : Tasks P) (n : ℕ) → ((t : ℕ) → row_of m t ≡ None) → KeepsAtMost m n
  most_none m n none [] once kept = omega arith
  most_none m n none (t ∷ ts) once kept = absurd (false≢true (sym (ap is_some (none t)) ∙ kept t (ap (λ b. b || is_among t ts) (eq-eqb t t refl))))

  -- as many as are not released
  pub most_counted : (m : Tasks P) (k : ℕ) → ((rs : List ℕ) → AreReleased m rs → k + length rs ≡ submissions m) → KeepsAtMost m k
  most_counted m k counted = λ ts once kept.
      let all = counted away released in
      let few = once_few (ts ++ away) (submissions m) (once_append ts away once released.once (λ t is. off t (kept t is))) (λ t is. within ts kept t is) in
      let both = length-append ts away in
      omega (arith, all, few, both)
    where
      away : List ℕ
      away = filter (λ t. is_none (row_of m t)) (count_from 0 (submissions m))

      among_away : (t : ℕ) → is_among t away ≡ (is_none (row_of m t) && is_among t (count_from 0 (submissions m)))
      among_away t = among-filter t (λ u. is_none (row_of m u)) (count_from 0 (submissions m))

      some_none : {A : Type 0} (o : Option A) → is_some o ≡ true → is_none o ≡ false
      some_none None is = absurd (false≢true is)
      some_none (Some x) is = refl

      off : (t : ℕ) → is_some (row_of m t) ≡ true → is_among t away ≡ false
      off t is = among_away t ∙ ap (λ b. b && is_among t (count_from 0 (submissions m))) (some_none (row_of m t) is)

      below : (t : ℕ) → is_among t away ≡ true → t < submissions m
      below t is = let range = (among_from 0 (submissions m) t (and_parts (is_none (row_of m t)) (is_among t (count_from 0 (submissions m))) (sym (among_away t) ∙ is)).1).1 in omega (arith, range)

      row_some : (o : Option (KeptTask P)) → is_some (row_of_task o) ≡ is_some o
      row_some None = refl
      row_some (Some x) = refl

      submitted : (t : ℕ) → is_some (row_of m t) ≡ true → t < submissions m
      submitted t is = elim (cases_lt t (submissions m)) [
        | inl less ↦ less
        | inr past ↦ absurd (true≢false (sym is ∙ row_some (task_of m t) ∙ m.below t past))
      ]

      within : (ts : List ℕ) → ((t : ℕ) → is_among t ts ≡ true → is_some (row_of m t) ≡ true) → (t : ℕ) → is_among t (ts ++ away) ≡ true → t < submissions m
      within ts kept t is = elim (or_cases (is_among t ts) (is_among t away) (sym (among-append t ts away) ∙ is)) [
        | inl this ↦ submitted t (kept t this)
        | inr that ↦ below t that
      ]

      none_not : {A : Type 0} (o : Option A) → is_some o ≡ not (is_none o && true)
      none_not None = refl
      none_not (Some x) = refl

      released : AreReleased m away
      released = record {
        once = once-filter (λ t. is_none (row_of m t)) (count_from 0 (submissions m)) (once_from 0 (submissions m));
        below = below;
        kept = λ t less.
            none_not (row_of m t)
            ∙ ap not (ap (λ b. is_none (row_of m t) && b) (sym (from_among 0 (submissions m) t (omega arith) (omega (arith, less)))) ∙ sym (among_away t));
      }
