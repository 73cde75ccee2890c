-- Counts and tests over lists, as the words use them.
use Rattle.std.proofs.Common.{◌≡◌, ℕ, zero, suc, ◌+◌, ◌<◌, ◌≤◌, ◌⊎◌, Bool, true, false, not, ◌&&◌, cond, List, [], ◌∷◌, ◌++◌, map, length, drop, Option, Some, None, refl, arith, sym, ap, ◌∙◌, inl, inr}
use Rattle.std.specs.Prelude.{◌==◌, count_by, filter, option_to_list}
use Rattle.std.specs.List.{list_any}
use Rattle.std.proofs.lemmas.Bool.{cases_eq, ne_eqb}
use Rattle.std.proofs.lemmas.Bool.Decides.{nat_tests}
use Rattle.std.proofs.lemmas.List.Sums.{sum_by-cons}
use mathlib.Core.Path.{ap₂}
use Rattle.tp_record.specs.Lists.{count_from, without, at_end, is_among}
use Rattle.std.proofs.lemmas.List.{append-nil}
use Rattle.std.proofs.lemmas.List.Elements.{filter_agree}
use Rattle.tp_laws.proofs.Model.ListLaws.{filter-filter, filter-filter_agree}

-- what is said, else what was before
abbrev pub by_option : {A : Type 0} → Option A → Option A → Option A
by_option (Some a) before = Some a
by_option None before = before

-- one more, where a test passes
pub count_by-cons : {A : Type 0} (p : A → Bool) (x : A) (xs : List A) → count_by p (x ∷ xs) ≡ cond (p x) (suc (count_by p xs)) (count_by p xs)
count_by-cons p x xs = sum_by-cons (λ y. cond (p y) 1 0) x xs ∙ by_test (p x) (count_by p xs)
  where
    by_test : (b : Bool) (n : ℕ) → cond b 1 0 + n ≡ cond b (suc n) n
    by_test true n = omega arith
    by_test false n = omega arith

-- a count over a map
pub count_by-map : {A B : Type 0} (p : B → Bool) (f : A → B) (xs : List A) → count_by p (map f xs) ≡ count_by (λ x. p (f x)) xs
count_by-map p f [] = refl
count_by-map p f (x ∷ xs) =
    count_by-cons p (f x) (map f xs)
    ∙ ap (λ n. cond (p (f x)) (suc n) n) (count_by-map p f xs)
    ∙ sym (count_by-cons (λ y. p (f y)) x xs)

-- two tests that agree below a bound count alike below it
pub count_by_below : (p q : ℕ → Bool) (k n : ℕ) → ((t : ℕ) → t < k + n → p t ≡ q t) → count_by p (count_from k n) ≡ count_by q (count_from k n)
count_by_below p q k zero same = refl
count_by_below p q k (suc n) same =
    count_by-cons p k (count_from (suc k) n)
    ∙ ap₂ (λ b m. cond b (suc m) m) (same k (omega arith)) (count_by_below p q (suc k) n (λ t h. same t (omega arith)))
    ∙ sym (count_by-cons q k (count_from (suc k) n))

-- a test that a number below the bound passes
pub any_from : (p : ℕ → Bool) (k n t : ℕ) → k ≤ t → t < k + n → p t ≡ true → list_any p (count_from k n) ≡ true
any_from p k zero t low high is = absurd (omega arith)
any_from p k (suc n) t low high is =
    elim (cases_eq t k) [
      | inl same ↦ rw (sym (ap p same) ∙ is) refl
      | inr other ↦ rw (any_from p (suc k) n t (omega arith) (omega arith) is) (grind (arith, nat_tests))
    ]

-- a test that no number passes
pub any_none : (p : ℕ → Bool) (xs : List ℕ) → ((t : ℕ) → p t ≡ false) → list_any p xs ≡ false
any_none p [] none = refl
any_none p (x ∷ xs) none = rw (none x) (any_none p xs none)

-- a filter that keeps all
pub filter_true : {A : Type 0} (xs : List A) → filter (λ x. true) xs ≡ xs
filter_true [] = refl
filter_true (x ∷ xs) = ap (λ ys. x ∷ ys) (filter_true xs)

-- a list without a number that it does not have
pub without_new : (p : ℕ → Bool) (t : ℕ) (xs : List ℕ) → filter p xs ≡ xs → p t ≡ false → without t xs ≡ xs
without_new p t xs all new =
    ap (without t) (sym all)
    ∙ filter-filter_agree p (λ y. not (y == t)) (λ y. true) (λ y is. other y is (cases_eq y t)) xs
    ∙ filter_true (filter p xs) ∙ all
  where
    other : (y : ℕ) → p y ≡ true → ((y ≡ t) ⊎ (y ≡ t → ⊥)) → not (y == t) ≡ true
    other y is (inl same) = absurd (let e : p y ≡ false = ap p same ∙ new in cc)
    other y is (inr ne) = ap not (ne_eqb y t ne)

-- a number that a list does not have is put at its end
pub at_end_new : (p : ℕ → Bool) (o : Option ℕ) (xs : List ℕ) → filter p xs ≡ xs → ((t : ℕ) → o ≡ Some t → p t ≡ false) → at_end o xs ≡ xs ++ option_to_list o
at_end_new p None xs all new = sym (append-nil xs)
at_end_new p (Some t) xs all new = ap (λ ys. ys ++ t ∷ []) (without_new p t xs all (new t refl))

-- two filters in either order
pub filter_commute : {A : Type 0} (p q : A → Bool) (xs : List A) → filter p (filter q xs) ≡ filter q (filter p xs)
filter_commute p q xs =
    filter-filter p q xs ∙ filter_agree (λ x. q x && p x) (λ x. p x && q x) (λ x. by_tests (p x) (q x)) xs ∙ sym (filter-filter q p xs)
  where
    by_tests : (a b : Bool) → (b && a) ≡ (a && b)
    by_tests true true = refl
    by_tests true false = refl
    by_tests false true = refl
    by_tests false false = refl

-- a list without a number that is not in it
pub without_absent : (t : ℕ) (xs : List ℕ) → is_among t xs ≡ false → without t xs ≡ xs
without_absent t [] none = refl
without_absent t (x ∷ xs) none =
    let other : (x == t) ≡ false = grind (arith, nat_tests) in
    let rest : is_among t xs ≡ false = grind (arith, nat_tests) in
    rw other (ap (λ ys. x ∷ ys) (without_absent t xs rest))

-- what a filter keeps first passes its test
pub filter_head : {A : Type 0} (p : A → Bool) (x : A) (xs rest : List A) → filter p xs ≡ x ∷ rest → p x ≡ true
filter_head p x [] rest is = absurd cc
filter_head p x (y ∷ xs) rest is = by_test (filter_head p x xs rest) (p y) refl is
  where
    by_test : (filter p xs ≡ x ∷ rest → p x ≡ true) → (b : Bool) → p y ≡ b → cond b (y ∷ filter p xs) (filter p xs) ≡ x ∷ rest → p x ≡ true
    by_test before true here is = let same : y ≡ x = cc in ap p (sym same) ∙ here
    by_test before false here is = before is

-- what is dropped of a longer list
pub drop-append_more : {A : Type 0} (n : ℕ) (xs ys : List A) → n ≤ length xs → drop n (xs ++ ys) ≡ drop n xs ++ ys
drop-append_more zero xs ys h = refl
drop-append_more (suc n) [] ys h = absurd (omega arith)
drop-append_more (suc n) (x ∷ xs) ys h = drop-append_more n xs ys (omega arith)

-- where one more can be dropped
pub drop_head : {A : Type 0} (n : ℕ) (xs : List A) (x : A) (rest : List A) → drop n xs ≡ x ∷ rest → (drop (suc n) xs ≡ rest) × (n < length xs)
drop_head zero [] x rest is = absurd cc
drop_head zero (y ∷ xs) x rest is = (cc, omega arith)
drop_head (suc n) [] x rest is = absurd cc
drop_head (suc n) (y ∷ xs) x rest is = let more = drop_head n xs x rest is in (more.0, omega (arith, more.1))
