-- A change of each element is a change at the named places, where it leaves all others; a filter leaves out the named
-- numbers, where all others pass.
use Rattle.std.proofs.Common.{◌≡◌, ℕ, zero, suc, ◌+◌, ◌<◌, Bool, true, false, not, ◌&&◌, ◌||◌, cond, List, [], ◌∷◌, length, get_or, set, Option, Some, None, refl, arith, sym, ap, zero-add, ◌∙◌, inl, inr}
use Rattle.std.specs.Prelude.{◌==◌, filter}
use Rattle.std.proofs.lemmas.Bool.{cases_eq, eq-eqb, ne_eqb}
use Rattle.std.proofs.lemmas.List.{ext_get_or, get_or-set_same, get_or-set_other, length-set}
use Rattle.tp_record.specs.Lists.{is_it, without, change_each, is_among}
use Rattle.tp_laws.proofs.Model.ListLaws.{length-change_each, filter-filter}
use Rattle.tp_audit.specs.Changed.{change_at, leave_out}

module _ {A : Type 0} (g : ℕ → A → A) (d : A) where
  -- what is read of a changed list, within it
  read_changed : (k j : ℕ) (xs : List A) → j < length xs → get_or (change_each g k xs) j d ≡ g (j + k) (get_or xs j d)
  read_changed k j [] within = absurd (omega arith)
  read_changed k zero (x ∷ xs) within = ap (λ n. g n x) (sym (zero-add k))
  read_changed k (suc j) (x ∷ xs) within =
      let e : j + suc k ≡ suc j + k = omega arith in
      read_changed (suc k) j xs (omega arith) ∙ ap (λ n. g n (get_or xs j d)) e

  pub length-change_at : (o : Option ℕ) (xs : List A) → length (change_at g d o xs) ≡ length xs
  length-change_at None xs = refl
  length-change_at (Some x) xs = length-set xs x (g x (get_or xs x d))

  -- what is read after a change at one place
  read_at : (o : Option ℕ) (xs : List A) (j : ℕ) → j < length xs → get_or (change_at g d o xs) j d ≡ cond (is_it o j) (g j (get_or xs j d)) (get_or xs j d)
  read_at None xs j within = refl
  read_at (Some x) xs j within =
      elim (cases_eq j x) [
        | inl same ↦
            let there : x < length xs = omega (arith, within, same) in
            rw (eq-eqb j x same)
            (ap (λ n. get_or (set xs x (g x (get_or xs x d))) n d) same ∙ get_or-set_same xs x (g x (get_or xs x d)) d there ∙ ap (λ n. g n (get_or xs n d)) (sym same))
        | inr other ↦ rw (ne_eqb j x other) (get_or-set_other xs x j (g x (get_or xs x d)) d other)
      ]

  -- a change of each that leaves all but the two named places
  pub change_each-two : (o p : Option ℕ) (xs : List A) → ((i : ℕ) → is_it o i ≡ true → is_it p i ≡ false) →
      ((i : ℕ) (x : A) → is_it o i ≡ false → is_it p i ≡ false → g i x ≡ x) → change_each g 0 xs ≡ change_at g d p (change_at g d o xs)
  change_each-two o p xs apart others =
      ext_get_or d (change_each g 0 xs) (change_at g d p (change_at g d o xs))
      (length-change_each g 0 xs ∙ sym (length-change_at o xs) ∙ sym (length-change_at p (change_at g d o xs)))
      (λ j below.
      let within : j < length xs = rw (sym (length-change_each g 0 xs)) below in
      let e : j + 0 ≡ j = omega arith in
      let later : j < length (change_at g d o xs) = rw (length-change_at o xs) within in
      read_changed 0 j xs within ∙ ap (λ n. g n (get_or xs j d)) e
      ∙ by_tests j (is_it o j) (is_it p j) refl refl (get_or xs j d)
      ∙ sym (read_at p (change_at g d o xs) j later ∙ ap (λ y. cond (is_it p j) (g j y) y) (read_at o xs j within)))
    where
      by_tests : (j : ℕ) (a b : Bool) → is_it o j ≡ a → is_it p j ≡ b → (y : A) → g j y ≡ cond (is_it p j) (g j (cond (is_it o j) (g j y) y)) (cond (is_it o j) (g j y) y)
      by_tests j true b on off y = rw (on, apart j on) refl
      by_tests j false true on off y = rw (on, off) refl
      by_tests j false false on off y = rw (on, off) (others j y on off)

-- what passes or is not named
abbrev passes : (ℕ → Bool) → Option ℕ → ℕ → Bool
passes stays o x = not (is_it o x) || stays x

-- filters agree where their tests agree on what the list has
pub filter_among : (p q : ℕ → Bool) (xs : List ℕ) → ((x : ℕ) → is_among x xs ≡ true → p x ≡ q x) → filter p xs ≡ filter q xs
filter_among p q [] same = refl
filter_among p q (x ∷ xs) same =
    let rest = filter_among p q xs (λ y there. same y (later y there)) in
    let here = same x (first (is_among x xs)) in
    rw here (ap (λ ys. cond (q x) (x ∷ ys) ys) rest)
  where
    first : (b : Bool) → (x == x || b) ≡ true
    first b = rw (eq-eqb x x refl) refl

    later : (y : ℕ) → is_among y xs ≡ true → (y == x || is_among y xs) ≡ true
    later y there = rw there (either (y == x))
      where
        either : (b : Bool) → (b || true) ≡ true
        either true = refl
        either false = refl

pub filter_every : (p : ℕ → Bool) (xs : List ℕ) → ((x : ℕ) → p x ≡ true) → filter p xs ≡ xs
filter_every p [] all = refl
filter_every p (x ∷ xs) all = rw (all x) (ap (λ ys. x ∷ ys) (filter_every p xs all))

leave_out-filter : (stays : ℕ → Bool) (o : Option ℕ) (xs : List ℕ) → leave_out stays o xs ≡ filter (passes stays o) xs
leave_out-filter stays None xs = sym (filter_every (passes stays None) xs (λ x. refl))
leave_out-filter stays (Some x) xs = by_test (stays x) refl
  where
    by_test : (b : Bool) → stays x ≡ b → cond (stays x) xs (without x xs) ≡ filter (passes stays (Some x)) xs
    by_test true is = rw is (sym (filter_every (passes stays (Some x)) xs all))
      where
        all : (y : ℕ) → passes stays (Some x) y ≡ true
        all y = elim (cases_eq y x) [ inl same ↦ rw (eq-eqb y x same, ap stays same, is) refl | inr other ↦ rw (ne_eqb y x other) refl ]
    by_test false is = rw is (filter_among (λ y. not (y == x)) (passes stays (Some x)) xs same)
      where
        same : (y : ℕ) → is_among y xs ≡ true → not (y == x) ≡ passes stays (Some x) y
        same y there = elim (cases_eq y x) [ inl e ↦ rw (eq-eqb y x e, ap stays e, is) refl | inr other ↦ rw (ne_eqb y x other) refl ]

-- a filter that lets all but the two named numbers pass
pub filter-two : (stays : ℕ → Bool) (o p : Option ℕ) (xs : List ℕ) →
    ((x : ℕ) → is_among x xs ≡ true → is_it o x ≡ false → is_it p x ≡ false → stays x ≡ true) → filter stays xs ≡ leave_out stays p (leave_out stays o xs)
filter-two stays o p xs others =
    filter_among stays (λ x. passes stays o x && passes stays p x) xs (λ x there. by_tests x (is_it o x) (is_it p x) refl refl there)
    ∙ sym (filter-filter (passes stays p) (passes stays o) xs)
    ∙ ap (filter (passes stays p)) (sym (leave_out-filter stays o xs))
    ∙ sym (leave_out-filter stays p (leave_out stays o xs))
  where
    both : (s : Bool) → s ≡ (s && s)
    both true = refl
    both false = refl

    right : (s : Bool) → s ≡ (s && true)
    right true = refl
    right false = refl

    by_tests : (x : ℕ) (a b : Bool) → is_it o x ≡ a → is_it p x ≡ b → is_among x xs ≡ true → stays x ≡ (passes stays o x && passes stays p x)
    by_tests x true true on off there = rw (on, off) (both (stays x))
    by_tests x true false on off there = rw (on, off) (right (stays x))
    by_tests x false true on off there = rw (on, off) refl
    by_tests x false false on off there = rw (on, off) (others x there on off)
