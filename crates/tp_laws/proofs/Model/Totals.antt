-- Sums over the numbers below a bound, and how they change where a function changes at one place or two.
use Rattle.std.proofs.Common.{◌≡◌, ℕ, zero, suc, ◌+◌, ◌<◌, ◌≤◌, Option, Some, None, map, refl, arith, sym, ap, ◌∙◌, inl, inr}
use mathlib.Core.Path.{ap₂}
use Rattle.std.specs.Prelude.{sum_by, ◌==◌, if◌then◌else◌}
use Rattle.std.proofs.lemmas.Bool.{cases_eq, eq-eqb, ne_eqb}
use Rattle.std.proofs.lemmas.List.Sums.{sum_by_push}
use Rattle.tp_record.specs.Lists.{count_from}
use Rattle.tp_laws.proofs.Model.ListLaws.{map-count_more}

-- the sum of f over the numbers below n
abbrev pub total : (ℕ → ℕ) → ℕ → ℕ
total f zero = 0
total f (suc n) = total f n + f n

-- what f gives at the named number, nothing where there is none
abbrev pub at_named : (ℕ → ℕ) → Option ℕ → ℕ
at_named f None = 0
at_named f (Some x) = f x

-- a sum over a table of the numbers below n
pub sum_by-table : {A : Type 0} (g : A → ℕ) (f : ℕ → A) (n : ℕ) → sum_by g (map f (count_from 0 n)) ≡ total (λ i. g (f i)) n
sum_by-table g f zero = refl
sum_by-table g f (suc n) =
    let e : n + 0 ≡ n = omega arith in
    ap (sum_by g) (map-count_more f 0 n)
    ∙ sum_by_push g (map f (count_from 0 n)) (f (n + 0))
    ∙ ap₂ (λ a b. a + b) (sum_by-table g f n) (ap (λ m. g (f m)) e)

-- what is zero from n on adds nothing
pub total-longer : (f : ℕ → ℕ) (n m : ℕ) → ((i : ℕ) → n ≤ i → f i ≡ 0) → n ≤ m → total f m ≡ total f n
total-longer f n zero past within = let e : zero ≡ n = omega arith in ap (total f) e
total-longer f n (suc m) past within =
    elim (cases_eq n (suc m)) [
      | inl same ↦ ap (total f) (sym same)
      | inr other ↦
          let rest = total-longer f n m past (omega arith) in
          let none = past m (omega arith) in
          omega arith
    ]

pub total-agree : (f g : ℕ → ℕ) (n : ℕ) → ((i : ℕ) → i < n → g i ≡ f i) → total g n ≡ total f n
total-agree f g zero same = refl
total-agree f g (suc n) same = ap₂ (λ a b. a + b) (total-agree f g n (λ i below. same i (omega arith))) (same n (omega arith))

pub total-le : (f g : ℕ → ℕ) (n : ℕ) → ((i : ℕ) → i < n → g i ≤ f i) → total g n ≤ total f n
total-le f g zero le = omega arith
total-le f g (suc n) le =
    let rest = total-le f g n (λ i below. le i (omega arith)) in
    let here = le n (omega arith) in
    omega arith

-- a function that rises at x alone: its sum rises by no more
pub total-one : (f g : ℕ → ℕ) (n x : ℕ) → x < n → ((i : ℕ) → (i ≡ x → ⊥) → g i ≤ f i) → total g n + f x ≤ total f n + g x
total-one f g zero x below le = absurd (omega arith)
total-one f g (suc n) x below le =
    elim (cases_eq x n) [
      | inl same ↦
          let rest = total-le f g n (λ i within. le i (λ at. let e : i ≡ x = at in omega arith)) in
          let a : f x ≡ f n = ap f same in
          let b : g x ≡ g n = ap g same in
          omega arith
      | inr other ↦
          let rest = total-one f g n x (omega arith) le in
          let here = le n (λ at. other (sym at)) in
          omega arith
    ]

-- a function that rises at x and y alone
pub total-two : (f g : ℕ → ℕ) (n x y : ℕ) → x < n → y < n → (x ≡ y → ⊥) → ((i : ℕ) → (i ≡ x → ⊥) → (i ≡ y → ⊥) → g i ≤ f i) →
    total g n + (f x + f y) ≤ total f n + (g x + g y)
total-two f g n x y below_x below_y apart le =
    let first = total-one f mid n x below_x (λ i other. mid_le i other) in
    let second = total-one mid g n y below_y (λ i other. g_le i other) in
    let at_x : mid x ≡ g x = rw (eq-eqb x x refl) refl in
    let at_y : mid y ≡ f y = rw (ne_eqb y x (λ same. apart (sym same))) refl in
    omega arith
  where
    mid : ℕ → ℕ
    mid i = if i == x then g i else f i

    mid_le : (i : ℕ) → (i ≡ x → ⊥) → mid i ≤ f i
    mid_le i other = rw (ne_eqb i x other) (omega arith)

    g_le : (i : ℕ) → (i ≡ y → ⊥) → g i ≤ mid i
    g_le i other = elim (cases_eq i x) [ inl same ↦ rw (eq-eqb i x same) (omega arith) | inr ne ↦ rw (ne_eqb i x ne) (le i ne other) ]

-- a function that changes at x alone: its sum changes as it does there
pub total-at : (f g : ℕ → ℕ) (n x : ℕ) → x < n → ((i : ℕ) → (i ≡ x → ⊥) → g i ≡ f i) → total g n + f x ≡ total f n + g x
total-at f g n x below same =
    let up = total-one f g n x below (λ i other. let e = same i other in omega arith) in
    let down = total-one g f n x below (λ i other. let e = same i other in omega arith) in
    omega arith

-- a function that changes at x and y alone
pub total-at_both : (f g : ℕ → ℕ) (n x y : ℕ) → x < n → y < n → (x ≡ y → ⊥) → ((i : ℕ) → (i ≡ x → ⊥) → (i ≡ y → ⊥) → g i ≡ f i) →
    total g n + (f x + f y) ≡ total f n + (g x + g y)
total-at_both f g n x y below_x below_y apart same =
    let up = total-two f g n x y below_x below_y apart (λ i ne_x ne_y. let e = same i ne_x ne_y in omega arith) in
    let down = total-two g f n x y below_x below_y apart (λ i ne_x ne_y. let e = same i ne_x ne_y in omega arith) in
    omega arith
