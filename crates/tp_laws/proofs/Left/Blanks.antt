-- Lists with one element replaced, and filters that agree on all numbers but one.
use Rattle.std.proofs.Common.{◌≡◌, ℕ, zero, suc, ◌+◌, ◌<◌, Bool, false, not, cond, List, [], ◌∷◌, ◌++◌, length, set, refl, arith, sym, ap, ap₂, ◌∙◌}
use Rattle.std.specs.Prelude.{◌==◌, filter, count_by}
use Rattle.std.proofs.lemmas.Bool.{or_parts, eq-eqb, true≢false}
use Rattle.std.proofs.lemmas.List.Sums.{sum_by-cons}
use Rattle.tp_record.specs.Lists.{change_each, is_among}
use Rattle.tp_laws.proofs.Model.Arranged.{AllPass}

-- a change of each element, after one was replaced
pub change_each-replaced : {A : Type 0} (g : ℕ → A → A) (k j : ℕ) (xs : List A) (y : A) → change_each g k (set xs j y) ≡ set (change_each g k xs) j (g (j + k) y)
change_each-replaced g k j [] y = refl
change_each-replaced g k zero (x ∷ xs) y = let e : 0 + k ≡ k = omega arith in rw e refl
change_each-replaced g k (suc j) (x ∷ xs) y =
    let e : suc j + k ≡ j + suc k = omega arith in
    rw e (ap (λ zs. g k x ∷ zs) (change_each-replaced g (suc k) j xs y))

-- what is replaced in the front of a longer list
pub set-append : {A : Type 0} (xs ys : List A) (j : ℕ) (y : A) → j < length xs → set (xs ++ ys) j y ≡ set xs j y ++ ys
set-append [] ys j y below = absurd (omega arith)
set-append (x ∷ xs) ys zero y below = refl
set-append (x ∷ xs) ys (suc j) y below = ap (λ zs. x ∷ zs) (set-append xs ys j y (omega arith))

-- two filters that agree but on t, of a list without t
pub filter_but : (t : ℕ) (f g : ℕ → Bool) → ((u : ℕ) → (u ≡ t → ⊥) → f u ≡ g u) → (xs : List ℕ) → is_among t xs ≡ false → filter f xs ≡ filter g xs
filter_but t f g same [] out = refl
filter_but t f g same (x ∷ xs) out =
    let parts = or_parts (t == x) (is_among t xs) out in
    let off : x ≡ t → ⊥ = λ is. true≢false (sym (eq-eqb t x (sym is)) ∙ parts.0) in
    rw (same x off) (ap (λ ys. cond (g x) (x ∷ ys) ys) (filter_but t f g same xs parts.1))

-- and two counts
pub count_but : (t : ℕ) (f g : ℕ → Bool) → ((u : ℕ) → (u ≡ t → ⊥) → f u ≡ g u) → (xs : List ℕ) → is_among t xs ≡ false → count_by f xs ≡ count_by g xs
count_but t f g same [] out = refl
count_but t f g same (x ∷ xs) out =
    let parts = or_parts (t == x) (is_among t xs) out in
    let off : x ≡ t → ⊥ = λ is. true≢false (sym (eq-eqb t x (sym is)) ∙ parts.0) in
    sum_by-cons (λ y. cond (f y) 1 0) x xs
    ∙ ap₂ (λ b n. cond b 1 0 + n) (same x off) (count_but t f g same xs parts.1)
    ∙ sym (sum_by-cons (λ y. cond (g y) 1 0) x xs)

-- each number of a list without t is another
pub pass_but : (t : ℕ) (xs : List ℕ) → is_among t xs ≡ false → AllPass (λ u. not (t == u)) xs
pass_but t [] out = tt
pass_but t (x ∷ xs) out =
    let parts = or_parts (t == x) (is_among t xs) out in
    (ap not parts.0, pass_but t xs parts.1)
