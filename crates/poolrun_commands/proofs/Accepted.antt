-- Whether each answer so far accepts its step.
use Rattle.std.proofs.Common.{◌≡◌, ℕ, suc, ◌+◌, List, [], ◌∷◌, ◌++◌, false, Result, Ok, Err, OnOk, is_err, ap, ◌==◌, cond, arith}
use Rattle.std.proofs.lemmas.Bool.Decides.{nat_tests}
use Rattle.std.proofs.lemmas.List.Sums.{sum_by-append}
use Rattle.tp_record.specs.declared.entries.Entry.{Entry}
use Rattle.tp_scenario.specs.declared.step.Refusal.{Refusal}
use Rattle.tp_scenario.specs.Plays.{Answered, refusals_in}

-- what is so anyway is so of a success
pub on_ok : {A E : Type 0} (r : Result A E) {P : Type 0} → P → OnOk r P
on_ok (Ok a) p = p
on_ok (Err e) p = tt

refusals_on : (xs : List Answered) (x : Answered) → refusals_in (xs ++ x ∷ []) ≡ refusals_in xs + (0 + cond (is_err x) 1 0)
refusals_on xs x = sum_by-append (λ (y : Answered). cond (is_err y) 1 0) xs (x ∷ [])

pub accepted_on : (xs : List Answered) (x : Answered) (e : Entry) → x ≡ Ok e → (refusals_in xs == 0) ≡ (refusals_in (xs ++ x ∷ []) == 0)
accepted_on xs x e is =
    let none : ◌≡◌ {A = ℕ} (cond (is_err x) 1 0) 0 = ap (λ (y : Answered). cond (is_err y) 1 0) is in
    let same : refusals_in xs ≡ refusals_in (xs ++ x ∷ []) = omega (arith, refusals_on xs x, none) in
    ap (λ n. n == 0) same

-- a number above 0 is not 0
not_none : (n k : ℕ) → suc k ≡ n → false ≡ (n == 0)
not_none n k more = grind (arith, nat_tests, more)

pub refused_on : (xs : List Answered) (x : Answered) (r : Refusal) → x ≡ Err r → false ≡ (refusals_in (xs ++ x ∷ []) == 0)
refused_on xs x r is =
    let one : ◌≡◌ {A = ℕ} (cond (is_err x) 1 0) 1 = ap (λ (y : Answered). cond (is_err y) 1 0) is in
    let more : suc (refusals_in xs) ≡ refusals_in (xs ++ x ∷ []) = omega (arith, refusals_on xs x, one) in
    not_none (refusals_in (xs ++ x ∷ [])) (refusals_in xs) more
