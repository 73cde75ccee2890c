-- Tables that read the same add up to the same.
use Rattle.std.proofs.Common.{◌≡◌, ℕ, suc, List, [], ◌∷◌, None, Option, refl, arith, ap}
use Rattle.std.specs.Prelude.{sum_by}
use Rattle.std.proofs.lemmas.List.Sums.{sum_by-cons}
use Rattle.tp_record.specs.declared.rows.SlotRow.{SlotRow}
use Rattle.tp_record.specs.State.{slot_at}

pub sums_agree : (f : Option SlotRow → ℕ) (xs ys : List (Option SlotRow)) → f None ≡ 0 → ((w : ℕ) → slot_at xs w ≡ slot_at ys w) → sum_by f xs ≡ sum_by f ys
sums_agree f [] [] none same = refl
sums_agree f [] (y ∷ ys) none same =
    let e = sums_agree f [] ys none (λ w. same (suc w)) in
    let r : f None ≡ f y = ap f (same 0) in
    let p : sum_by f [] ≡ sum_by f (y ∷ ys) = omega (arith, e, r, none, sum_by-cons f y ys) in
    p
sums_agree f (x ∷ xs) [] none same =
    let e = sums_agree f xs [] none (λ w. same (suc w)) in
    let r : f x ≡ f None = ap f (same 0) in
    let p : sum_by f (x ∷ xs) ≡ sum_by f [] = omega (arith, e, r, none, sum_by-cons f x xs) in
    p
sums_agree f (x ∷ xs) (y ∷ ys) none same =
    let e = sums_agree f xs ys none (λ w. same (suc w)) in
    let r : f x ≡ f y = ap f (same 0) in
    let p : sum_by f (x ∷ xs) ≡ sum_by f (y ∷ ys) = omega (arith, e, r, sum_by-cons f x xs, sum_by-cons f y ys) in
    p
