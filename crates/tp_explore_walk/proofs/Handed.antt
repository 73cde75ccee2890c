-- Numbers that are handed on along the rows of a graph, as a program keeps them and as sums.
use Rattle.std.proofs.Common.{◌≡◌, ◌≢◌, ◌==◌, ℕ, zero, suc, ◌+◌, ◌*◌, ◌<◌, Bool, true, false, cond, List, [], ◌∷◌, ◌++◌, length, get_or, set, sum_by, refl, ◌∙◌, arith}
use Rattle.std.specs.List.{All, AllZip}
use Rattle.std.proofs.Math.Nat.{mul_comm, mul-add}
use Rattle.std.proofs.lemmas.Bool.Decides.{nat_tests}
use Rattle.std.proofs.lemmas.List.{length-set, get_or-set_same, get_or-set_other}
use Rattle.std.proofs.lemmas.List.Elements.{All-head, All-tail}
use Rattle.std.proofs.lemmas.List.Sums.{sum_by-cons}
use Rattle.tp_explore_walk.specs.declared.counts.Count.{Count}
use Rattle.tp_explore_walk.specs.Paths.{Tells, add_at, add_all, row_of, handed_on}

-- kept counts beside the numbers that they tell

pub told_set : (cs : List Count) (ns : List ℕ) (j n : ℕ) (c : Count) → AllZip Tells cs ns → Tells c n → AllZip Tells (set cs j c) (set ns j n)
told_set [] [] j n c h t = tt
told_set [] (m ∷ ns) j n c h t = absurd h
told_set (k ∷ cs) [] j n c h t = absurd h
told_set (k ∷ cs) (m ∷ ns) zero n c h t = (t, h.1)
told_set (k ∷ cs) (m ∷ ns) (suc j) n c h t = (h.0, told_set cs ns j n c h.1 t)

pub told_at : (cs : List Count) (ns : List ℕ) (j : ℕ) (d : Count) → AllZip Tells cs ns → j < length cs → Tells (get_or cs j d) (get_or ns j 0)
told_at [] [] j d h lt = absurd (omega arith)
told_at [] (m ∷ ns) j d h lt = absurd h
told_at (k ∷ cs) [] j d h lt = absurd h
told_at (k ∷ cs) (m ∷ ns) zero d h lt = h.0
told_at (k ∷ cs) (m ∷ ns) (suc j) d h lt = told_at cs ns j d h.1 (omega arith)

pub add_all-more : (ns row : List ℕ) (j c : ℕ) → add_all ns (row ++ j ∷ []) c ≡ add_at (add_all ns row c) j c
add_all-more ns [] j c = refl
add_all-more ns (k ∷ row) j c = add_all-more (add_at ns k c) row j c

pub handed_on-more : (rows : List (List ℕ)) (ks : List ℕ) (k : ℕ) (ns : List ℕ) →
    handed_on rows (ks ++ k ∷ []) ns ≡ add_all (handed_on rows ks ns) (row_of rows k) (get_or (handed_on rows ks ns) k 0)
handed_on-more rows [] k ns = refl
handed_on-more rows (j ∷ ks) k ns = handed_on-more rows ks k (add_all ns (row_of rows j) (get_or ns j 0))

pub length-add_all : (ns row : List ℕ) (c : ℕ) → length (add_all ns row c) ≡ length ns
length-add_all ns [] c = refl
length-add_all ns (j ∷ row) c = length-add_all (add_at ns j c) row c ∙ length-set ns j _

-- sums

-- the sum over these places of their number times their weight
abbrev pub weigh : (ℕ → ℕ) → List ℕ → List ℕ → ℕ
weigh w ns ks = sum_by (λ k. get_or ns k 0 * w k) ks

-- how often a place is among them
abbrev pub occurs : ℕ → List ℕ → ℕ
occurs j ks = sum_by (λ k. cond (k == j) 1 0) ks

add_mul : (a b c : ℕ) → (a + b) * c ≡ a * c + b * c
add_mul a b c = mul_comm (a + b) c ∙ mul-add c a b ∙ (let p = mul_comm c a in let q = mul_comm c b in omega (arith, p, q))

weigh-one : (w : ℕ → ℕ) (ns : List ℕ) (j c k : ℕ) → j < length ns → (b : Bool) → (k == j) ≡ b →
    get_or (add_at ns j c) k 0 * w k ≡ get_or ns k 0 * w k + cond b 1 0 * (c * w j)
weigh-one w ns j c k lt true e =
    let same : k ≡ j = grind (arith, nat_tests) in
    let there : get_or (add_at ns j c) j 0 ≡ get_or ns j 0 + c = get_or-set_same ns j (get_or ns j 0 + c) 0 lt in
    let p = add_mul (get_or ns j 0) c (w j) in
    rw (same, there) (p ∙ omega arith)
weigh-one w ns j c k lt false e =
    let other : k ≢ j = λ s. grind (arith, nat_tests) in
    let there : get_or (add_at ns j c) k 0 ≡ get_or ns k 0 = get_or-set_other ns j k (get_or ns j 0 + c) 0 other in
    rw there (omega arith)

pub weigh-add_at : (w : ℕ → ℕ) (ns : List ℕ) (j c : ℕ) (ks : List ℕ) → j < length ns → weigh w (add_at ns j c) ks ≡ weigh w ns ks + occurs j ks * (c * w j)
weigh-add_at w ns j c [] lt = omega arith
weigh-add_at w ns j c (k ∷ ks) lt =
    let a = sum_by-cons (λ k. get_or (add_at ns j c) k 0 * w k) k ks in
    let b = sum_by-cons (λ k. get_or ns k 0 * w k) k ks in
    let d = sum_by-cons (λ k. cond (k == j) 1 0) k ks in
    let one = weigh-one w ns j c k lt (k == j) refl in
    let more = weigh-add_at w ns j c ks lt in
    let m = add_mul (cond (k == j) 1 0) (occurs j ks) (c * w j) in
    rw (a, b, d, one, more, m) (omega arith)

-- where each place of the row is among them so often
pub weigh-add_all : (w : ℕ → ℕ) (ks : List ℕ) (m : ℕ) (ns row : List ℕ) (c : ℕ) → All (λ j. j < length ns) row → All (λ j. occurs j ks ≡ m) row →
    weigh w (add_all ns row c) ks ≡ weigh w ns ks + m * (c * sum_by w row)
weigh-add_all w ks m ns [] c within often = omega arith
weigh-add_all w ks m ns (j ∷ row) c within often =
    let lt = All-head (λ i. i < length ns) j row within in
    let o = All-head (λ i. occurs i ks ≡ m) j row often in
    let long : length (add_at ns j c) ≡ length ns = length-set ns j (get_or ns j 0 + c) in
    let more = weigh-add_all w ks m (add_at ns j c) row c (rw long (All-tail (λ i. i < length ns) j row within)) (All-tail (λ i. occurs i ks ≡ m) j row often) in
    let one = weigh-add_at w ns j c ks lt in
    let s = sum_by-cons w j row in
    let p = mul-add c (w j) (sum_by w row) in
    let q = mul-add m (c * w j) (c * sum_by w row) in
    rw (more, one, o, s, p, q) (omega arith)
