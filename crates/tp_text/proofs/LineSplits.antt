-- A text falls apart at its line feeds in one way.
use Rattle.std.proofs.Common.{◌≡◌, ℕ, zero, suc, List, [], ◌∷◌, ◌++◌, Bool, true, false, not, ◌&&◌, ◌==◌, refl, sym, ◌∙◌, ap, arith, append_assoc}
use Rattle.std.specs.List.{flat_map, list_all}
use Rattle.std.proofs.lemmas.Bool.{eq-eqb}
use Rattle.tp_text.specs.Lines.{HasNoLineFeed, IsLines, ended}

rest_of_line : (b : ℕ) (bs : List ℕ) → HasNoLineFeed (b ∷ bs) → HasNoLineFeed bs
rest_of_line b bs none i within = none (suc i) (omega arith)

-- texts without a line feed, joined
pub single-append : (xs ys : List ℕ) → HasNoLineFeed xs → HasNoLineFeed ys → HasNoLineFeed (xs ++ ys)
single-append [] ys x y i within = y i within
single-append (b ∷ xs) ys x y zero within = x 0 (omega arith)
single-append (b ∷ xs) ys x y (suc i) within = single-append xs ys (rest_of_line b xs x) y i (omega arith)

and_left : (a b : Bool) → (a && b) ≡ true → a ≡ true
and_left true b e = refl
and_left false b e = cc

and_right : (a b : Bool) → (a && b) ≡ true → b ≡ true
and_right true b e = e
and_right false b e = cc

no_feed : (b : ℕ) → not (b == 10) ≡ true → b ≡ 10 → ⊥
no_feed b test e = let is = rw (eq-eqb b 10 e) at test in cc

-- a text each of whose bytes is no line feed
pub single_from_test : (bs : List ℕ) → list_all (λ b. not (b == 10)) bs ≡ true → HasNoLineFeed bs
single_from_test [] all i within = absurd (omega arith)
single_from_test (b ∷ bs) all zero within = no_feed b (and_left (not (b == 10)) (list_all (λ x. not (x == 10)) bs) all)
single_from_test (b ∷ bs) all (suc i) within = single_from_test bs (and_right (not (b == 10)) (list_all (λ x. not (x == 10)) bs) all) i (omega arith)

pub front_line : (m : List ℕ) (ms : List (List ℕ)) (rest : List ℕ) → flat_map ended (m ∷ ms) ++ rest ≡ m ++ 10 ∷ (flat_map ended ms ++ rest)
front_line m ms rest = append_assoc (ended m) (flat_map ended ms) rest ∙ append_assoc m (10 ∷ []) (flat_map ended ms ++ rest)

-- a text with a line feed has one
pub no_cut : (x m q : List ℕ) → HasNoLineFeed x → x ≡ m ++ 10 ∷ q → ⊥
no_cut [] [] q none e = cc
no_cut [] (c ∷ m) q none e = cc
no_cut (b ∷ x) [] q none e = none 0 (omega arith) cc
no_cut (b ∷ x) (c ∷ m) q none e = no_cut x m q (rest_of_line b x none) cc

-- texts fall apart at their first line feed
pub same_cut : (l m r q : List ℕ) → HasNoLineFeed l → HasNoLineFeed m → l ++ 10 ∷ r ≡ m ++ 10 ∷ q → (l ≡ m) × (r ≡ q)
same_cut [] [] r q x y e = (refl, cc)
same_cut [] (c ∷ m) r q x y e = absurd (y 0 (omega arith) cc)
same_cut (b ∷ l) [] r q x y e = absurd (x 0 (omega arith) cc)
same_cut (b ∷ l) (c ∷ m) r q x y e = let p = same_cut l m r q (rest_of_line b l x) (rest_of_line c m y) cc in (cc, p.1)

-- a text falls apart into lines in one way
pub same_lines : (text : List ℕ) (ls ms : List (List ℕ)) (x y : List ℕ) → IsLines text ls x → IsLines text ms y → (ls ≡ ms) × (x ≡ y)
same_lines text [] [] x y a b = (refl, sym a.whole ∙ b.whole)
same_lines text [] (m ∷ ms) x y a b = absurd (no_cut x m (flat_map ended ms ++ y) a.last (sym a.whole ∙ b.whole ∙ front_line m ms y))
same_lines text (l ∷ ls) [] x y a b = absurd (no_cut y l (flat_map ended ls ++ x) b.last (sym b.whole ∙ a.whole ∙ front_line l ls x))
same_lines text (l ∷ ls) (m ∷ ms) x y a b =
    let p = same_cut l m (flat_map ended ls ++ x) (flat_map ended ms ++ y) a.each.0 b.each.0 (sym (front_line l ls x) ∙ sym a.whole ∙ b.whole ∙ front_line m ms y) in
    let q = same_lines (flat_map ended ls ++ x) ls ms x y (record { whole = refl; each = a.each.1; last = a.last }) (record { whole = p.1; each = b.each.1; last = b.last }) in
    (ap (λ v. v ∷ ls) p.0 ∙ ap (λ v. m ∷ v) q.0, q.1)
