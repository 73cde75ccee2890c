-- A line falls apart at its first space in one way.
use Rattle.std.proofs.Common.{◌≢◌, suc, zero, Bool, true, false, not, ◌&&◌, ◌==◌, ◌≡◌, ℕ, List, [], ◌∷◌, length, take, drop, ◌+◌, ◌-◌, ◌<◌, subst, Option, Some, None, refl, sym, ap, arith, ◌∙◌}
use Rattle.std.proofs.lemmas.Bool.{eq-eqb}
use Rattle.std.specs.List.{list_all, slice_index, slice_range}
use Rattle.std.specs.Str.{bytes_eq}
use Rattle.std.proofs.lemmas.Slice.Eq.{bytes_eq-Decides}
use Rattle.tp_text.specs.Reads.{FirstWord, IsWord, followed}

and_left : (a b : Bool) → (a && b) ≡ true → a ≡ true
and_left true b e = refl
and_left false b e = cc

and_right : (a b : Bool) → (a && b) ≡ true → b ≡ true
and_right true b e = e
and_right false b e = cc

not_space : (b : ℕ) → not (b == 32) ≡ true → b ≢ 32
not_space b test e = let is = rw (eq-eqb b 32 e) at test in cc

-- a text each of whose bytes is no space is a word
pub word_from_test : (bs : List ℕ) → list_all (λ b. not (b == 32)) bs ≡ true → IsWord bs
word_from_test [] all i within = absurd (omega arith)
word_from_test (b ∷ bs) all zero within = not_space b (and_left (not (b == 32)) (list_all (λ x. not (x == 32)) bs) all)
word_from_test (b ∷ bs) all (suc i) within = word_from_test bs (and_right (not (b == 32)) (list_all (λ x. not (x == 32)) bs) all) i (omega arith)

-- two words that are told apart by a test differ
pub differ : (a b : List ℕ) → bytes_eq a b ≡ false → a ≢ b
differ a b test e = let yes : bytes_eq a b ≡ true = (bytes_eq-Decides a b).1 e in cc

rest_is_word : (b : ℕ) (bs : List ℕ) → IsWord (b ∷ bs) → IsWord bs
rest_is_word b bs word i within = word (suc i) (omega arith)

-- a text without a space has no space at its head
no_space_first : (b : ℕ) (bs : List ℕ) → IsWord (b ∷ bs) → b ≢ 32
no_space_first b bs word = word 0 (omega arith)

-- texts fall apart at their first space
pub same_words : (w v : List ℕ) (r q : Option (List ℕ)) → IsWord w → IsWord v → followed w r ≡ followed v q → (w ≡ v) × (r ≡ q)
same_words [] [] None None x y e = (refl, refl)
same_words [] [] None (Some q) x y e = cc
same_words [] [] (Some r) None x y e = cc
same_words [] [] (Some r) (Some q) x y e = (refl, cc)
same_words [] (c ∷ v) None None x y e = cc
same_words [] (c ∷ v) None (Some q) x y e = cc
same_words [] (c ∷ v) (Some r) None x y e = absurd (no_space_first c v y cc)
same_words [] (c ∷ v) (Some r) (Some q) x y e = absurd (no_space_first c v y cc)
same_words (b ∷ w) [] None None x y e = cc
same_words (b ∷ w) [] None (Some q) x y e = absurd (no_space_first b w x cc)
same_words (b ∷ w) [] (Some r) None x y e = cc
same_words (b ∷ w) [] (Some r) (Some q) x y e = absurd (no_space_first b w x cc)
same_words (b ∷ w) (c ∷ v) None None x y e = (e, refl)
same_words (b ∷ w) (c ∷ v) None (Some q) x y e = let p = same_words w v None (Some q) (rest_is_word b w x) (rest_is_word c v y) cc in (cc, p.1)
same_words (b ∷ w) (c ∷ v) (Some r) None x y e = let p = same_words w v (Some r) None (rest_is_word b w x) (rest_is_word c v y) cc in (cc, p.1)
same_words (b ∷ w) (c ∷ v) (Some r) (Some q) x y e = let p = same_words w v (Some r) (Some q) (rest_is_word b w x) (rest_is_word c v y) cc in (cc, p.1)

-- a text begins with the word before its first space
pub first_cut : (bs word : List ℕ) (rest : Option (List ℕ)) → IsWord word → bs ≡ followed word rest → FirstWord bs word rest
first_cut bs word rest is whole = record { whole = whole; only = λ w r also same. same_words word w rest r is also (sym whole ∙ same) }

-- a text is what stands before its space of this number, that space, and what stands behind it
cut_at : (bs : List ℕ) (i : ℕ) → i < length bs → slice_index bs i ≡ 32 → bs ≡ followed (take i bs) (Some (drop (suc i) bs))
cut_at [] i within space = absurd (omega arith)
cut_at (b ∷ bs) zero within space = ap (λ x. x ∷ bs) space
cut_at (b ∷ bs) (suc i) within space = ap (λ xs. b ∷ xs) (cut_at bs i (omega arith) space)

-- a text begins with what stands before its first space
pub first_at : (bs : List ℕ) (i : ℕ) (word rest : List ℕ) → (i < length bs) × (slice_index bs i ≡ 32) × IsWord (take i bs) → word ≡ slice_range bs 0 i → rest ≡ drop (i + 1) bs → FirstWord bs word (Some rest)
first_at bs i word rest at front back =
    let same : i - 0 ≡ i = omega arith in
    let next : i + 1 ≡ suc i = omega arith in
    let before : word ≡ take i bs = front ∙ ap (λ k. take k bs) same in
    let behind : rest ≡ drop (suc i) bs = back ∙ ap (λ k. drop k bs) next in
    first_cut bs word (Some rest) (subst IsWord (sym before) at.2) (cut_at bs i at.0 at.1 ∙ ap (λ x. followed x (Some (drop (suc i) bs))) (sym before) ∙ ap (λ x. followed word (Some x)) (sym behind))
