-- A text falls apart at its spaces into words.
use Rattle.std.proofs.Common.{◌≡◌, ◌≢◌, ℕ, zero, suc, List, [], ◌∷◌, true, false, ◌==◌, Option, Some, None, refl, sym, ◌∙◌, ap, arith, Bor, inl, inr}
use Rattle.std.specs.List.{onto_first}
use Rattle.std.specs.Option.{option_map}
use Rattle.std.proofs.lemmas.List.Splits.{slice_split-cons_yes, slice_split-cons_no}
use Rattle.std.proofs.lemmas.Bool.Decides.{eqb_tells}
use Rattle.tp_text.specs.Reads.{FirstWord, IsWord, followed}
use Rattle.tp_text_record.specs.Rests.{split_words, left}

-- the words of what is there
words_of : Option (List ℕ) → List (List ℕ)
words_of None = []
words_of (Some bytes) = split_words bytes

-- a text, its first word and what follows that
record Cut (bs w : List ℕ) (r : Option (List ℕ)) : Type 0 where
  is_word : IsWord w
  whole : bs ≡ followed w r
  split : split_words bs ≡ w ∷ words_of r

longer_word : (b : ℕ) (w : List ℕ) → b ≢ 32 → IsWord w → IsWord (b ∷ w)
longer_word b w other is zero within = other
longer_word b w other is (suc i) within = is i (omega arith)

longer_text : (b : ℕ) (bs w : List ℕ) (r : Option (List ℕ)) → bs ≡ followed w r → b ∷ bs ≡ followed (b ∷ w) r
longer_text b bs w None e = ap (λ x. b ∷ x) e
longer_text b bs w (Some x) e = ap (λ y. b ∷ y) e

longer_cut : (b : ℕ) (bs w : List ℕ) (r : Option (List ℕ)) → b ≢ 32 → (b == 32) ≡ false → Cut bs w r → Cut (b ∷ bs) (b ∷ w) r
longer_cut b bs w r other test cut = record {
  is_word = longer_word b w other cut.is_word;
  whole = longer_text b bs w r cut.whole;
  split = slice_split-cons_no (λ x. x == 32) b bs test ∙ ap (onto_first b) cut.split;
}

cut_space : (b : ℕ) (bs : List ℕ) → b ≡ 32 → (b == 32) ≡ true → Cut (b ∷ bs) [] (Some bs)
unfolding words_of
cut_space b bs is test = record {
  is_word = λ i within. absurd (omega arith);
  whole = ap (λ x. x ∷ bs) is;
  split = slice_split-cons_yes (λ x. x == 32) b bs test;
}

-- every text has a first word
cut_text : (bs : List ℕ) → (w : List ℕ) × (r : Option (List ℕ)) × Cut bs w r
unfolding words_of
cut_text [] = ([], None, record { is_word = λ i within. absurd (omega arith); whole = refl; split = refl })
cut_text (b ∷ bs) =
    elim (eqb_tells b 32) [ inl p ↦ ([], Some bs, cut_space b bs p.1 p.0) | inr p ↦ (b ∷ (cut_text bs).0, (cut_text bs).1, longer_cut b bs (cut_text bs).0 (cut_text bs).1 p.1 p.0 (cut_text bs).2) ]

split_first : (bs w : List ℕ) (r : Option (List ℕ)) → FirstWord bs w r → split_words bs ≡ w ∷ words_of r
split_first bs w r first =
    let cut = cut_text bs in
    let same = first.only cut.0 cut.1 cut.2.is_word cut.2.whole in
    cut.2.split ∙ ap (λ x. x ∷ words_of cut.1) (sym same.0) ∙ ap (λ x. w ∷ words_of x) (sym same.1)

-- the words of a text are its first and those behind it
pub first_taken : (bs w : List ℕ) (r : Option (Bor (List ℕ))) → FirstWord bs w (option_map (λ x. x.now) r) → split_words bs ≡ w ∷ left r
unfolding words_of
first_taken bs w None first = split_first bs w None first
first_taken bs w (Some x) first = split_first bs w (Some x.now) first

-- a text has a word
pub split_some : (bs : List ℕ) → split_words bs ≢ []
split_some bs none = let cut = (cut_text bs).2.split in cc
