-- What each line must be, by the tests of its bytes.
use Rattle.std.proofs.Common.{◌≡◌, ◌≢◌, ℕ, zero, suc, ◌+◌, ◌<◌, ◌≤◌, List, [], ◌∷◌, ◌++◌, length, get_or, Bool, true, false, not, nat_eq, ◌==◌, refl, sym, ◌∙◌, ap, codes, arith, below_more, inl, inr}
use Rattle.std.proofs.lemmas.Bool.{eq-eqb, eqb-true}
use Rattle.std.proofs.Math.Nat.{eq-or-lt_of_le}
use Rattle.std.proofs.Math.Path.{subst}
use Rattle.std.specs.Prelude.{◌↔◌, IsTrue}
use Rattle.std.specs.Str.Iter.{HasSubslice}
use Rattle.std.proofs.lemmas.Str.Ascii.{IsAscii-from_reads}
use Rattle.tp_text.specs.Lines.{IsClean}

-- the first n bytes may stand in a line, and the last of them is this; before the first a space counts as the last
pub record IsCleanUpTo (bytes : List ℕ) (n last : ℕ) : Type 0 where
  pub ascii : (i : ℕ) → i < n → get_or bytes i 0 < 128
  pub returns : (i : ℕ) → i < n → get_or bytes i 0 ≢ 13
  pub first : 0 < n → get_or bytes 0 0 ≢ 32
  pub single : (i : ℕ) → suc i < n → get_or bytes i 0 ≡ 32 → get_or bytes (suc i) 0 ≢ 32
  pub none : n ≡ 0 → last ≡ 32
  pub some : (i : ℕ) → suc i ≡ n → last ≡ get_or bytes i 0

first_stays : (bs : List ℕ) (n last : ℕ) → IsCleanUpTo bs n last → (get_or bs n 0 ≡ 32 → last ≢ 32) → get_or bs 0 0 ≢ 32
first_stays bs zero last so space e = space e (so.none refl)
first_stays bs (suc n) last so space e = so.first (omega arith) e

single_stays : (bs : List ℕ) (n last : ℕ) → IsCleanUpTo bs n last → (get_or bs n 0 ≡ 32 → last ≢ 32) → (i : ℕ) → suc i ≡ n → get_or bs i 0 ≡ 32 → get_or bs n 0 ≢ 32
single_stays bs n last so space i same e f = space f (so.some i same ∙ e)

-- one byte more
pub one_more : (bs : List ℕ) (n last : ℕ) → IsCleanUpTo bs n last → get_or bs n 0 < 128 → get_or bs n 0 ≢ 13 → (get_or bs n 0 ≡ 32 → last ≢ 32) → IsCleanUpTo bs (n + 1) (get_or bs n 0)
one_more bs n last so small other space = record {
  ascii = below_more _ _ so.ascii small;
  returns = below_more _ _ so.returns other;
  first = λ some. first_stays bs n last so space;
  single = λ i within e f. let le : suc i ≤ n = omega arith in
      elim (eq-or-lt_of_le le) [ inl same ↦ single_stays bs n last so space i same e (ap (λ k. get_or bs k 0) (sym same) ∙ f) | inr l ↦ so.single i l e f ];
  none = λ e. absurd (omega arith);
  some = λ i e. let same : n ≡ i = omega arith in ap (λ k. get_or bs k 0) same;
}

-- two spaces stand here
spaces_at : (bs : List ℕ) (i : ℕ) → suc i < length bs → get_or bs i 0 ≡ 32 → get_or bs (suc i) 0 ≡ 32 → HasSubslice bs (codes "  ")
spaces_at [] i within a b = absurd (omega arith)
spaces_at (x ∷ []) i within a b = absurd (omega arith)
spaces_at (x ∷ y ∷ bs) zero within a b = ([], bs, cc)
spaces_at (x ∷ y ∷ bs) (suc i) within a b = let p = spaces_at (y ∷ bs) i (omega arith) a b in (x ∷ p.0, p.1, ap (λ v. x ∷ v) p.2)

-- and where they stand
first_space : (a b : List ℕ) → get_or (a ++ (codes "  " ++ b)) (length a) 0 ≡ 32
first_space [] b = refl
first_space (x ∷ a) b = first_space a b

second_space : (a b : List ℕ) → get_or (a ++ (codes "  " ++ b)) (suc (length a)) 0 ≡ 32
second_space [] b = refl
second_space (x ∷ a) b = second_space a b

fits_spaces : (a b : List ℕ) → suc (length a) < length (a ++ (codes "  " ++ b))
fits_spaces [] b = omega arith
fits_spaces (x ∷ a) b = let h = fits_spaces a b in omega arith

no_spaces : (a b : List ℕ) (last : ℕ) → IsCleanUpTo (a ++ (codes "  " ++ b)) (length (a ++ (codes "  " ++ b))) last → ⊥
no_spaces a b last so = so.single (length a) (fits_spaces a b) (first_space a b) (second_space a b)

-- a text that ends
ends_at : (bs : List ℕ) (i : ℕ) → suc i ≡ length bs → (front : List ℕ) × (bs ≡ front ++ get_or bs i 0 ∷ [])
ends_at [] i same = absurd (omega arith)
ends_at (x ∷ []) zero same = ([], refl)
ends_at (x ∷ []) (suc i) same = absurd (omega arith)
ends_at (x ∷ y ∷ bs) zero same = absurd (omega arith)
ends_at (x ∷ y ∷ bs) (suc i) same = let p = ends_at (y ∷ bs) i (omega arith) in (x ∷ p.0, ap (λ v. x ∷ v) p.1)

last_at : (front : List ℕ) → get_or (front ++ 32 ∷ []) (length front) 0 ≡ 32
last_at [] = refl
last_at (x ∷ front) = last_at front

length_at : (front : List ℕ) → suc (length front) ≡ length (front ++ 32 ∷ [])
length_at [] = refl
length_at (x ∷ front) = ap suc (length_at front)

last_of : (front : List ℕ) (last : ℕ) → IsCleanUpTo (front ++ 32 ∷ []) (length (front ++ 32 ∷ [])) last → last ≡ 32
last_of front last so = so.some (length front) (length_at front) ∙ last_at front

-- a space behind a space, or at the front, is not clean
pub space_stands_out : (bs : List ℕ) (n last : ℕ) → IsCleanUpTo bs n last → n < length bs → get_or bs n 0 ≡ 32 → last ≡ 32 → IsClean bs → ⊥
space_stands_out bs zero last so within here e clean = clean.spaces.first here
space_stands_out bs (suc n) last so within here e clean = clean.spaces.single (spaces_at bs n within (sym (so.some n refl) ∙ e) here)

last_is_none : (bs : List ℕ) (n last : ℕ) → n ≡ length bs → 0 < n → IsCleanUpTo bs n last → IsClean bs → last ≢ 32
last_is_none bs zero last same some so clean e = absurd (omega arith)
last_is_none bs (suc n) last same some so clean e =
    let p = ends_at bs n same in clean.spaces.last p.0 (p.1 ∙ ap (λ b. p.0 ++ b ∷ []) (sym (so.some n refl) ∙ e))

no_space : (n : ℕ) (test : Bool) → nat_eq n 32 ≡ test → IsTrue (not test) → n ≢ 32
no_space n true is other e = cc
no_space n false is other e = let test : nat_eq n 32 ≡ true = eq-eqb n 32 e in cc

test_space : (n : ℕ) (test : Bool) → nat_eq n 32 ≡ test → n ≢ 32 → IsTrue (not test)
test_space n true is other = absurd (other (eqb-true n 32 is))
test_space n false is other = refl

clean_whole : (bs : List ℕ) (last : ℕ) → length bs ≤ 200 → 0 < length bs → IsCleanUpTo bs (length bs) last → last ≢ 32 → IsClean bs
clean_whole bs last short some so other = record {
  short = short;
  ascii = IsAscii-from_reads bs (length bs) (omega arith) so.ascii;
  returns = so.returns;
  spaces = record {
    single = λ two. no_spaces two.0 two.1 last (subst (λ v. IsCleanUpTo v (length v) last) two.2 so);
    first = so.first some;
    last = λ front same. other (last_of front last (subst (λ v. IsCleanUpTo v (length v) last) same so));
  };
}

some_bytes : (n : ℕ) (empty : Bool) → empty ≡ false → empty ≡ (n == 0) → 0 < n
some_bytes zero empty isnt is = cc
some_bytes (suc n) empty isnt is = omega arith

-- a text each of whose bytes may stand in a line is clean just where its last is no space
pub clean_by_last : (bs : List ℕ) (n last : ℕ) (empty : Bool) → length bs ≤ 200 → length bs ≤ n → n ≤ length bs → empty ≡ false → empty ≡ (length bs == 0) → IsCleanUpTo bs n last
    → IsTrue (not (nat_eq last 32)) ↔ IsClean bs
clean_by_last bs n last empty short over under isnt is so =
    let some = some_bytes (length bs) empty isnt is in
    let same : n ≡ length bs = omega arith in
    let whole = subst (λ k. IsCleanUpTo bs k last) same so in (
      (λ test. clean_whole bs last short some whole (no_space last (nat_eq last 32) refl test)),
      (λ clean. test_space last (nat_eq last 32) refl (last_is_none bs (length bs) last refl some whole clean)),
    )
