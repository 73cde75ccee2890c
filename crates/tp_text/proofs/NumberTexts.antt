-- Numbers as they stand in texts, and what `parse` makes of them.
use Rattle.std.proofs.Common.{◌≡◌, ◌≢◌, ℕ, zero, suc, ◌<◌, ◌≤◌, ◌^◌, List, [], ◌∷◌, get_or, Bool, true, false, Result, Ok, Err, refl, sym, ◌∙◌, ap, subst, arith, inl, inr, ◌⊎◌}
use Rattle.std.specs.Prelude.{ℤ, pos, negsuc, neg_ℤ, FitsSigned}
use Rattle.std.specs.Int.{w64}
use Rattle.std.specs.Fmt.{decimal, signed_decimal}
use Rattle.std.specs.Str.Parse.{ParsesUnsigned, ParsesSigned, AllDigits, digits_value}
use Rattle.std.specs.Result.{result_ok}
use Rattle.std.proofs.lemmas.Fmt.{first_decimal, decimal_nonempty, decimal_digit, decimal-digits_value, digits_decimal, parse-decimal, parse-signed_decimal}
use Rattle.std.proofs.lemmas.Str.Parse.{IsNumeralModel, numerals_by_value, tells_digits, without_leading_plus_none, not_in_digits}
use Rattle.std.proofs.lemmas.Str.Parse.{parse_signed_minus, parse_signed_plain}
use Rattle.std.proofs.lemmas.Bool.Decides.{eqb_tells}
use Rattle.tp_text.specs.Fits.{FitsValue}
use Rattle.tp_text.specs.Lines.{HasNoLineFeed}
use Rattle.tp_text.specs.Reads.{IsPlain, IsPlainValue, IsWord, ReadsAs}

pub own : IsNumeralModel (AllDigits 10) (digits_value 10)
own = numerals_by_value (AllDigits 10) tells_digits

-- a printed number is plain
pub plain_decimal : (n : ℕ) → n < 2 ^ 64 → IsPlain (decimal n)
plain_decimal zero h = subst IsPlain (sym (decimal_digit 0 (omega arith))) ((λ e. absurd (omega arith)), (λ e. refl))
plain_decimal (suc n) h =
    let above : 48 < get_or (decimal (suc n)) 0 0 = first_decimal (suc n) (omega arith) h in
    ((λ e. absurd (omega arith)), (λ e. absurd (omega arith)))

-- a printed number has no space
pub word_decimal : (n : ℕ) → n < 2 ^ 64 → IsWord (decimal n)
word_decimal n h = not_in_digits own (decimal n) 32 (digits_decimal own n h) (λ r. absurd (omega arith))

-- a printed number has no line feed
pub single_decimal : (n : ℕ) → n < 2 ^ 64 → HasNoLineFeed (decimal n)
single_decimal n h = not_in_digits own (decimal n) 10 (digits_decimal own n h) (λ r. absurd (omega arith))

-- what `parse` makes of a plain text, without the error
pub plain_read : {E : Type 0} (k : ℕ) (bs : List ℕ) (r : Result ℕ E) → 2 ^ k ≤ 2 ^ 64 → IsPlain bs → ParsesUnsigned k 10 bs r → ReadsAs decimal (λ n. n < 2 ^ k) bs (result_ok r)
plain_read k bs (Ok n) wide plain parses =
    let p = rw (without_leading_plus_none bs plain.0) at parses in
    let printed : decimal (digits_value 10 bs) ≡ bs = decimal-digits_value own bs p.0.0.1 p.0.0.0 plain.1 (omega arith) in
    (rw p.1 p.0.1, rw p.1 (sym printed))
plain_read {E} k bs (Err x) wide plain parses =
    λ n small same. let read : ◌≡◌ {A = Result ℕ E} (Err x) (Ok n) = parse-decimal k n bs (Err x) small (omega arith) same parses in cc

-- a text that is not plain is what is printed of no number
pub not_plain : (bs : List ℕ) (b : Bool) → (IsPlain bs → b ≡ true) → b ≡ false → (n : ℕ) → n < 2 ^ 64 → bs ≢ decimal n
not_plain bs b tells isnt n small same =
    let yes : b ≡ true = tells (subst IsPlain (sym same) (plain_decimal n small)) in cc

-- a minus is followed by no zero, and what has no minus is plain
pub negated_text : (m : ℕ) (ds : List ℕ) → decimal m ≡ ds → get_or ds 0 0 ≢ 48 → signed_decimal (neg_ℤ (pos m)) ≡ 45 ∷ ds
negated_text zero ds same above = absurd (above (subst (λ xs. get_or xs 0 0 ≡ 48) (sym (decimal_digit 0 (omega arith)) ∙ same) refl))
negated_text (suc m) ds same above = ap (λ xs. 45 ∷ xs) same

-- a printed value is plain behind its minus
pub plain_signed : (z : ℤ) → FitsSigned w64 z → IsPlainValue (signed_decimal z)
plain_signed (pos n) fits =
    let digits = not_in_digits own (decimal n) 45 (digits_decimal own n (omega arith)) (λ r. absurd (omega arith)) 0 (decimal_nonempty n (omega arith)) in
    ((λ e. absurd (digits e)), (λ e. plain_decimal n (omega arith)))
plain_signed (negsuc n) fits =
    let above : 48 < get_or (decimal (suc n)) 0 0 = first_decimal (suc n) (omega arith) (omega arith) in
    ((λ e f. absurd (omega arith)), (λ e. absurd (e refl)))

-- a text whose first byte is a minus has one in front
pub minus_first : (bs : List ℕ) → ((rest : List ℕ) → bs ≢ 45 ∷ rest) → get_or bs 0 0 ≢ 45
minus_first [] none e = absurd (omega arith)
minus_first (b ∷ bs) none e = none bs (ap (λ x. x ∷ bs) e)

minus_read : (E : Type 0) (ds : List ℕ) (z : ℤ) → get_or ds 0 0 ≢ 48 → ParsesSigned {E = E} w64 10 (45 ∷ ds) (Ok z) → 45 ∷ ds ≡ signed_decimal z
minus_read E ds z above parses =
    let p = parse_signed_minus own {E = E} w64 (45 ∷ ds) (Ok z) parses refl in
    let printed : decimal (digits_value 10 ds) ≡ ds = decimal-digits_value own ds p.0.0 p.0.1 (λ e. absurd (above e)) (omega arith) in
    rw p.1 (sym (negated_text (digits_value 10 ds) ds printed above))

plain_signed_read : (E : Type 0) (bs : List ℕ) (z : ℤ) → get_or bs 0 0 ≢ 45 → IsPlain bs → ParsesSigned {E = E} w64 10 bs (Ok z) → bs ≡ signed_decimal z
plain_signed_read E bs z none plain parses =
    let p = parse_signed_plain own {E = E} w64 bs (Ok z) parses plain.0 none in
    let printed : decimal (digits_value 10 bs) ≡ bs = decimal-digits_value own bs p.0.0 p.0.1 plain.1 (omega arith) in
    rw p.1 (sym printed)

sign_cases : (E : Type 0) (b : ℕ) (ds : List ℕ) (z : ℤ) → (b ≡ 45) ⊎ (b ≢ 45) → IsPlainValue (b ∷ ds) → ParsesSigned {E = E} w64 10 (b ∷ ds) (Ok z) → b ∷ ds ≡ signed_decimal z
sign_cases E b ds z (inl e) plain parses =
    let P : ℕ → Type 0 = λ x. ParsesSigned {E = E} w64 10 (x ∷ ds) (Ok z) in
    ap (λ x. x ∷ ds) e ∙ minus_read E ds z (plain.0 e) (subst P e parses)
sign_cases E b ds z (inr none) plain parses = plain_signed_read E (b ∷ ds) z none (plain.1 none) parses

same_or_not : (a b : ℕ) → (a ≡ b) ⊎ (a ≢ b)
same_or_not a b = elim (eqb_tells a b) [ inl p ↦ inl p.1 | inr p ↦ inr p.1 ]

-- what `parse` makes of a text whose sign is plain, without the error
pub value_read : {E : Type 0} (bs : List ℕ) (r : Result ℤ E) → IsPlainValue bs → ParsesSigned w64 10 bs r → ReadsAs signed_decimal FitsValue bs (result_ok r)
value_read [] (Ok z) plain parses = absurd (omega (arith, parses.0.0))
value_read {E} (b ∷ ds) (Ok z) plain parses = (rw parses.1 parses.0.1, sign_cases E b ds z (same_or_not b 45) plain parses)
value_read {E} bs (Err x) plain parses =
    λ z fits same. let read : ◌≡◌ {A = Result ℤ E} (Err x) (Ok z) = parse-signed_decimal w64 z bs (Err x) fits (omega arith) same parses in cc

-- a text that is not plain behind its minus is what is printed of no value
pub not_plain_value : (bs : List ℕ) (b : Bool) → (IsPlainValue bs → b ≡ true) → b ≡ false → (z : ℤ) → FitsValue z → bs ≢ signed_decimal z
not_plain_value bs b tells isnt z fits same =
    let yes : b ≡ true = tells (subst IsPlainValue (sym same) (plain_signed z fits)) in cc
