-- Which texts are those of outcomes.
use Rattle.std.proofs.Common.{◌≡◌, ◌≢◌, ℕ, zero, suc, List, ◌∷◌, get_or, Option, Some, None, IfSome, Ok, Err, refl, sym, ◌∙◌, ap, subst, arith, codes}
use Rattle.std.specs.Prelude.{ℤ, pos, negsuc}
use Rattle.std.specs.Fmt.{decimal, signed_decimal}
use Rattle.std.proofs.lemmas.Fmt.{decimal_nonempty, digits_decimal}
use Rattle.std.proofs.lemmas.Option.{none-some, same_Some}
use Rattle.std.proofs.lemmas.Str.Parse.{not_in_digits}
use Rattle.tp_record.specs.Effects.{Outcome}
use Rattle.tp_text.specs.Fits.{Fits32, FitsOutcome, FitsValue}
use Rattle.tp_text.specs.Reads.{FirstWord, IsWord, followed, spaced}
use Rattle.tp_text.proofs.NumberTexts.{own, word_decimal}
use Rattle.tp_scenario.specs.Lines.{FitsGiven, Given, given_text, outcome_text, priority_text}

-- the first byte of a printed value is a digit or a minus
no_mark : (z : ℤ) → FitsValue z → get_or (signed_decimal z) 0 0 ≢ 33
no_mark (pos n) fits = not_in_digits own (decimal n) 33 (digits_decimal own n (omega arith)) (λ r. absurd (omega arith)) 0 (decimal_nonempty n (omega arith))
no_mark (negsuc n) fits = λ e. absurd (omega arith)

-- no outcome has a text that is no value's and no fault's
pub no_outcome : (bs : List ℕ) → ((z : ℤ) → FitsValue z → bs ≢ signed_decimal z) → ((n : ℕ) → Fits32 n → bs ≢ 33 ∷ decimal n) → (o : Outcome) → FitsOutcome o → bs ≢ outcome_text o
no_outcome bs no_value no_fault (Ok z) fits = no_value z fits
no_outcome bs no_value no_fault (Err n) fits = no_fault n fits

-- a text that begins with the mark of a fault is no value's
pub marked : (bs ds : List ℕ) → bs ≡ 33 ∷ ds → (z : ℤ) → FitsValue z → bs ≢ signed_decimal z
marked bs ds begins z fits same = no_mark z fits (subst (λ xs. get_or xs 0 0 ≡ 33) (sym begins ∙ same) refl)

pub marked_fault : (bs ds : List ℕ) → bs ≡ 33 ∷ ds → ((n : ℕ) → Fits32 n → ds ≢ decimal n) → (n : ℕ) → Fits32 n → bs ≢ 33 ∷ decimal n
marked_fault bs ds begins none n fits same = none n fits cc

-- outcomes are words

longer_word : (b : ℕ) (w : List ℕ) → b ≢ 32 → IsWord w → IsWord (b ∷ w)
longer_word b w other is zero within = other
longer_word b w other is (suc i) within = is i (omega arith)

pub outcome_is_word : (o : Outcome) → FitsOutcome o → IsWord (outcome_text o)
outcome_is_word (Ok (pos n)) fits = word_decimal n (omega arith)
outcome_is_word (Ok (negsuc n)) fits = longer_word 45 (decimal (suc n)) (λ e. absurd (omega arith)) (word_decimal (suc n) (omega arith))
outcome_is_word (Err n) fits = longer_word 33 (decimal n) (λ e. absurd (omega arith)) (word_decimal n (omega (arith, fits)))

-- a text whose first word is no outcome gives nothing
pub no_given : (bs w : List ℕ) (r : Option (List ℕ)) → FirstWord bs w r → ((o : Outcome) → FitsOutcome o → w ≢ outcome_text o) → (g : Given) → FitsGiven g → bs ≢ given_text g
no_given bs w r first none g fits same = none g.0 fits.0 (first.only (outcome_text g.0) (priority_text g.1) (outcome_is_word g.0 fits.0) same).0

-- nor does one that goes on with no priority
pub no_given_on : (bs w : List ℕ) (r : Option (List ℕ)) → FirstWord bs w r → ((p : Option ℕ) → IfSome p Fits32 → r ≢ priority_text p) → (g : Given) → FitsGiven g → bs ≢ given_text g
no_given_on bs w r first none g fits same = none g.1 fits.1 (first.only (outcome_text g.0) (priority_text g.1) (outcome_is_word g.0 fits.0) same).1

-- what follows an outcome and is no priority
pub no_priority : (r : Option (List ℕ)) (rest : List ℕ) → r ≡ Some rest → ((n : ℕ) → Fits32 n → rest ≢ spaced (codes "prio") (decimal n)) → (p : Option ℕ) → IfSome p Fits32 → r ≢ priority_text p
no_priority r rest is none None fits same = none-some _ (sym same ∙ is)
no_priority r rest is none (Some n) fits same = none n fits (same_Some _ _ (sym is ∙ same))

-- an outcome, and a priority behind it where one is said
pub given_read : (bs w : List ℕ) (r : Option (List ℕ)) (o : Outcome) (p : Option ℕ) → FirstWord bs w r → w ≡ outcome_text o → r ≡ priority_text p → bs ≡ given_text (o, p)
given_read bs w r o p first is goes = first.whole ∙ ap (λ x. followed x r) is ∙ ap (followed (outcome_text o)) goes
