-- Which lines are those of entries.
use Rattle.std.proofs.Common.{◌≡◌, ◌≢◌, ℕ, List, [], ◌∷◌, ◌++◌, Option, Some, None, Result, Ok, Err, Bor, refl, sym, ◌∙◌, ap, subst, arith, inl, inr}
use Rattle.std.specs.Result.{MatchResult, result_ok}
use Rattle.std.specs.Str.{IsUtf8}
use Rattle.std.specs.Fmt.{decimal}
use Rattle.std.proofs.lemmas.Bool.Decides.{eqb_tells}
use Rattle.std.proofs.lemmas.Fmt.{decimal_injective}
use Rattle.std.proofs.lemmas.List.{append_cancel_right}
use Rattle.std.proofs.lemmas.List.Splits.{join_with_byte-slice_split}
use Rattle.std.proofs.lemmas.Option.{none-some, same_Some}
use Rattle.std.proofs.lemmas.Str.{IsUtf8-from_ascii}
use Rattle.tp_record.specs.declared.entries.Did.{Did}
use Rattle.tp_record.specs.declared.entries.Entry.{Entry}
use Rattle.tp_text.specs.EntryLine.{words, pass_name, entry_line, did_words, entry_words, pass_words}
use Rattle.tp_text.specs.Fits.{Fits32}
use Rattle.tp_text.specs.Lines.{ended}
use Rattle.tp_text.specs.Reads.{ReadsAs}
use Rattle.tp_text_record.specs.EntryFits.{FitsDid, FitsPass, HasLine}
use Rattle.tp_text_record.specs.Rests.{split_words}
use Rattle.tp_text_record.proofs.AnswerLaws.{test_false}
use Rattle.tp_text_record.proofs.EntryTexts.{entry_line-words}
use Rattle.tp_text_record.proofs.Pieces.{entry_pieces, split-words, words_are_ascii}

-- pass 0 is that of no other pass's word
pub no_pass : (w : List ℕ) (by : ℕ) → w ≡ pass_name by → Fits32 by → by ≡ 0 → (v : ℕ) → FitsPass v → w ≢ pass_name v
no_pass w by is small zero v fits same =
    let digits : decimal by ≡ decimal v = cc in
    fits.1 (sym (decimal_injective by v (omega (arith, small)) (omega (arith, fits.0)) digits) ∙ zero)

-- the words of a pass other than 0
pub pass_written : (by : ℕ) → by ≢ 0 → pass_words by ≡ pass_name by ∷ []
pass_written by other = rw (test_false by other) refl

by_zero : (by : ℕ) → by ≡ 0 → pass_words by ≡ []
by_zero by is = ap pass_words is

-- what is neither what pass 0 did nor begins with another pass
pub no_entry : (ws : List (List ℕ)) → ((d : Did) → FitsDid d → ws ≢ did_words d) → ((by : ℕ) (vs : List (List ℕ)) → FitsPass by → ws ≢ pass_name by ∷ vs) → (e : Entry) → HasLine e → ws ≢ pass_words e.by ++ did_words e.did
no_entry ws none other e step same =
    elim (eqb_tells e.by 0) [ inl p ↦ none e.did step.1 (same ∙ ap (λ x. x ++ did_words e.did) (by_zero e.by p.1)) | inr p ↦ other e.by (did_words e.did) (step.0, p.1) (same ∙ ap (λ x. x ++ did_words e.did) (pass_written e.by p.1)) ]

-- a line is the words of its text and its end
words_of_line : (bs : List ℕ) (n : ℕ) (e : Entry) → ended bs ≡ entry_line n e → bs ≡ words (entry_words n e)
words_of_line bs n e same = append_cancel_right bs (words (entry_words n e)) (10 ∷ []) (same ∙ entry_line-words n e)

split_line : (bs : List ℕ) (n : ℕ) (e : Entry) → Fits32 n → HasLine e → ended bs ≡ entry_line n e → split_words bs ≡ entry_words n e
split_line bs n e small step same =
    ap split_words (words_of_line bs n e same) ∙ split-words (decimal n) (pass_words e.by ++ did_words e.did) (entry_pieces n e small step.0 step.1)

-- what is read of the words is what is read of the line
pub line_read : (bs : List ℕ) (r : Option (ℕ × Entry)) → ReadsAs (λ p. entry_words p.0 p.1) (λ p. Fits32 p.0 × HasLine p.1) (split_words bs) r
    → ReadsAs (λ p. entry_line p.0 p.1) (λ p. Fits32 p.0 × HasLine p.1) (ended bs) r
line_read bs (Some p) reads = (reads.0, ap ended (sym (join_with_byte-slice_split 32 bs) ∙ ap words reads.1) ∙ sym (entry_line-words p.0 p.1))
line_read bs None reads = λ p fits same. reads p fits (split_line bs p.0 p.1 fits.0 fits.1 same)

-- what is no text is no entry's line
pub no_text : {E : Type 0} (bs : List ℕ) (r : Result (Bor (List ℕ)) E) (other : E → Type 0) → MatchResult r (λ s. (s.now ≡ bs) × IsUtf8 bs) (λ e. (IsUtf8 bs → ⊥) × other e) → result_ok r ≡ None
    → (p : ℕ × Entry) → Fits32 p.0 × HasLine p.1 → ended bs ≢ entry_line p.0 p.1
no_text bs (Ok s) other reads none p fits same = none-some s (sym none)
no_text bs (Err e) other reads none p fits same =
    let ascii = words_are_ascii (decimal p.0) (pass_words p.1.by ++ did_words p.1.did) (entry_pieces p.0 p.1 fits.0 fits.1.0 fits.1.1) in
    reads.0 (subst IsUtf8 (sym (words_of_line bs p.0 p.1 same)) (IsUtf8-from_ascii (words (entry_words p.0 p.1)) ascii))

-- the text that a line is
pub text_of_line : {E : Type 0} (bs : List ℕ) (x : Bor (List ℕ)) (r : Result (Bor (List ℕ)) E) (other : E → Type 0) → MatchResult r (λ s. (s.now ≡ bs) × IsUtf8 bs) (λ e. (IsUtf8 bs → ⊥) × other e) → result_ok r ≡ Some x → x.now ≡ bs
text_of_line bs x (Ok s) other reads same = ap (λ (y : Bor (List ℕ)). y.now) (sym (same_Some s x same)) ∙ reads.0
text_of_line bs x (Err e) other reads same = absurd (none-some x same)

pub read_as : (bs line : List ℕ) (r : Option (ℕ × Entry)) → bs ≡ line → ReadsAs {V = ℕ × Entry} (λ p. entry_words p.0 p.1) (λ p. Fits32 p.0 × HasLine p.1) (split_words bs) r
    → ReadsAs {V = ℕ × Entry} (λ p. entry_line p.0 p.1) (λ p. Fits32 p.0 × HasLine p.1) (ended line) r
read_as bs line r same reads =
    let P : List ℕ → Type 0 = λ x. ReadsAs {V = ℕ × Entry} (λ p. entry_line p.0 p.1) (λ p. Fits32 p.0 × HasLine p.1) (ended x) r in subst P same (line_read bs r reads)
