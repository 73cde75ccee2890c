-- What a line says behind the pool line.
use Rattle.std.proofs.Common.{◌≡◌, ◌≢◌, ℕ, suc, ◌+◌, ◌<◌, ◌^◌, List, [], ◌∷◌, ◌++◌, get_or, ◌==◌, None, Result, Ok, Err, Bor, refl, sym, ◌∙◌, ap, subst, arith, codes, inl, inr}
use Rattle.std.specs.Bool.{then_some}
use Rattle.std.specs.Fmt.{decimal}
use Rattle.std.specs.Result.{MatchResult, result_ok}
use Rattle.std.specs.Str.{IsAscii, IsUtf8}
use Rattle.std.proofs.lemmas.Bool.Decides.{eqb_tells}
use Rattle.std.proofs.lemmas.Fmt.{decimal_injective, decimal_nonempty, digits_decimal}
use Rattle.std.proofs.lemmas.List.{append_cancel_right}
use Rattle.std.proofs.lemmas.Option.{none-some}
use Rattle.std.proofs.lemmas.Str.{IsUtf8-from_ascii}
use Rattle.std.proofs.lemmas.Str.Parse.{not_in_digits}
use Rattle.tp_record.specs.declared.entries.Entry.{Entry}
use Rattle.tp_text.specs.EntryLine.{entry_line, did_words, entry_words, pass_words}
use Rattle.tp_text.specs.Fits.{Fits32}
use Rattle.tp_text.specs.Lines.{ended}
use Rattle.tp_text.specs.Reads.{ReadsAs}
use Rattle.tp_text.proofs.NumberTexts.{own}
use Rattle.tp_text_record.specs.declared.records.BodyLine.{BodyLine}
use Rattle.tp_text_record.specs.declared.records.BodyLine.TheVariants as body
use Rattle.tp_text_record.specs.declared.versions.Version.{Version}
use Rattle.tp_text_record.specs.EntryFits.{HasLine, IsStep}
use Rattle.tp_text_record.specs.ReadRecord.{FitsBody, body_text}
use Rattle.tp_text_record.specs.RecordText.{end_line, entry_text}
use Rattle.tp_text_record.specs.Rests.{split_words}
use Rattle.tp_text_record.proofs.EntryTexts.{entry_line-words}
use Rattle.tp_text_record.proofs.Pieces.{Pieces, code, entry_pieces, number_piece, split-words}

-- what is no text is not one of some ASCII texts
pub not_utf8 : {V E : Type 0} (bs : List ℕ) (r : Result (Bor (List ℕ)) E) (other : E → Type 0) (text : V → List ℕ) (fits : V → Type 0) → ((v : V) → fits v → IsAscii (text v)) → MatchResult r (λ s. (s.now ≡ bs) × IsUtf8 bs) (λ e. (IsUtf8 bs → ⊥) × other e) → result_ok r ≡ None
    → (v : V) → fits v → bs ≢ text v
not_utf8 bs (Ok s) other text fits ascii reads none v fit same = none-some s (sym none)
not_utf8 bs (Err e) other text fits ascii reads none v fit same = reads.0 (subst IsUtf8 (sym same) (IsUtf8-from_ascii (text v) (ascii v fit)))

-- the words of an entry's text
pub split_entry : (n : ℕ) (e : Entry) → Fits32 n → HasLine e → split_words (entry_text n e) ≡ entry_words n e
split_entry n e fits step = split-words (decimal n) (pass_words e.by ++ did_words e.did) (entry_pieces n e fits step.0 step.1)

-- entries of one text have one number
pub same_number : (n m : ℕ) (e f : Entry) → Fits32 n → Fits32 m → HasLine e → HasLine f → entry_text n e ≡ entry_text m f → n ≡ m
same_number n m e f x y step other same =
    let both : entry_words n e ≡ entry_words m f = sym (split_entry n e x step) ∙ ap split_words same ∙ split_entry m f y other in
    let digits : decimal n ≡ decimal m = cc in
    decimal_injective n m (omega (arith, x)) (omega (arith, y)) digits

end_pieces : (k : ℕ) → Fits32 k → Pieces (codes "end" ∷ decimal k ∷ [])
end_pieces k fits = (code (codes "end") refl refl refl, (number_piece k (omega (arith, fits)), tt))

no_digits : (n : ℕ) → n < 2 ^ 64 → decimal n ≢ codes "end"
no_digits n small same =
    let first : get_or (decimal n) 0 0 ≡ 101 = ap (λ x. get_or x 0 0) same in
    not_in_digits own (decimal n) 101 (digits_decimal own n small) (λ r. absurd (omega arith)) 0 (decimal_nonempty n small) first

-- an entry does not end a record
pub no_end : (n k : ℕ) (e : Entry) → Fits32 n → Fits32 k → HasLine e → entry_text n e ≢ end_line k
no_end n k e x y step same =
    let both : entry_words n e ≡ codes "end" ∷ decimal k ∷ [] = sym (split_entry n e x step) ∙ ap split_words same ∙ split-words (codes "end") (decimal k ∷ []) (end_pieces k y) in
    let word : decimal n ≡ codes "end" = cc in
    no_digits n (omega (arith, x)) word

text_of_line : (bs : List ℕ) (n : ℕ) (e : Entry) → ended bs ≡ entry_line n e → bs ≡ entry_text n e
text_of_line bs n e same = append_cancel_right bs (entry_text n e) (10 ∷ []) (same ∙ entry_line-words n e)

-- a line of an entry of another number
other_number : (v : Version) (bs : List ℕ) (before n : ℕ) (e : Entry) → suc before < 2 ^ 32 → Fits32 n → HasLine e → bs ≡ entry_text n e → n ≢ suc before → (x : BodyLine) → FitsBody v x → bs ≢ body_text before x
other_number v bs before n e small fits step is other (body.Entry f) fine same = other (same_number n (suc before) e f fits small step fine.0 (sym is ∙ same))
other_number v bs before n e small fits step is other body.End fine same = no_end n before e fits (omega (arith, small)) step (sym is ∙ same)

-- a line of an entry, whose number is compared
pub body_entry : (v : Version) (bs : List ℕ) (before n : ℕ) (e : Entry) → before + 1 < 2 ^ 32 → Fits32 n → IsStep v e → ended bs ≡ entry_line n e → ReadsAs (body_text before) (FitsBody v) bs (then_some (n == (before + 1)) (body.Entry e))
body_entry v bs before n e small fits step same =
    let is = text_of_line bs n e same in
    elim (eqb_tells n (before + 1)) [
      | inl p ↦ let next : n ≡ suc before = omega (arith, p.1) in rw p.0 (step, is ∙ ap (λ x. entry_text x e) next)
      | inr p ↦ rw p.0 (other_number v bs before n e (omega (arith, small)) fits step.0 is (λ next. p.1 (omega (arith, next))))
    ]

no_line : (v : Version) (bs : List ℕ) (n : ℕ) → Fits32 n → ((p : ℕ × Entry) → Fits32 p.0 × IsStep v p.1 → ended bs ≢ entry_line p.0 p.1) → (e : Entry) → IsStep v e → bs ≢ entry_text n e
no_line v bs n fits none e step same = none (n, e) (fits, step) (ap ended same ∙ sym (entry_line-words n e))

-- a line of no entry that does not end the record
pub body_none : (v : Version) (bs : List ℕ) (before : ℕ) → before + 1 < 2 ^ 32 → ((p : ℕ × Entry) → Fits32 p.0 × IsStep v p.1 → ended bs ≢ entry_line p.0 p.1) → bs ≢ end_line before → (x : BodyLine) → FitsBody v x → bs ≢ body_text before x
body_none v bs before small none ends (body.Entry e) fine same = no_line v bs (suc before) (omega (arith, small)) none e fine same
body_none v bs before small none ends body.End fine same = ends same

end_line-injective : (n m : ℕ) → Fits32 n → Fits32 m → end_line n ≡ end_line m → n ≡ m
end_line-injective n m x y same =
    let both : ◌≡◌ {A = List (List ℕ)} (codes "end" ∷ decimal n ∷ []) (codes "end" ∷ decimal m ∷ []) = sym (split-words (codes "end") (decimal n ∷ []) (end_pieces n x)) ∙ ap split_words same ∙ split-words (codes "end") (decimal m ∷ []) (end_pieces m y) in
    let digits : decimal n ≡ decimal m = cc in
    decimal_injective n m (omega (arith, x)) (omega (arith, y)) digits

-- a line of no entry that ends a record, whose number is compared
pub body_end : (v : Version) (bs : List ℕ) (before k : ℕ) → before + 1 < 2 ^ 32 → ((p : ℕ × Entry) → Fits32 p.0 × IsStep v p.1 → ended bs ≢ entry_line p.0 p.1) → Fits32 k → bs ≡ end_line k → ReadsAs (body_text before) (FitsBody v) bs (then_some (k == before) body.End)
body_end v bs before k small none fits is =
    elim (eqb_tells k before) [
      | inl p ↦ rw p.0 (tt, is ∙ ap end_line p.1)
      | inr p ↦ rw p.0 (body_none v bs before small none (λ same. p.1 (end_line-injective k before fits (omega (arith, small)) (sym is ∙ same))))
    ]
