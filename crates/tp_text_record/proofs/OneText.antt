-- No two entries share a text, and no two records do.
use Rattle.std.proofs.Common.{◌≡◌, ◌≢◌, ℕ, suc, ◌+◌, ◌<◌, ◌^◌, List, [], ◌∷◌, ◌++◌, length, get_or, refl, sym, ◌∙◌, ap, subst, arith, inl, inr, append-nil}
use Rattle.std.specs.Fmt.{decimal}
use Rattle.std.specs.List.{AllByRecursion}
use Rattle.std.proofs.lemmas.Bool.Decides.{eqb_tells}
use Rattle.std.proofs.lemmas.List.{append_cancel_right}
use Rattle.std.proofs.lemmas.Fmt.{decimal_injective, decimal_nonempty, digits_decimal}
use Rattle.std.proofs.lemmas.Str.Parse.{not_in_digits}
use Rattle.tp_types.specs.declared.configs.Config.{Config}
use Rattle.tp_record.specs.declared.entries.Did.{Did}
use Rattle.tp_record.specs.declared.entries.Entry.{Entry}
use Rattle.tp_text.specs.declared.commands.Command.{Command}
use Rattle.tp_text.specs.declared.commands.Command.TheVariants as command
use Rattle.tp_text.specs.declared.commands.TaskVerb.TheVariants as task
use Rattle.tp_text.specs.declared.commands.SlotVerb.TheVariants as slot
use Rattle.tp_text.specs.declared.commands.PoolVerb.TheVariants as pool
use Rattle.tp_text.specs.declared.commands.SizeVerb.TheVariants as size
use Rattle.tp_text.specs.declared.commands.TickVerb.TheVariants as ticks
use Rattle.tp_text.specs.Commands.{command_word}
use Rattle.tp_text.specs.EntryLine.{entry_line, pass_name, command_of, did_words, entry_words, pass_words}
use Rattle.tp_text.specs.Fits.{Fits32}
use Rattle.tp_text.specs.Lines.{IsLines, ended}
use Rattle.tp_text.proofs.LineSplits.{same_lines}
use Rattle.tp_text.proofs.NumberTexts.{own}
use Rattle.tp_text_record.specs.declared.versions.Version.{Version}
use Rattle.tp_record.specs.Asked.{asked}
use Rattle.tp_text_record.specs.EntryFits.{HasLine, IsStep, Suits}
use Rattle.tp_text_record.specs.Rests.{split_words}
use Rattle.tp_text_record.specs.RecordText.{HasText, end_line, entry_text, entry_texts, record_lines, record_text}
use Rattle.tp_text_record.proofs.BodyLines.{no_end, same_number, split_entry}
use Rattle.tp_text_record.proofs.EntryLaws.{pass_written}
use Rattle.tp_text_record.proofs.EntryTexts.{entry_line-words}
use Rattle.tp_text_record.proofs.PoolTexts.{pool_line-injective}
use Rattle.tp_text_record.proofs.RecordLines.{header-injective, record_lines-single}
use Rattle.tp_text_record.proofs.TellDid.{did_words-injective}

-- the second byte of each command is a letter
letter : (c : Command) → 57 < get_or (command_word c) 1 0
letter (command.OfTask task.Look) = omega arith
letter (command.OfSlot slot.Open) = omega arith
letter (command.OfPool pool.Stop) = omega arith
letter (command.OfSize size.Core) = omega arith
letter (command.OfTicks ticks.Tick) = omega arith
letter _ = omega arith

-- no command is a pass
no_pass_word : (c : Command) (by : ℕ) → Fits32 by → command_word c ≢ pass_name by
no_pass_word c by fits same =
    let small : by < 2 ^ 64 = omega (arith, fits) in
    let second : get_or (command_word c) 1 0 ≡ get_or (decimal by) 0 0 = ap (λ x. get_or x 1 0) same in
    let far = letter c in
    not_in_digits own (decimal by) (get_or (decimal by) 0 0) (digits_decimal own by small) (λ r. absurd (omega (arith, second, far))) 0 (decimal_nonempty by small) refl

-- what pass 0 did is what no other pass did
no_other : (d e : Did) (by : ℕ) → Fits32 by → did_words d ≢ pass_name by ∷ did_words e
no_other d e by fits same = let word : command_word (command_of d) ≡ pass_name by = cc in no_pass_word (command_of d) by fits word

unpassed : (by : ℕ) (ws : List (List ℕ)) → by ≡ 0 → pass_words by ++ ws ≡ ws
unpassed by ws zero = ap (λ x. pass_words x ++ ws) zero

passed : (by : ℕ) (ws : List (List ℕ)) → by ≢ 0 → pass_words by ++ ws ≡ pass_name by ∷ ws
passed by ws other = ap (λ x. x ++ ws) (pass_written by other)

pass_digits : (n m : ℕ) (vs ws : List (List ℕ)) → pass_name n ∷ vs ≡ pass_name m ∷ ws → decimal n ≡ decimal m
pass_digits n m vs ws same = cc

behind_pass : (n m : ℕ) (vs ws : List (List ℕ)) → pass_name n ∷ vs ≡ pass_name m ∷ ws → vs ≡ ws
behind_pass n m vs ws same = cc

-- the words behind an entry's number tell its pass and what it did
same_pass : (n m : ℕ) (d e : Did) → Fits32 n → Fits32 m → pass_words n ++ did_words d ≡ pass_words m ++ did_words e → (n ≡ m) × (did_words d ≡ did_words e)
same_pass n m d e x y same =
    elim (eqb_tells n 0) [
      | inl p ↦ elim (eqb_tells m 0) [
        | inl q ↦ (p.1 ∙ sym q.1, sym (unpassed n (did_words d) p.1) ∙ same ∙ unpassed m (did_words e) q.1)
        | inr q ↦ absurd (no_other d e m y (sym (unpassed n (did_words d) p.1) ∙ same ∙ passed m (did_words e) q.1))
      ]
      | inr p ↦ elim (eqb_tells m 0) [
        | inl q ↦ absurd (no_other e d n x (sym (unpassed m (did_words e) q.1) ∙ sym same ∙ passed n (did_words d) p.1))
        | inr q ↦
            let both = sym (passed n (did_words d) p.1) ∙ same ∙ passed m (did_words e) q.1 in
            (decimal_injective n m (omega (arith, x)) (omega (arith, y)) (pass_digits n m (did_words d) (did_words e) both), behind_pass n m (did_words d) (did_words e) both)
      ]
    ]

entry_by : ℕ → Did → Entry
entry_by by d = record { by = by; ask = asked d; did = d }

-- an entry whose answer is of the form of its ask is that of its pass and what was done
by_its_did : (e : Entry) → HasLine e → e ≡ entry_by e.by e.did
unfolding entry_by
by_its_did e step = ap (λ a. record e { ask = a }) step.2

-- entries of one text are one entry, with one number
entry_text-injective : (n m : ℕ) (e f : Entry) → Fits32 n → Fits32 m → HasLine e → HasLine f → entry_text n e ≡ entry_text m f → (n ≡ m) × (e ≡ f)
entry_text-injective n m e f x y step other same =
    let both : entry_words n e ≡ entry_words m f = sym (split_entry n e x step) ∙ ap split_words same ∙ split_entry m f y other in
    let behind : pass_words e.by ++ did_words e.did ≡ pass_words f.by ++ did_words f.did = cc in
    let parts = same_pass e.by f.by e.did f.did step.0 other.0 behind in
    let dids = did_words-injective e.did f.did step.1 other.1 parts.1 in
    (same_number n m e f x y step other same, by_its_did e step ∙ ap (λ b. entry_by b e.did) parts.0 ∙ ap (entry_by f.by) dids ∙ sym (by_its_did f other))

-- so are entries of one line
pub entry_line-injective : (n m : ℕ) (e f : Entry) → Fits32 n → Fits32 m → HasLine e → HasLine f → entry_line n e ≡ entry_line m f → (n ≡ m) × (e ≡ f)
entry_line-injective n m e f x y step other same =
    entry_text-injective n m e f x y step other (append_cancel_right (entry_text n e) (entry_text m f) (10 ∷ []) (sym (entry_line-words n e) ∙ same ∙ entry_line-words m f))

-- a line of an entry for which a form has none is that of no entry in this form
pub unsuited_line : (v : Version) (bs : List ℕ) (n : ℕ) (e : Entry) → Fits32 n → HasLine e → ended bs ≡ entry_line n e → (Suits v e.did → ⊥) → (p : ℕ × Entry) → Fits32 p.0 × IsStep v p.1 → ended bs ≢ entry_line p.0 p.1
unsuited_line v bs n e small line is none p fits same =
    let one = entry_line-injective n p.0 e p.1 small fits.0 line fits.1.0 (sym is ∙ same) in none (subst (λ (x : Entry). Suits v x.did) (sym one.1) fits.1.1)

heads : (x y : List ℕ) (xs ys : List (List ℕ)) → x ∷ xs ≡ y ∷ ys → x ≡ y
heads x y xs ys e = cc

tails : (x y : List ℕ) (xs ys : List (List ℕ)) → x ∷ xs ≡ y ∷ ys → xs ≡ ys
tails x y xs ys e = cc

-- the lines of entries and of the end tell the entries
same_entries : (v w : Version) (n k l : ℕ) (es fs : List Entry) → Fits32 k → Fits32 l → n + length es < 2 ^ 32 → n + length fs < 2 ^ 32 → AllByRecursion (IsStep v) es → AllByRecursion (IsStep w) fs
    → entry_texts (suc n) es ++ end_line k ∷ [] ≡ entry_texts (suc n) fs ++ end_line l ∷ [] → es ≡ fs
same_entries v w n k l [] [] x y a b steps others same = refl
same_entries v w n k l [] (f ∷ fs) x y a b steps others same = absurd (no_end (suc n) k f (omega (arith, b)) x others.0.0 (sym (heads _ _ _ _ same)))
same_entries v w n k l (e ∷ es) [] x y a b steps others same = absurd (no_end (suc n) l e (omega (arith, a)) y steps.0.0 (heads _ _ _ _ same))
same_entries v w n k l (e ∷ es) (f ∷ fs) x y a b steps others same =
    let first = (entry_text-injective (suc n) (suc n) e f (omega (arith, a)) (omega (arith, b)) steps.0.0 others.0.0 (heads _ _ _ _ same)).1 in
    let rest = same_entries v w (suc n) k l es fs x y (omega (arith, a)) (omega (arith, b)) steps.1 others.1 (tails _ _ _ _ same) in
    ap (λ x. x ∷ es) first ∙ ap (λ x. f ∷ x) rest

lines_of : (text : List ℕ) (v : Version) (c : Config) (es : List Entry) → HasText v c es → text ≡ record_text v c es → IsLines text (record_lines v c es) []
lines_of text v c es has is = record { whole = is ∙ sym (append-nil (record_text v c es)); each = record_lines-single v c es has; last = λ i within. absurd (omega arith) }

-- records of one text are one record, in one form
pub record_text-injective : (v w : Version) (c d : Config) (es fs : List Entry) → HasText v c es → HasText w d fs → record_text v c es ≡ record_text w d fs → (v ≡ w) × (c ≡ d) × (es ≡ fs)
record_text-injective v w c d es fs x y same =
    let lines = (same_lines (record_text v c es) (record_lines v c es) (record_lines w d fs) [] [] (lines_of (record_text v c es) v c es x refl) (lines_of (record_text v c es) w d fs y same)).0 in
    let behind = tails _ _ _ _ lines in
    (header-injective v w (heads _ _ _ _ lines), pool_line-injective c d x.config.0 y.config.0 (heads _ _ _ _ behind), same_entries v w 0 (length es) (length fs) es fs x.count y.count (omega (arith, x.count)) (omega (arith, y.count)) x.steps y.steps (tails _ _ _ _ behind))
