-- No text has two readings.
use Rattle.std.proofs.Common.{◌≡◌, ℕ, List, ◌∷◌, Option, Some, None, IfSome, Ok, Err, Bool, true, false, refl, sym, ◌∙◌, ap, arith, codes, append_assoc}
use Rattle.std.specs.Prelude.{ℤ}
use Rattle.std.proofs.lemmas.Option.{none-some, same_Some}
use Rattle.std.proofs.lemmas.Fmt.{decimal_injective, signed_decimal_injective}
use Rattle.std.specs.Fmt.{decimal, signed_decimal}
use Rattle.tp_types.specs.declared.tasks.Kind.{Kind}
use Rattle.tp_types.specs.declared.tasks.Kind.TheVariants as kinds
use Rattle.tp_types.specs.declared.configs.Verdict.{Verdict}
use Rattle.tp_types.specs.declared.configs.Verdict.TheVariants as verdict
use Rattle.tp_scenario.specs.declared.lines.ScenarioLine.{ScenarioLine}
use Rattle.tp_scenario.specs.declared.lines.ScenarioLine.TheVariants as line
use Rattle.tp_record.specs.Effects.{Outcome}
use Rattle.tp_text.specs.Reads.{IsWord, followed, spaced}
use Rattle.tp_text.specs.Fits.{Fits32, FitsKind, FitsOutcome}
use Rattle.tp_scenario.specs.Lines.{FitsGiven, FitsLine, FitsSubmission, Given, arguments, cancel_text, command_of, given_text, line_text, outcome_text, priority_text, ruling_text, submission_text}
use Rattle.tp_text.specs.Commands.{command_word}
use Rattle.tp_text.specs.EntryLine.{kind_text, switch_word}
use Rattle.tp_types.specs.Verdict.{verdict_name}
use Rattle.tp_text.proofs.WordSplits.{differ, same_words, word_from_test}
use Rattle.tp_text.proofs.NumberTexts.{word_decimal}
use Rattle.tp_scenario.proofs.OutcomeTexts.{marked, outcome_is_word}
use Rattle.tp_text.proofs.CommandWords.{command_word-injective, word_of_command}

-- what is printed of a number says which

same_number : (m n : ℕ) → Fits32 m → Fits32 n → decimal m ≡ decimal n → m ≡ n
same_number m n x y e = decimal_injective m n (omega (arith, x)) (omega (arith, y)) e

value_or_fault : (z : ℤ) (n : ℕ) → FitsOutcome (Ok z) → signed_decimal z ≡ 33 ∷ decimal n → ⊥
value_or_fault z n fits e = marked (signed_decimal z) (decimal n) e z fits refl

pub outcome_text-injective : (o p : Outcome) → FitsOutcome o → FitsOutcome p → outcome_text o ≡ outcome_text p → o ≡ p
outcome_text-injective (Ok z) (Ok y) x w e = ap Ok (signed_decimal_injective z y (omega (arith, x)) (omega (arith, w)) e)
outcome_text-injective (Ok z) (Err n) x w e = absurd (value_or_fault z n x e)
outcome_text-injective (Err m) (Ok y) x w e = absurd (value_or_fault y m w (sym e))
outcome_text-injective (Err m) (Err n) x w e = ap Err (same_number m n x w cc)

priority_text-injective : (p q : Option ℕ) → IfSome p Fits32 → IfSome q Fits32 → priority_text p ≡ priority_text q → p ≡ q
priority_text-injective None None x y e = refl
priority_text-injective None (Some n) x y e = absurd (none-some _ e)
priority_text-injective (Some m) None x y e = absurd (none-some _ (sym e))
priority_text-injective (Some m) (Some n) x y e =
    let parts = same_words (codes "prio") (codes "prio") (Some (decimal m)) (Some (decimal n)) (word_from_test (codes "prio") refl) (word_from_test (codes "prio") refl) (same_Some _ _ e) in
    ap Some (same_number m n x y (same_Some _ _ parts.1))

pub given_text-injective : (g h : Given) → FitsGiven g → FitsGiven h → given_text g ≡ given_text h → g ≡ h
given_text-injective g h x y e =
    let p = same_words (outcome_text g.0) (outcome_text h.0) (priority_text g.1) (priority_text h.1) (outcome_is_word g.0 x.0) (outcome_is_word h.0 y.0) e in
    ap (λ o. (o, g.1)) (outcome_text-injective g.0 h.0 x.0 y.0 p.0) ∙ ap (λ q. (h.0, q)) (priority_text-injective g.1 h.1 x.1 y.1 p.1)

-- a submission's text, as its first word and what follows
abbrev kind_word : Kind → List ℕ
kind_word kinds.Plain = codes "plain"
kind_word kinds.Future = codes "future"
kind_word (kinds.Group g) = codes "group"

abbrev behind_kind : Kind → List ℕ → List ℕ
behind_kind kinds.Plain rest = rest
behind_kind kinds.Future rest = rest
behind_kind (kinds.Group g) rest = spaced (decimal g) rest

kind_is_word : (k : Kind) → IsWord (kind_word k)
kind_is_word kinds.Plain = word_from_test (codes "plain") refl
kind_is_word kinds.Future = word_from_test (codes "future") refl
kind_is_word (kinds.Group g) = word_from_test (codes "group") refl

submission_parts : (k : Kind) (rest : List ℕ) → spaced (kind_text k) rest ≡ followed (kind_word k) (Some (behind_kind k rest))
submission_parts kinds.Plain rest = refl
submission_parts kinds.Future rest = refl
submission_parts (kinds.Group g) rest = append_assoc (codes "group") (32 ∷ decimal g) (32 ∷ rest)

-- the same word says the same kind, but for a group's number
same_kind : (k j : Kind) (x y : List ℕ) → FitsKind k → FitsKind j → kind_word k ≡ kind_word j → behind_kind k x ≡ behind_kind j y → (k ≡ j) × (x ≡ y)
same_kind kinds.Plain kinds.Plain x y f h w e = (refl, e)
same_kind kinds.Plain kinds.Future x y f h w e = absurd (differ (codes "plain") (codes "future") refl w)
same_kind kinds.Plain (kinds.Group g) x y f h w e = absurd (differ (codes "plain") (codes "group") refl w)
same_kind kinds.Future kinds.Plain x y f h w e = absurd (differ (codes "future") (codes "plain") refl w)
same_kind kinds.Future kinds.Future x y f h w e = (refl, e)
same_kind kinds.Future (kinds.Group g) x y f h w e = absurd (differ (codes "future") (codes "group") refl w)
same_kind (kinds.Group g) kinds.Plain x y f h w e = absurd (differ (codes "group") (codes "plain") refl w)
same_kind (kinds.Group g) kinds.Future x y f h w e = absurd (differ (codes "group") (codes "future") refl w)
same_kind (kinds.Group g) (kinds.Group i) x y f h w e =
    let p = same_words (decimal g) (decimal i) (Some x) (Some y) (word_decimal g (omega (arith, f))) (word_decimal i (omega (arith, h))) e in
    (ap kinds.Group (same_number g i f h p.0), same_Some _ _ p.1)

submission_text-injective : (k j : Kind) (o p : Given) → FitsSubmission (k, o) → FitsSubmission (j, p) → submission_text (k, o) ≡ submission_text (j, p) → (k ≡ j) × (o ≡ p)
submission_text-injective k j o p f h e =
    let words = same_words (kind_word k) (kind_word j) (Some (behind_kind k (given_text o))) (Some (behind_kind j (given_text p))) (kind_is_word k) (kind_is_word j)
    (sym (submission_parts k (given_text o)) ∙ e ∙ submission_parts j (given_text p)) in
    let parts = same_kind k j (given_text o) (given_text p) f.0 h.0 words.0 (same_Some _ _ words.1) in
    (parts.0, given_text-injective o p f.1 h.1 parts.1)

verdict_word-injective : (v u : Verdict) → verdict_name v ≡ verdict_name u → v ≡ u
verdict_word-injective verdict.Abort verdict.Abort e = refl
verdict_word-injective verdict.Abort verdict.CallerRuns e = absurd (differ (codes "abort") (codes "callerruns") refl e)
verdict_word-injective verdict.Abort verdict.Discard e = absurd (differ (codes "abort") (codes "discard") refl e)
verdict_word-injective verdict.Abort verdict.DiscardOldest e = absurd (differ (codes "abort") (codes "discardoldest") refl e)
verdict_word-injective verdict.CallerRuns verdict.Abort e = absurd (differ (codes "callerruns") (codes "abort") refl e)
verdict_word-injective verdict.CallerRuns verdict.CallerRuns e = refl
verdict_word-injective verdict.CallerRuns verdict.Discard e = absurd (differ (codes "callerruns") (codes "discard") refl e)
verdict_word-injective verdict.CallerRuns verdict.DiscardOldest e = absurd (differ (codes "callerruns") (codes "discardoldest") refl e)
verdict_word-injective verdict.Discard verdict.Abort e = absurd (differ (codes "discard") (codes "abort") refl e)
verdict_word-injective verdict.Discard verdict.CallerRuns e = absurd (differ (codes "discard") (codes "callerruns") refl e)
verdict_word-injective verdict.Discard verdict.Discard e = refl
verdict_word-injective verdict.Discard verdict.DiscardOldest e = absurd (differ (codes "discard") (codes "discardoldest") refl e)
verdict_word-injective verdict.DiscardOldest verdict.Abort e = absurd (differ (codes "discardoldest") (codes "abort") refl e)
verdict_word-injective verdict.DiscardOldest verdict.CallerRuns e = absurd (differ (codes "discardoldest") (codes "callerruns") refl e)
verdict_word-injective verdict.DiscardOldest verdict.Discard e = absurd (differ (codes "discardoldest") (codes "discard") refl e)
verdict_word-injective verdict.DiscardOldest verdict.DiscardOldest e = refl

switch_word-injective : (a b : Bool) → switch_word a ≡ switch_word b → a ≡ b
switch_word-injective true true e = refl
switch_word-injective true false e = absurd (differ (codes "on") (codes "off") refl e)
switch_word-injective false true e = absurd (differ (codes "off") (codes "on") refl e)
switch_word-injective false false e = refl

ruling_text-injective : (t s : ℕ) (v u : Verdict) → Fits32 t → Fits32 s → ruling_text (t, v) ≡ ruling_text (s, u) → (t ≡ s) × (v ≡ u)
ruling_text-injective t s v u f h e =
    let p = same_words (decimal t) (decimal s) (Some (verdict_name v)) (Some (verdict_name u)) (word_decimal t (omega (arith, f))) (word_decimal s (omega (arith, h))) e in
    (same_number t s f h p.0, verdict_word-injective v u (same_Some _ _ p.1))

cancel_text-injective : (t s : ℕ) (a b : Bool) → Fits32 t → Fits32 s → cancel_text (t, a) ≡ cancel_text (s, b) → (t ≡ s) × (a ≡ b)
cancel_text-injective t s false false f h e = (same_number t s f h e, refl)
cancel_text-injective t s false true f h e =
    let p = same_words (decimal t) (decimal s) None (Some (codes "flag")) (word_decimal t (omega (arith, f))) (word_decimal s (omega (arith, h))) e in absurd (none-some _ p.1)
cancel_text-injective t s true false f h e =
    let p = same_words (decimal t) (decimal s) (Some (codes "flag")) None (word_decimal t (omega (arith, f))) (word_decimal s (omega (arith, h))) e in absurd (none-some _ (sym p.1))
cancel_text-injective t s true true f h e =
    let p = same_words (decimal t) (decimal s) (Some (codes "flag")) (Some (codes "flag")) (word_decimal t (omega (arith, f))) (word_decimal s (omega (arith, h))) e in (same_number t s f h p.0, refl)

-- a line is determined by its command and its arguments
same_line : (l m : ScenarioLine) → FitsLine l → FitsLine m → command_of l ≡ command_of m → arguments l ≡ arguments m → l ≡ m
same_line (line.Submit k o p) (line.Submit j i q) f h c e = let w = submission_text-injective k j (o, p) (i, q) f h (same_Some _ _ e) in ap (λ x. line.Submit x o p) w.0 ∙ ap (λ (g : Given). line.Submit j g.0 g.1) w.1
same_line (line.OfTask v t) (line.OfTask u s) f h c e = let n : t.0 ≡ s.0 = same_number t.0 s.0 f h (same_Some _ _ e) in let w : v ≡ u = cc in ap (λ x. line.OfTask x t) w ∙ ap (λ x. line.OfTask u (record { 0 = x })) n
same_line (line.Verdict t v) (line.Verdict s u) f h c e = let q = ruling_text-injective t.0 s.0 v u f h (same_Some _ _ e) in ap (λ x. line.Verdict (record { 0 = x }) v) q.0 ∙ ap (line.Verdict s) q.1
same_line (line.OfSlot v t) (line.OfSlot u s) f h c e = let n : t.0 ≡ s.0 = decimal_injective t.0 s.0 f h (same_Some _ _ e) in let w : v ≡ u = cc in ap (λ x. line.OfSlot x t) w ∙ ap (λ x. line.OfSlot u (record { 0 = x })) n
same_line (line.OfPool v) (line.OfPool u) f h c e = cc
same_line (line.Cancel t a) (line.Cancel s b) f h c e = let q = cancel_text-injective t.0 s.0 a b f h (same_Some _ _ e) in ap (λ x. line.Cancel (record { 0 = x }) a) q.0 ∙ ap (line.Cancel s) q.1
same_line (line.OfSize v m) (line.OfSize u n) f h c e = let q : m ≡ n = same_number m n f h (same_Some _ _ e) in let w : v ≡ u = cc in ap (λ x. line.OfSize x m) w ∙ ap (line.OfSize u) q
same_line (line.OfTicks v m) (line.OfTicks u n) f h c e = let q : m ≡ n = decimal_injective m n f h (same_Some _ _ e) in let w : v ≡ u = cc in ap (λ x. line.OfTicks x m) w ∙ ap (line.OfTicks u) q
same_line (line.CoreTimeout a) (line.CoreTimeout b) f h c e = ap line.CoreTimeout (switch_word-injective a b (same_Some _ _ e))
same_line _ _ f h c e = cc

-- no two lines have one text
pub line_text-injective : (l m : ScenarioLine) → FitsLine l → FitsLine m → line_text l ≡ line_text m → l ≡ m
line_text-injective l m f h e =
    let p = same_words (command_word (command_of l)) (command_word (command_of m)) (arguments l) (arguments m) (word_of_command (command_of l)) (word_of_command (command_of m)) e in
    same_line l m f h (command_word-injective (command_of l) (command_of m) p.0) p.1
