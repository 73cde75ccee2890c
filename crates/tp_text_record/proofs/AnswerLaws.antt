-- Which words are those of no answer.
use Rattle.std.proofs.Common.{◌≡◌, ◌≢◌, ℕ, List, [], ◌∷◌, ◌++◌, false, ◌==◌, Option, Some, None, refl, sym, ◌∙◌, ap, arith, codes, inl, inr}
use Rattle.std.specs.Fmt.{decimal}
use Rattle.std.proofs.lemmas.Bool.Decides.{eqb_tells}
use Rattle.std.proofs.lemmas.Fmt.{decimal_injective}
use Rattle.tp_types.specs.declared.ids.SlotId.{SlotId}
use Rattle.tp_types.specs.declared.ids.TaskId.{TaskId}
use Rattle.tp_types.specs.declared.tasks.Kind.{Kind}
use Rattle.tp_types.specs.declared.tasks.Kind.TheVariants as kinds
use Rattle.tp_record.specs.declared.entries.Looked.{Looked}
use Rattle.tp_record.specs.declared.entries.Looked.TheVariants as looked
use Rattle.tp_record.specs.declared.entries.Opened.{Opened}
use Rattle.tp_record.specs.declared.entries.Opened.TheVariants as opened
use Rattle.tp_record.specs.declared.entries.Ruled.{Ruled}
use Rattle.tp_record.specs.declared.entries.Ruled.TheVariants as ruled
use Rattle.tp_record.specs.declared.entries.Seconded.{Seconded}
use Rattle.tp_record.specs.declared.entries.Seconded.TheVariants as seconded
use Rattle.tp_text.specs.EntryLine.{seconded_words, reserved_words, ruled_words, dropped_words, opened_words, refused_words, kind_words, looked_words, priority_words}
use Rattle.tp_text.specs.Fits.{Fits32, FitsKind}
use Rattle.tp_text.specs.Reads.{ReadsAs}
use Rattle.tp_text.proofs.WordSplits.{differ}
use Rattle.tp_text_record.specs.EntryFits.{FitsSeconded, FitsReserved, FitsRuled, FitsOpened, FitsTold, FitsLooked, FitsPriority}

pub no_seconded : (ws rest : List (List ℕ)) (w : List ℕ) → ws ≡ w ∷ rest → w ≡ codes "stay" → ((o : Option SlotId) → FitsReserved o → rest ≢ reserved_words o) → (s : Seconded) → FitsSeconded s → ws ≢ seconded_words s
no_seconded ws rest w is stay none seconded.Stay fits same = none None tt cc
no_seconded ws rest w is stay none (seconded.StayReserve v) fits same = none (Some v) fits cc
no_seconded ws rest w is stay none seconded.Back fits same = differ (codes "stay") (codes "back") refl cc

pub no_ruled : (ws rest : List (List ℕ)) (w : List ℕ) → ws ≡ w ∷ rest → w ≡ codes "retry" → ((o : Option TaskId) → FitsTold o → rest ≢ dropped_words o) → (r : Ruled) → FitsRuled r → ws ≢ ruled_words r
no_ruled ws rest w is retry none ruled.Rejected fits same = differ (codes "retry") (codes "rejected") refl cc
no_ruled ws rest w is retry none ruled.Caller fits same = differ (codes "retry") (codes "caller") refl cc
no_ruled ws rest w is retry none ruled.Skip fits same = differ (codes "retry") (codes "skip") refl cc
no_ruled ws rest w is retry none ruled.Discarded fits same = differ (codes "retry") (codes "discarded") refl cc
no_ruled ws rest w is retry none ruled.Retry fits same = none None tt cc
no_ruled ws rest w is retry none (ruled.RetryDrop t) fits same = none (Some t) fits cc

pub no_opened : (ws rest : List (List ℕ)) (w : List ℕ) → ws ≡ w ∷ rest → w ≡ codes "givenup" → ((o : Option TaskId) → FitsTold o → rest ≢ refused_words o) → (o : Opened) → FitsOpened o → ws ≢ opened_words o
no_opened ws rest w is up none opened.Live fits same = differ (codes "givenup") (codes "live") refl cc
no_opened ws rest w is up none opened.GivenUp fits same = none None tt cc
no_opened ws rest w is up none (opened.GivenUpRefuse t) fits same = none (Some t) fits cc

pub no_group : (ws rest : List (List ℕ)) (w : List ℕ) → ws ≡ w ∷ rest → w ≡ codes "group" → ((n : ℕ) (vs : List (List ℕ)) → Fits32 n → rest ≢ decimal n ∷ vs) → (p : Kind × (ℕ × Looked)) → FitsKind p.0 × (Fits32 p.1.0 × FitsLooked p.1.1)
    → ws ≢ kind_words p.0 ++ (priority_words p.1.0 ++ looked_words p.1.1)
no_group ws rest w is group none (kinds.Plain, l) fits same = differ (codes "group") (codes "plain") refl cc
no_group ws rest w is group none (kinds.Future, l) fits same = differ (codes "group") (codes "future") refl cc
no_group ws rest w is group none (kinds.Group g, l) fits same = none g (priority_words l.0 ++ looked_words l.1) fits.0 cc

-- priorities

pub test_false : (p : ℕ) → p ≢ 0 → (p == 0) ≡ false
test_false p other = elim (eqb_tells p 0) [ inl is ↦ absurd (other is.1) | inr is ↦ is.0 ]

-- the words of a priority other than 0
pub priority_written : (p : ℕ) → p ≢ 0 → priority_words p ≡ codes "prio" ∷ decimal p ∷ []
priority_written p other = rw (test_false p other) refl

pub priority_unwritten : (p : ℕ) → p ≡ 0 → priority_words p ≡ []
priority_unwritten p is = ap priority_words is

-- 0 is no priority that is written
pub no_priority : (ws rest : List (List ℕ)) (p : ℕ) → ws ≡ decimal p ∷ rest → Fits32 p → p ≡ 0 → (v : ℕ) (vs : List (List ℕ)) → FitsPriority v → ws ≢ decimal v ∷ vs
no_priority ws rest p is small zero v vs fits same =
    let digits : decimal p ≡ decimal v = cc in
    fits.1 (sym (decimal_injective p v (omega (arith, small)) (omega (arith, fits.0)) digits) ∙ zero)

-- a look has words, and the first is no priority's

look_has_words : (l : Looked) → [] ≢ looked_words l
look_has_words (looked.Reserve w) same = cc
look_has_words looked.Queue same = cc
look_has_words looked.Refuse same = cc

look_is_no_priority : (l : Looked) (w : List ℕ) (ws : List (List ℕ)) → w ∷ ws ≡ looked_words l → w ≢ codes "prio"
look_is_no_priority (looked.Reserve v) w ws same is = let word : codes "prio" ≡ codes "reserve" = cc in differ (codes "prio") (codes "reserve") refl word
look_is_no_priority looked.Queue w ws same is = let word : codes "prio" ≡ codes "queue" = cc in differ (codes "prio") (codes "queue") refl word
look_is_no_priority looked.Refuse w ws same is = let word : codes "prio" ≡ codes "refuse" = cc in differ (codes "prio") (codes "refuse") refl word

-- no words at all
pub none_prioritized : (ws : List (List ℕ)) → ws ≡ [] → (p : ℕ × Looked) → Fits32 p.0 × FitsLooked p.1 → ws ≢ priority_words p.0 ++ looked_words p.1
none_prioritized ws none p fits same =
    elim (eqb_tells p.0 0) [
      | inl is ↦ look_has_words p.1 (sym none ∙ same ∙ ap (λ x. x ++ looked_words p.1) (priority_unwritten p.0 is.1))
      | inr is ↦ let both : [] ≡ codes "prio" ∷ decimal p.0 ∷ looked_words p.1 = sym none ∙ same ∙ ap (λ x. x ++ looked_words p.1) (priority_written p.0 is.1) in cc
    ]

-- behind the word of a priority no priority stands, or no look behind it
pub none_ranked : (ws rest : List (List ℕ)) (w : List ℕ) → ws ≡ w ∷ rest → w ≡ codes "prio" → ((p : ℕ × Looked) → FitsPriority p.0 × FitsLooked p.1 → rest ≢ decimal p.0 ∷ looked_words p.1)
    → (p : ℕ × Looked) → Fits32 p.0 × FitsLooked p.1 → ws ≢ priority_words p.0 ++ looked_words p.1
none_ranked ws rest w is prio none p fits same =
    elim (eqb_tells p.0 0) [
      | inl zero ↦ look_is_no_priority p.1 w rest (sym is ∙ same ∙ ap (λ x. x ++ looked_words p.1) (priority_unwritten p.0 zero.1)) prio
      | inr other ↦
          let both : ws ≡ codes "prio" ∷ decimal p.0 ∷ looked_words p.1 = same ∙ ap (λ x. x ++ looked_words p.1) (priority_written p.0 other.1) in
          let behind : rest ≡ decimal p.0 ∷ looked_words p.1 = cc in
          none p ((fits.0, other.1), fits.1) behind
    ]

-- a priority that is written, and a look
pub some_ranked : (ws rest : List (List ℕ)) (w : List ℕ) (p : ℕ × Looked) → ws ≡ w ∷ rest → w ≡ codes "prio" → FitsPriority p.0 × FitsLooked p.1 → rest ≡ decimal p.0 ∷ looked_words p.1 → ws ≡ priority_words p.0 ++ looked_words p.1
some_ranked ws rest w p is prio fits goes =
    is ∙ ap (λ x. x ∷ rest) prio ∙ ap (λ x. codes "prio" ∷ x) goes ∙ ap (λ x. x ++ looked_words p.1) (sym (priority_written p.0 fits.0.1))

-- what is read behind the word of a priority is what is read of all words
pub ranked_read : (ws rest : List (List ℕ)) (w : List ℕ) (r : Option (ℕ × Looked)) → ws ≡ w ∷ rest → w ≡ codes "prio" → ReadsAs {V = ℕ × Looked} (λ p. decimal p.0 ∷ looked_words p.1) (λ p. FitsPriority p.0 × FitsLooked p.1) rest r
    → ReadsAs {V = ℕ × Looked} (λ p. priority_words p.0 ++ looked_words p.1) (λ p. Fits32 p.0 × FitsLooked p.1) ws r
ranked_read ws rest w (Some p) is prio reads = ((reads.0.0.0, reads.0.1), some_ranked ws rest w p is prio reads.0 reads.1)
ranked_read ws rest w None is prio reads = none_ranked ws rest w is prio reads

-- a word that is no priority's, behind which no look stands
pub none_looked : (ws rest : List (List ℕ)) (w : List ℕ) → ws ≡ w ∷ rest → w ≢ codes "prio" → ((l : Looked) → FitsLooked l → ws ≢ looked_words l)
    → (p : ℕ × Looked) → Fits32 p.0 × FitsLooked p.1 → ws ≢ priority_words p.0 ++ looked_words p.1
none_looked ws rest w is prio none p fits same =
    elim (eqb_tells p.0 0) [
      | inl zero ↦ none p.1 fits.1 (same ∙ ap (λ x. x ++ looked_words p.1) (priority_unwritten p.0 zero.1))
      | inr other ↦
          let both : ws ≡ codes "prio" ∷ decimal p.0 ∷ looked_words p.1 = same ∙ ap (λ x. x ++ looked_words p.1) (priority_written p.0 other.1) in
          let word : w ≡ codes "prio" = cc in prio word
    ]
