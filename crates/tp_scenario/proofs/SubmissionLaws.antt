-- Which texts are those of submissions.
use Rattle.std.proofs.Common.{◌≡◌, ◌≢◌, ℕ, List, ◌∷◌, Option, Some, None, refl, sym, ◌∙◌, arith, inl, inr, ◌⊎◌, Bool, true, false, append_assoc, codes}
use Rattle.std.specs.Fmt.{decimal}
use Rattle.std.proofs.lemmas.Option.{none-some, same_Some}
use Rattle.tp_types.specs.declared.tasks.Kind.{Kind}
use Rattle.tp_types.specs.declared.tasks.Kind.TheVariants as kinds
use Rattle.tp_text.specs.Reads.{FirstWord, spaced}
use Rattle.tp_text.specs.Fits.{Fits32}
use Rattle.tp_scenario.specs.Lines.{FitsGiven, FitsSubmission, Given, cancel_text, given_text, submission_text}
use Rattle.tp_text.proofs.WordSplits.{differ, word_from_test}
use Rattle.tp_text.proofs.NumberTexts.{word_decimal}

-- what the three kinds of submission begin with and go on with
pub record NoSubmission (w : List ℕ) (r : Option (List ℕ)) : Type 0 where
  pub plain : (o : Given) → FitsGiven o → w ≡ codes "plain" → r ≢ Some (given_text o)
  pub future : (o : Given) → FitsGiven o → w ≡ codes "future" → r ≢ Some (given_text o)
  pub group : (g : ℕ) (o : Given) → Fits32 g → FitsGiven o → w ≡ codes "group" → r ≢ Some (spaced (decimal g) (given_text o))

pub no_submission : (bs w : List ℕ) (r : Option (List ℕ)) → FirstWord bs w r → NoSubmission w r → (s : Kind × Given) → FitsSubmission s → bs ≢ submission_text s
no_submission bs w r first none (kinds.Plain, o) fits same =
    let p = first.only (codes "plain") (Some (given_text o)) (word_from_test (codes "plain") refl) same in none.plain o fits.1 p.0 p.1
no_submission bs w r first none (kinds.Future, o) fits same =
    let p = first.only (codes "future") (Some (given_text o)) (word_from_test (codes "future") refl) same in none.future o fits.1 p.0 p.1
no_submission bs w r first none (kinds.Group g, o) fits same =
    let p = first.only (codes "group") (Some (spaced (decimal g) (given_text o))) (word_from_test (codes "group") refl) (same ∙ append_assoc (codes "group") (32 ∷ decimal g) (32 ∷ given_text o)) in none.group g o fits.0 fits.1 p.0 p.1

-- a word alone begins no submission
pub alone : (w : List ℕ) (r : Option (List ℕ)) → r ≡ None → NoSubmission w r
alone w r none = record {
  plain = λ o f e s. none-some _ (sym none ∙ s);
  future = λ o f e s. none-some _ (sym none ∙ s);
  group = λ g o f h e s. none-some _ (sym none ∙ s);
}

-- a group's word begins a submission only before a number and what a task is given
pub no_group : (w : List ℕ) (r : Option (List ℕ)) (rest : List ℕ) → w ≡ codes "group" → r ≡ Some rest
    → ((p : ℕ × Given) → Fits32 p.0 × FitsGiven p.1 → rest ≢ spaced (decimal p.0) (given_text p.1)) → NoSubmission w r
no_group w r rest is goes none = record {
  plain = λ o f e s. differ (codes "group") (codes "plain") refl (sym is ∙ e);
  future = λ o f e s. differ (codes "group") (codes "future") refl (sym is ∙ e);
  group = λ g o f h e s. none (g, o) (f, h) (same_Some _ _ (sym goes ∙ s));
}

-- no other word begins a submission
pub no_kind : (w : List ℕ) (r : Option (List ℕ)) → w ≢ codes "plain" → w ≢ codes "future" → w ≢ codes "group" → NoSubmission w r
no_kind w r plain future group = record { plain = λ o f e s. plain e; future = λ o f e s. future e; group = λ g o f h e s. group e }

-- a text that is no number, a space and what is looked for
pub no_numbered : {A : Type 0} (text : A → List ℕ) (bs w : List ℕ) (r : Option (List ℕ)) → FirstWord bs w r → (g : ℕ) (a : A) → ((h : ℕ) → Fits32 h → w ≡ decimal h → r ≢ Some (text a)) → Fits32 g → bs ≢ spaced (decimal g) (text a)
no_numbered text bs w r first g a none fits same =
    let q = first.only (decimal g) (Some (text a)) (word_decimal g (omega (arith, fits))) same in none g fits q.0 q.1

-- a text that is no number, whether or not the word for the flag follows
pub no_cancel : (bs w : List ℕ) (r : Option (List ℕ)) → FirstWord bs w r → ((t : ℕ) → Fits32 t → w ≡ decimal t → (r ≡ None) ⊎ (r ≡ Some (codes "flag")) → ⊥) → (p : ℕ × Bool) → Fits32 p.0 → bs ≢ cancel_text p
no_cancel bs w r first none (t, false) fits same = let q = first.only (decimal t) None (word_decimal t (omega (arith, fits))) same in none t fits q.0 (inl q.1)
no_cancel bs w r first none (t, true) fits same = let q = first.only (decimal t) (Some (codes "flag")) (word_decimal t (omega (arith, fits))) same in none t fits q.0 (inr q.1)

-- what follows the number is something else than the word for the flag
pub no_flag : (r : Option (List ℕ)) (rest : List ℕ) → r ≡ Some rest → rest ≢ codes "flag" → (r ≡ None) ⊎ (r ≡ Some (codes "flag")) → ⊥
no_flag r rest is other (inl none) = none-some _ (sym none ∙ is)
no_flag r rest is other (inr flag) = other (same_Some _ _ (sym is ∙ flag))
