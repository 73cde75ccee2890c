-- The first flaw of a record, as more entries are told.
use Rattle.std.proofs.Common.{◌≡◌, ℕ, suc, List, [], ◌∷◌, ◌++◌, length, reverse, Bool, true, false, Option, Some, None, refl, ap, ◌∙◌, arith, append_assoc}
use Rattle.std.specs.Prelude.{is_some}
use Rattle.std.proofs.lemmas.Bool.{false≢true, true≢false}
use Rattle.std.proofs.lemmas.List.{length-reverse}
use Rattle.tp_types.specs.declared.configs.Config.{Config}
use Rattle.tp_record.specs.declared.entries.Entry.{Entry}
use Rattle.tp_record.specs.State.{state}
use Rattle.tp_record.specs.Step.{Legal, Gives}
use Rattle.tp_audit_plain.specs.Audit.{IsFirstFlaw}
use Rattle.tp_story_words.specs.declared.forms.Form.{Form}
use Rattle.tp_story_questions.specs.Asking.{IsToldAll}

-- an entry that is not given is the first flaw of the record that ends with it
pub flaw_here : (c : Config) (es : List Entry) (n : ℕ) (e : Entry) → Legal c (reverse es) → n ≡ suc (length (reverse es)) → (Gives c (state c (reverse es)) e.ask e.did → ⊥) → IsFirstFlaw c (es ++ e ∷ []) n
flaw_here c es n e legal number not_given = record {
  before = es;
  entry = e;
  later = [];
  parts = refl;
  number = omega (arith, number, length-reverse es);
  legal = legal;
  not_given = not_given;
}

module _ {A : Type 0} (settings : A → Config) (tells : A → List Entry → Type 0) (says : A → List Entry → Form → List ℕ → Bool → Type 0) where
  -- entries behind a flaw change nothing
  pub told_on : (a : A) (o : Option ℕ) (es : List Entry) (e : Entry) → is_some o ≡ true → IsToldAll settings tells a o es → IsToldAll settings tells a o (es ++ e ∷ [])
  told_on a None es e some told = absurd (false≢true some)
  told_on a (Some n) es e some told = record {
    before = told.before;
    entry = told.entry;
    later = told.later ++ e ∷ [];
    parts = ap (λ xs. xs ++ e ∷ []) told.parts ∙ append_assoc told.before (told.entry ∷ told.later) (e ∷ []);
    number = told.number;
    legal = told.legal;
    not_given = told.not_given;
  }

pub no_flaw : (o : Option ℕ) → is_some o ≡ false → o ≡ None
no_flaw None none = refl
no_flaw (Some n) none = absurd (true≢false none)
