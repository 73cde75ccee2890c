-- The first flaw of a record, as more entries are told.
use Rattle.std.proofs.Common.{◌≡◌, ℕ, suc, List, [], ◌∷◌, ◌++◌, length, reverse, refl, ap, ◌∙◌, arith, append_assoc}
use Rattle.std.proofs.lemmas.List.{length-reverse}
use Rattle.tp_types.specs.declared.configs.Config.{Config}
use Rattle.tp_record.specs.declared.entries.Entry.{Entry}
use Rattle.tp_record.specs.State.{state}
use Rattle.tp_record.specs.Step.{Legal, Gives}
use Rattle.tp_audit_plain.specs.Audit.{IsFirstFlaw}

-- it is the first flaw of a longer record too
pub later_flaw : (c : Config) (es : List Entry) (n : ℕ) (e : Entry) → IsFirstFlaw c es n → IsFirstFlaw c (es ++ e ∷ []) n
later_flaw c es n e is = record {
  before = is.before;
  entry = is.entry;
  later = is.later ++ e ∷ [];
  parts = ap (λ xs. xs ++ e ∷ []) is.parts ∙ append_assoc is.before (is.entry ∷ is.later) (e ∷ []);
  number = is.number;
  legal = is.legal;
  not_given = is.not_given;
}

-- an entry that is not given is the first flaw of the record that ends with it
pub flaw_here : (c : Config) (es : List Entry) (n : ℕ) (e : Entry) → Legal c (reverse es) → n ≡ suc (length (reverse es)) → (Gives c (state c (reverse es)) e.ask e.did → ⊥) → IsFirstFlaw c (es ++ e ∷ []) n
flaw_here c es n e legal number not_given = record {
  before = es;
  entry = e;
  later = [];
  parts = refl;
  number = omega (arith, number, length-reverse es);
  legal = legal;
  not_given = not_given;
}
