-- What a retry rests on.
use Rattle.std.proofs.Common.{◌≡◌, ℕ, cond, List, sym, ap, ◌∙◌}
use Rattle.std.proofs.lemmas.Bool.{ne_eqb}
use Rattle.tp_types.specs.declared.tasks.Place.{Place}
use Rattle.tp_record.specs.declared.entries.Entry.{Entry}
use Rattle.tp_record.specs.Fields.{place}
use Rattle.tp_laws.proofs.Model.Given.{IsAt}
use Rattle.tp_laws.specs.View.{put}

-- tasks in different places are two tasks
pub places_apart : (h : List Entry) (t u : ℕ) (a b : Place) → IsAt h t a → IsAt h u b → (a ≡ b → ⊥) → t ≡ u → ⊥
places_apart h t u a b at_a at_b apart same = apart (sym at_a.1 ∙ ap (place h) same ∙ at_b.1)

-- what is put at one number changes nothing at another
pub put_other : {A : Type 0} (x : ℕ) (a : A) (f : ℕ → A) (y : ℕ) → (y ≡ x → ⊥) → put x a f y ≡ f y
put_other x a f y apart = ap (λ b. cond b a (f y)) (ne_eqb y x apart)
