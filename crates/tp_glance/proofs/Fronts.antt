-- Fronts of a history: each history is its own, a front's front is one too, and ranks grow along it.
use Rattle.std.proofs.Common.{◌≡◌, ℕ, ◌≤◌, List, [], ◌∷◌, ◌++◌, refl, sym, ap, ◌∙◌, subst, append_assoc, arith}
use Rattle.tp_record.specs.declared.entries.Entry.{Entry}
use Rattle.tp_record.specs.Fields.{rank}
use Rattle.tp_glance.specs.declared.view.History.{History}
use Rattle.tp_glance.specs.Word.{IsFrontOf, IsPartOf, no_history, with_entry, with_released}

module _ {A : Type 0} where
  pub IsFrontOf_refl : (h : List A) → IsFrontOf h h
  IsFrontOf_refl h = record { later = []; goes_on = refl }

  pub IsFrontOf_trans : {f g h : List A} → IsFrontOf f g → IsFrontOf g h → IsFrontOf f h
  IsFrontOf_trans {f} {g} {h} a b =
      record { later = b.later ++ a.later; goes_on = b.goes_on ∙ (ap (λ (l : List A). b.later ++ l) a.goes_on ∙ sym (append_assoc b.later a.later f)) }

  -- what is a front stays one when an entry is noted
  pub IsFrontOf_noted : (e : A) {f h : List A} → IsFrontOf f h → IsFrontOf f (e ∷ h)
  IsFrontOf_noted e a = record { later = e ∷ a.later; goes_on = ap (λ (l : List A). e ∷ l) a.goes_on }

  append-empty : (h : List A) → h ≡ h ++ []
  append-empty [] = refl
  append-empty (e ∷ h) = ap (λ (l : List A). e ∷ l) (append-empty h)

  pub IsFrontOf_empty : (h : List A) → IsFrontOf [] h
  IsFrontOf_empty h = record { later = h; goes_on = append-empty h }

pub IsPartOf_refl : (h : History) → IsPartOf h h
IsPartOf_refl h = (IsFrontOf_refl h.entries, IsFrontOf_refl h.released)

pub IsPartOf_empty : (h : History) → IsPartOf no_history h
IsPartOf_empty h = (IsFrontOf_empty h.entries, IsFrontOf_empty h.released)

pub IsPartOf_trans : {f g h : History} → IsPartOf f g → IsPartOf g h → IsPartOf f h
IsPartOf_trans a b = (IsFrontOf_trans a.0 b.0, IsFrontOf_trans a.1 b.1)

pub IsPartOf_entry : (e : Entry) (h : History) → IsPartOf h (with_entry e h)
IsPartOf_entry e h = (IsFrontOf_noted e (IsFrontOf_refl h.entries), IsFrontOf_refl h.released)

pub IsPartOf_released : (t : ℕ) (h : History) → IsPartOf h (with_released t h)
IsPartOf_released t h = (IsFrontOf_refl h.entries, IsFrontOf_noted t (IsFrontOf_refl h.released))

rank-append : (later f : List Entry) → rank f ≤ rank (later ++ f)
rank-append [] f = omega arith
rank-append (e ∷ later) f = let was = rank-append later f in omega arith

pub rank_grows : {f h : List Entry} → IsFrontOf f h → rank f ≤ rank h
rank_grows {f} {h} a = subst (λ (l : List Entry). rank f ≤ rank l) (sym a.goes_on) (rank-append a.later f)
