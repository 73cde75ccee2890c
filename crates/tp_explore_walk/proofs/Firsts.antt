-- The first leg to each place.
use Rattle.std.proofs.Common.{◌≡◌, ◌<◌, ◌≤◌, ◌⊎◌, ℕ, zero, suc, ◌+◌, inl, inr, Option, Some, None, List, [], ◌∷◌, ◌++◌, length, get_or, set, slice_get, replicate, refl, sym, ap, subst, arith}
use Rattle.std.specs.List.{Contains}
use Rattle.std.proofs.lemmas.Bool.{cases_lt}
use Rattle.std.proofs.lemmas.List.{length-set}
use Rattle.std.proofs.lemmas.List.Elements.{Contains-append_cases}
use Rattle.std.specs.Prelude.{is_none, true, false}
use Rattle.std.proofs.lemmas.Option.{slice_get_read}
use Rattle.tp_explore_walk.specs.declared.trails.Leg.{Leg}
use Rattle.tp_explore_walk.specs.Moves.{AreLed, IsAt}
use Rattle.tp_explore_walk.specs.Paths.{AreFirsts, Notes, row_of}

other_kept : (fs : List (Option Leg)) (to j : ℕ) (l leg : Leg) → slice_get fs to ≡ Some None → slice_get fs j ≡ Some (Some l) → slice_get (set fs to (Some leg)) j ≡ Some (Some l)
other_kept [] to j l leg e h = cc
other_kept (a ∷ fs) zero zero l leg e h = cc
other_kept (a ∷ fs) zero (suc j) l leg e h = h
other_kept (a ∷ fs) (suc to) zero l leg e h = h
other_kept (a ∷ fs) (suc to) (suc j) l leg e h = other_kept fs to j l leg e h

set_there : (fs : List (Option Leg)) (to : ℕ) (leg : Leg) → to < length fs → slice_get (set fs to (Some leg)) to ≡ Some (Some leg)
set_there [] to leg lt = absurd (omega (arith, lt))
set_there (a ∷ fs) zero leg lt = refl
set_there (a ∷ fs) (suc to) leg lt = set_there fs to leg (omega (arith, lt))

set_only : (fs : List (Option Leg)) (to j : ℕ) (l leg : Leg) → slice_get (set fs to (Some leg)) j ≡ Some (Some l) → (slice_get fs j ≡ Some (Some l)) ⊎ ((j ≡ to) × (l ≡ leg))
set_only [] to j l leg h = inl h
set_only (a ∷ fs) zero zero l leg h = inr (refl, (let e : leg ≡ l = cc in sym e))
set_only (a ∷ fs) zero (suc j) l leg h = inl h
set_only (a ∷ fs) (suc to) zero l leg h = inl h
set_only (a ∷ fs) (suc to) (suc j) l leg h = elim (set_only fs to j l leg h) as (λ _. (slice_get fs j ≡ Some (Some l)) ⊎ ((suc j ≡ suc to) × (l ≡ leg))) [ inl k ↦ inl k | inr k ↦ inr (ap suc k.0, k.1) ]

-- a leg is noted where there was none
pub notes_new : (fs : List (Option Leg)) (to : ℕ) (leg : Leg) → slice_get fs to ≡ Some None → Notes fs to leg (set fs to (Some leg))
notes_new fs to leg e = record {
  len = length-set fs to (Some leg);
  only = λ j l h. set_only fs to j l leg h;
  kept = λ j l h. other_kept fs to j l leg e h;
  there = λ lt. (leg, set_there fs to leg lt);
}

-- none is noted where there is one
pub notes_old : (fs : List (Option Leg)) (to : ℕ) (leg : Leg) → (to < length fs → (l : Leg) × (slice_get fs to ≡ Some (Some l))) → Notes fs to leg fs
notes_old fs to leg found = record { len = refl; only = λ j l h. inl h; kept = λ j l h. h; there = found }

-- no leg so far
pub firsts_none : (rows : List (List ℕ)) (n : ℕ) → AreFirsts rows 0 (replicate n None)
firsts_none rows n = record {
  legs = λ j leg h. absurd (never n j leg h);
  early = λ j k row lt. absurd (omega (arith, lt));
}
  where
    never : (n j : ℕ) (leg : Leg) → slice_get (replicate n None) j ≡ Some (Some leg) → ⊥
    never zero j leg h = cc
    never (suc n) zero leg h = cc
    never (suc n) (suc j) leg h = never n j leg h

-- the first rows, and of the next one the first so many places
pub record AreFirstsSo (rows : List (List ℕ)) (n : ℕ) (row : List ℕ) (firsts : List (Option Leg)) : Type 0 where
  pub before : AreFirsts rows n firsts
  pub here : (j : ℕ) → Contains row j → j < length firsts → (leg : Leg) × (slice_get firsts j ≡ Some (Some leg))

pub firsts_row : (rows : List (List ℕ)) (n : ℕ) (fs : List (Option Leg)) → AreFirsts rows n fs → AreFirstsSo rows n [] fs
firsts_row rows n fs f = record { before = f; here = λ j c. absurd (omega (arith, c.1)) }

pub firsts_more : (rows : List (List ℕ)) (n : ℕ) (row : List ℕ) (to choice : ℕ) (leg : Leg) (fs fs' : List (Option Leg)) → AreFirstsSo rows n row fs → Notes fs to leg fs' →
    leg.from ≡ n → leg.choice ≡ choice → IsAt (row_of rows n) choice to → AreFirstsSo rows n (row ++ to ∷ []) fs'
firsts_more rows n row to choice leg fs fs' f notes from which at = record {
  before = record {
    legs = λ j l h. elim (notes.only j l h) as (λ _. IsAt (row_of rows l.from) l.choice j × (l.from ≤ n)) [
      | inl k ↦ f.before.legs j l k
      | inr k ↦
          let same : IsAt (row_of rows leg.from) leg.choice to = subst (λ m. IsAt (row_of rows m) leg.choice to) (sym from) (subst (λ c. IsAt (row_of rows n) c to) (sym which) at) in
          let there : IsAt (row_of rows l.from) l.choice to = subst (λ m. IsAt (row_of rows m.from) m.choice to) (sym k.1) same in
          let no_later : leg.from ≤ n = omega (arith, from) in
          (subst (λ i. IsAt (row_of rows l.from) l.choice i) (sym k.0) there, subst (λ m. m.from ≤ n) (sym k.1) no_later)
    ];
    early = λ j k r lt at_k c within.
        let p = f.before.early j k r lt at_k c (omega (arith, within, notes.len)) in
        (p.0, notes.kept j p.0 p.1, p.2);
  };
  here = λ j c within. elim (Contains-append_cases row (to ∷ []) j c) as (λ _. (l : Leg) × (slice_get fs' j ≡ Some (Some l))) [
    | inl h ↦ let p = f.here j h (omega (arith, within, notes.len)) in (p.0, notes.kept j p.0 p.1)
    | inr h ↦
        let z : h.0 ≡ 0 = omega (arith, h.1) in
        let e : to ≡ j = rw z at h.2 in
        let short : to < length fs = omega (arith, within, notes.len, e) in
        let p = notes.there short in (p.0, subst (λ i. slice_get fs' i ≡ Some (Some p.0)) e p.1)
  ];
}

pub firsts_next : (rows : List (List ℕ)) (n : ℕ) (row : List ℕ) (fs : List (Option Leg)) → AreFirstsSo rows n row fs → IsAt rows n row → AreFirsts rows (n + 1) fs
firsts_next rows n row fs f at = record {
  legs = λ j l h. let p = f.before.legs j l h in (p.0, omega (arith, p.1));
  early = λ j k r lt at_k c within. elim (cases_lt k n) as (λ _. (leg : Leg) × (slice_get fs j ≡ Some (Some leg)) × (leg.from ≤ k)) [
    | inl before ↦ f.before.early j k r before at_k c within
    | inr le ↦
        let e : k ≡ n = omega (arith, le, lt) in
        let same : r ≡ row = cc in
        let p = f.here j (subst (λ s. Contains s j) same c) within in
        let q = f.before.legs j p.0 p.1 in (p.0, p.1, omega (arith, q.1, e))
  ];
}

-- a state but the first has a leg, from a state before it
pub first_of : (rows : List (List ℕ)) (n : ℕ) (fs : List (Option Leg)) → AreFirsts rows n fs → length fs ≡ n → AreLed n rows → (at : ℕ) → 0 < at → at < n →
    (leg : Leg) × (slice_get fs at ≡ Some (Some leg)) × IsAt (row_of rows leg.from) leg.choice at × (leg.from < at)
first_of rows n fs firsts long led at some within =
    let p = led at some within in
    let q = firsts.early at p.0 p.1 (omega (arith, p.2, within)) p.3 p.4 (omega (arith, within, long)) in
    let r = firsts.legs at q.0 q.1 in (q.0, q.1, r.0, omega (arith, q.2, p.2))

-- what stands at a place of which a leg is known, or of which it is known that there is none
pub is_none_at : (fs : List (Option Leg)) (to : ℕ) (o : Option Leg) → to < length fs → o ≡ get_or fs to o → is_none o ≡ true → slice_get fs to ≡ Some None
is_none_at fs to None lt e none = slice_get_read fs (length fs) to None refl lt e
is_none_at fs to (Some leg) lt e none = cc

pub is_some_at : (fs : List (Option Leg)) (to : ℕ) (o : Option Leg) → to < length fs → o ≡ get_or fs to o → is_none o ≡ false → (l : Leg) × (slice_get fs to ≡ Some (Some l))
is_some_at fs to None lt e none = cc
is_some_at fs to (Some leg) lt e none = (leg, slice_get_read fs (length fs) to (Some leg) refl lt e)
