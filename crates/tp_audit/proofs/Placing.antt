-- An order after one more is put at its end, and after one is taken out.
use Rattle.std.proofs.Common.{◌≡◌, ℕ, suc, ◌+◌, ◌≤◌, ◌<◌, Bool, true, false, not, cond, List, [], ◌∷◌, ◌++◌, Some, None, refl, arith, sym, ap, subst, ◌∙◌, inl, inr, ◌⊎◌, Result, Ok, Err, IfOk, is_err}
use Rattle.std.specs.Prelude.{◌==◌, Contains, nat_eq, slice_get, option_map}
use Rattle.std.proofs.lemmas.Bool.{ne_eqb, eq-eqb, cases_eq, le-leb, lt-leb, false≢true}
use Rattle.std.proofs.lemmas.Option.{same_Some, none-some}
use Rattle.indexmap.specs.IndexMap.{IndexMap, get, Updates}
use Rattle.tp_record.specs.Lists.{without}
use Rattle.tp_ring.specs.Line.{Line, Ordered, line, without_place, from_place, ids}
use Rattle.tp_audit.specs.Orders.{next_of, HasPlace, ArePlaced}

-- each place stands from low on
place_from : (low : ℕ) (xs : List (ℕ × ℕ)) (next w n : ℕ) → Ordered low xs next → HasPlace xs w n → low ≤ n
place_from low [] next w n o h = absurd h
place_from low (x ∷ xs) next w n o (inl h) = let a = o.0 in let b = h.1 in omega (arith, a, b)
place_from low (x ∷ xs) next w n o (inr h) = let a = o.0 in let b = place_from (suc x.1) xs next w n o.1 h in omega (arith, a, b)

ordered_low : (low : ℕ) (xs : List (ℕ × ℕ)) (next : ℕ) → Ordered low xs next → low ≤ next
ordered_low low [] next o = o
ordered_low low (x ∷ xs) next o = let a = o.0 in let b = ordered_low (suc x.1) xs next o.1 in omega (arith, a, b)

-- one place, one number
place_once : (low : ℕ) (xs : List (ℕ × ℕ)) (next v w n : ℕ) → Ordered low xs next → HasPlace xs v n → HasPlace xs w n → v ≡ w
place_once low [] next v w n o h k = absurd h
place_once low (x ∷ xs) next v w n o (inl h) (inl k) = sym h.0 ∙ k.0
place_once low (x ∷ xs) next v w n o (inl h) (inr k) = let a = place_from (suc x.1) xs next w n o.1 k in let b = h.1 in absurd (omega (arith, a, b))
place_once low (x ∷ xs) next v w n o (inr h) (inl k) = let a = place_from (suc x.1) xs next v n o.1 h in let b = k.1 in absurd (omega (arith, a, b))
place_once low (x ∷ xs) next v w n o (inr h) (inr k) = place_once (suc x.1) xs next v w n o.1 h k

-- one more at the end
place_more : (xs : List (ℕ × ℕ)) (w n : ℕ) → HasPlace (xs ++ (w, n) ∷ []) w n
place_more [] w n = inl (refl, refl)
place_more (x ∷ xs) w n = inr (place_more xs w n)

place_old : (xs : List (ℕ × ℕ)) (y : ℕ × ℕ) (w n : ℕ) → HasPlace xs w n → HasPlace (xs ++ y ∷ []) w n
place_old [] y w n h = absurd h
place_old (x ∷ xs) y w n (inl h) = inl h
place_old (x ∷ xs) y w n (inr h) = inr (place_old xs y w n h)

place_cases : (xs : List (ℕ × ℕ)) (v m w n : ℕ) → HasPlace (xs ++ (v, m) ∷ []) w n → HasPlace xs w n ⊎ ((v ≡ w) × (m ≡ n))
place_cases [] v m w n (inl h) = inr h
place_cases [] v m w n (inr h) = absurd h
place_cases (x ∷ xs) v m w n (inl h) = inl (inl h)
place_cases (x ∷ xs) v m w n (inr h) = elim (place_cases xs v m w n h) [ inl a ↦ inl (inr a) | inr b ↦ inr b ]

-- the order without a place
place_kept : (xs : List (ℕ × ℕ)) (m w n : ℕ) → (n ≡ m → ⊥) → HasPlace xs w n → HasPlace (without_place m xs) w n
place_kept [] m w n ne h = absurd h
place_kept (x ∷ xs) m w n ne (inl h) = rw (ne_eqb x.1 m (λ e. ne (sym h.1 ∙ e))) (inl h)
place_kept (x ∷ xs) m w n ne (inr h) =
    let rest = place_kept xs m w n ne h in
    elim (x.1 == m) as (λ b. HasPlace (cond (not b) (x ∷ without_place m xs) (without_place m xs)) w n) [ true ↦ rest | false ↦ inr rest ]

place_left : (xs : List (ℕ × ℕ)) (m w n : ℕ) → HasPlace (without_place m xs) w n → HasPlace xs w n × (n ≡ m → ⊥)
place_left [] m w n h = absurd h
place_left (x ∷ xs) m w n h = elim (cases_eq x.1 m) [
  | inl same ↦ let r = place_left xs m w n (rw (eq-eqb x.1 m same) at h) in (inr r.0, r.1)
  | inr apart ↦ by apart (rw (ne_eqb x.1 m apart) at h) (place_left xs m w n)
]
  where
    by : (x.1 ≡ m → ⊥) → HasPlace (x ∷ without_place m xs) w n → (HasPlace (without_place m xs) w n → HasPlace xs w n × (n ≡ m → ⊥)) → HasPlace (x ∷ xs) w n × (n ≡ m → ⊥)
    by apart (inl k) rest = (inl k, λ e. apart (k.1 ∙ e))
    by apart (inr k) rest = let r = rest k in (inr r.0, r.1)

-- to leave out a place is to leave out who stands there
ids-without : (xs : List (ℕ × ℕ)) (w n : ℕ) → ((v m : ℕ) → HasPlace xs v m → (m == n) ≡ (v == w)) → ids (without_place n xs) ≡ without w (ids xs)
ids-without [] w n same = refl
ids-without (x ∷ xs) w n same =
    let rest = ids-without xs w n (λ v m h. same v m (inr h)) in
    rw (same x.0 x.1 (inl (refl, refl))) (by (x.0 == w) rest)
  where
    by : (b : Bool) → ids (without_place n xs) ≡ without w (ids xs) → ids (cond (not b) (x ∷ without_place n xs) (without_place n xs)) ≡ cond (not b) (x.0 ∷ without w (ids xs)) (without w (ids xs))
    by true rest = rest
    by false rest = ap (λ ys. x.0 ∷ ys) rest

-- who stands nowhere in the line may be left out
without-absent : (w : ℕ) (xs : List (ℕ × ℕ)) → ((n : ℕ) → HasPlace xs w n → ⊥) → without w (ids xs) ≡ ids xs
without-absent w [] absent = refl
without-absent w (x ∷ xs) absent = rw (ne_eqb x.0 w (λ e. absent x.1 (inl (e, refl)))) (ap (λ ys. x.0 ∷ ys) (without-absent w xs (λ n h. absent n (inr h))))

-- who stands in the line is among its numbers
place-contains : (xs : List (ℕ × ℕ)) (w n : ℕ) → HasPlace xs w n → Contains (ids xs) w
place-contains [] w n h = absurd h
place-contains (x ∷ xs) w n (inl h) = (0, omega arith, h.0)
place-contains (x ∷ xs) w n (inr h) = let c = place-contains xs w n h in (suc c.0, omega (arith, c.1), c.2)

pub ids-more : (xs : List (ℕ × ℕ)) (x n : ℕ) → ids (xs ++ (x, n) ∷ []) ≡ ids xs ++ x ∷ []
ids-more [] x n = refl
ids-more (y ∷ xs) x n = ap (λ ys. y.0 ∷ ys) (ids-more xs x n)

module _ {S : Type 0} (items : List (ℕ × ℕ)) (old new : IndexMap ℕ ℕ S) (x n : ℕ) (are : ArePlaced items old) where
  -- x is put somewhere, and the others stand where they stood
  pub placed-in : (ys : List (ℕ × ℕ)) → HasPlace ys x n → ((v m : ℕ) → HasPlace items v m → HasPlace ys v m) → ((v m : ℕ) → HasPlace ys v m → HasPlace items v m ⊎ ((x ≡ v) × (n ≡ m))) →
      (Contains (ids items) x → ⊥) → Updates nat_eq old new x (Some n) → ArePlaced ys new
  placed-in ys there kept cases absent to = record {
    listed = λ v m h. elim (cases v m h) [
      | inl before ↦ to.2 v (ne_eqb x v (λ e. absent (subst (Contains (ids items)) (sym e) (place-contains items v m before)))) ∙ are.listed v m before
      | inr last ↦ ap (get nat_eq new) (sym last.0) ∙ to.1 ∙ ap (λ k. Some k) last.1
    ];
    placed = λ v m h. elim (cases_eq x v) [
      | inl same ↦
          let e : n ≡ m = same_Some n m (sym to.1 ∙ ap (get nat_eq new) same ∙ h) in
          subst (λ k. HasPlace ys v k) e (subst (λ k. HasPlace ys k n) same there)
      | inr apart ↦ kept v m (are.placed v m (sym (to.2 v (ne_eqb x v apart)) ∙ h))
    ];
  }

  -- x is put at the end
  pub placed-more : (Contains (ids items) x → ⊥) → Updates nat_eq old new x (Some n) → ArePlaced (items ++ (x, n) ∷ []) new
  placed-more absent to = placed-in (items ++ (x, n) ∷ []) (place_more items x n) (place_old items (x, n)) (place_cases items x n) absent to

  -- x, which stands at place n, is taken out
  module _ (next : ℕ) (order : Ordered 0 items next) (at : Some n ≡ get nat_eq old x) (to : Updates nat_eq old new x None) where
    there : HasPlace items x n
    there = are.placed x n (sym at)

    pub placed-less : ArePlaced (without_place n items) new
    placed-less = record {
      listed = λ v m h.
          let left = place_left items n v m h in
          let before = are.listed v m left.0 in
          to.2 v (ne_eqb x v (λ e. left.1 (same_Some m n (sym before ∙ ap (get nat_eq old) (sym e) ∙ sym at)))) ∙ before;
      placed = λ v m h. elim (cases_eq x v) [
        | inl same ↦ absurd (none-some m (sym to.1 ∙ ap (get nat_eq new) same ∙ h))
        | inr apart ↦
            let before = are.placed v m (sym (to.2 v (ne_eqb x v apart)) ∙ h) in
            place_kept items n v m (λ e. apart (place_once 0 items next x v n order there (subst (HasPlace items v) e before))) before
      ];
    }

    pub ids-less : ids (without_place n items) ≡ without x (ids items)
    ids-less = ids-without items x n (λ v m h. elim (cases_eq m n) [
      | inl same ↦ eq-eqb m n same ∙ sym (eq-eqb v x (place_once 0 items next v x n order (subst (HasPlace items v) same h) there))
      | inr apart ↦ ne_eqb m n apart ∙ sym (ne_eqb v x (λ e. apart (same_Some m n (sym (are.listed v m h) ∙ ap (get nat_eq old) e ∙ sym at))))
    ])

-- x, which has no place, is not there
pub ids-absent : {S : Type 0} (items : List (ℕ × ℕ)) (places : IndexMap ℕ ℕ S) (x : ℕ) → ArePlaced items places → None ≡ get nat_eq places x → ids items ≡ without x (ids items)
ids-absent items places x are none = sym (without-absent x items (λ n h. none-some n (none ∙ are.listed x n h)))

-- one more is put at the end of the line, where a place was made, and under its place number
pub pushed : {S : Type 0} (was made new : Line ℕ) (old places : IndexMap ℕ ℕ S) (x came : ℕ) (r : Result ℕ ℕ) → ArePlaced was.items old × (came ≡ was.offers) → made ≡ line was.items made.capacity was.offers →
    false ≡ is_err r → IfOk r (λ n. (n ≡ made.offers) × (new ≡ line (made.items ++ (x, n) ∷ []) made.capacity (made.offers + 1))) →
    Updates nat_eq old places x (Some came) → (Contains (ids was.items) x → ⊥) → ArePlaced new.items places × (came + 1 ≡ new.offers)
pushed was made new old places x came (Ok n) are same none is to absent =
    let held : made.items ≡ was.items = ap (λ (l : Line ℕ). l.items) same in
    let offers : made.offers ≡ was.offers = ap (λ (l : Line ℕ). l.offers) same in
    let number : n ≡ came = is.0 ∙ offers ∙ sym are.1 in
    let items : new.items ≡ was.items ++ (x, came) ∷ [] =
    ap (λ (l : Line ℕ). l.items) is.1 ∙ ap (λ ys. ys ++ (x, n) ∷ []) held ∙ ap (λ k. was.items ++ (x, k) ∷ []) number in
    let more : new.offers ≡ made.offers + 1 = ap (λ (l : Line ℕ). l.offers) is.1 in
    let count : came + 1 ≡ new.offers = omega (arith, are.1, offers, more) in
    (subst (λ ys. ArePlaced ys places) (sym items) (placed-more was.items old places x came are.0 absent to), count)
pushed was made new old places x came (Err e) are same none is to absent = absurd (false≢true none)

-- all places from low on are from an earlier one on
from_all : (n low : ℕ) (xs : List (ℕ × ℕ)) (next : ℕ) → n ≤ low → Ordered low xs next → from_place n xs ≡ xs
from_all n low [] next below o = refl
from_all n low (x ∷ xs) next below o =
    let first = o.0 in
    rw (le-leb n x.1 (omega (arith, first, below))) (ap (λ ys. x ∷ ys) (from_all n (suc x.1) xs next (omega (arith, first, below)) o.1))

first_id : (xs : List (ℕ × ℕ)) → option_map (λ p. p.0) (slice_get xs 0) ≡ slice_get (ids xs) 0
first_id [] = refl
first_id (x ∷ xs) = refl

-- who stands behind x is the first from the place after its own
pub next_placed : (low : ℕ) (xs : List (ℕ × ℕ)) (next x n : ℕ) → Ordered low xs next → ((m : ℕ) → HasPlace xs x m → m ≡ n) → HasPlace xs x n →
    option_map (λ p. p.0) (slice_get (from_place (suc n) xs) 0) ≡ next_of x (ids xs)
next_placed low [] next x n o only there = absurd there
next_placed low (y ∷ ys) next x n o only (inl here) =
    let at : y.1 ≡ n = here.1 in
    rw (lt-leb (suc n) y.1 (omega (arith, at)), eq-eqb y.0 x here.0)
    (ap (λ zs. option_map (λ p. p.0) (slice_get zs 0)) (from_all (suc n) (suc y.1) ys next (omega (arith, at)) o.1) ∙ first_id ys)
next_placed low (y ∷ ys) next x n o only (inr later) =
    let after = place_from (suc y.1) ys next x n o.1 later in
    let apart : y.0 ≡ x → ⊥ = λ e. let same = only y.1 (inl (e, refl)) in absurd (omega (arith, same, after)) in
    rw (lt-leb (suc n) y.1 (omega (arith, after)), ne_eqb y.0 x apart) (next_placed (suc y.1) ys next x n o.1 (λ m h. only m (inr h)) later)

-- nobody stands behind one who is not there
pub next_absent : (xs : List (ℕ × ℕ)) (x : ℕ) → ((n : ℕ) → HasPlace xs x n → ⊥) → None ≡ next_of x (ids xs)
next_absent [] x absent = refl
next_absent (y ∷ ys) x absent = rw (ne_eqb y.0 x (λ e. absent y.1 (inl (e, refl)))) (next_absent ys x (λ n h. absent n (inr h)))

-- each place stands below the next one
pub place_below : (low : ℕ) (xs : List (ℕ × ℕ)) (next w n : ℕ) → Ordered low xs next → HasPlace xs w n → n < next
place_below low [] next w n o h = absurd h
place_below low (x ∷ xs) next w n o (inl h) = let a = ordered_low (suc x.1) xs next o.1 in let b = h.1 in omega (arith, a, b)
place_below low (x ∷ xs) next w n o (inr h) = place_below (suc x.1) xs next w n o.1 h

-- who stands behind x, which has place n
pub next_found : {S : Type 0} (items : List (ℕ × ℕ)) (places : IndexMap ℕ ℕ S) (next x n k : ℕ) → ArePlaced items places → Ordered 0 items next → Some n ≡ get nat_eq places x → k ≡ suc n →
    option_map (λ p. p.0) (slice_get (from_place k items) 0) ≡ next_of x (ids items)
next_found items places next x n k are order at after =
    ap (λ m. option_map (λ p. p.0) (slice_get (from_place m items) 0)) after
    ∙ next_placed 0 items next x n order (λ m h. same_Some m n (sym (are.listed x m h) ∙ sym at)) (are.placed x n (sym at))
