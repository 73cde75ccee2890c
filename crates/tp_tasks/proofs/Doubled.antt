-- Tasks lie at their homes among twice as many.
use Rattle.std.proofs.Common.{◌≡◌, ℕ, suc, ◌+◌, ◌-◌, ◌%◌, ◌<◌, ◌≤◌, Bool, true, false, not, cond, List, ◌++◌, length, set, replicate, Option, Some, None, refl, sym, ap, subst, ◌∙◌, arith, ◌⊎◌, inl, inr}
use Rattle.std.specs.Prelude.{nat_eq}
use Rattle.std.specs.List.{SwappedAt}
use Rattle.std.proofs.lemmas.Bool.{cases_eq, cases_lt, ne_eqb, eq-eqb, eqb-true, false≢true}
use Rattle.std.proofs.lemmas.List.{length-append, length-replicate, get_or-set_other, get_or_past, get_or_append_left, length-set}
use Rattle.std.proofs.lemmas.List.Sums.{sum_by-set, sum_by-append}
use Rattle.std.proofs.lemmas.Option.{none-some, same_Some}
use Rattle.std.proofs.Math.Logic.{∥∥₁_map}
use Rattle.std.proofs.Math.Nat.{mod-lt, mod-eq_of_lt, add-mod_right, mod-mod_of_dvd, dvd-add, two-pow-succ}
use Rattle.std.proofs.lemmas.Nat.Gcd.{dvd_refl}
use Rattle.indexmap.specs.IndexMap.{IndexMap, get}
use Rattle.tp_record.specs.declared.rows.TaskRow.{TaskRow}
use Rattle.tp_tasks.specs.declared.homes.Home.{Home}
use Rattle.tp_tasks.specs.declared.table.KeptTask.{KeptTask}
use Rattle.tp_tasks.specs.Homes.{home_of, IsSize, held, holder, home_passes, home_at, or_beside, found, home_count, moves, stays, goes, ArePlaced, AreApart, AreSpread}
use Rattle.tp_tasks.proofs.AtHome.{one, count_free}

-- a number's home among twice as many is the one that it had, or so many further
halves : (m t : ℕ) → 0 < m → (home_of (m + m) t ≡ home_of m t) ⊎ (home_of (m + m) t ≡ home_of m t + m)
halves m t some = elim (cases_lt (home_of (m + m) t) m) [
  | inl low ↦ inl (sym (mod-eq_of_lt low) ∙ same)
  | inr high ↦ inr (let back = upper high in omega (arith, high, back))
]
  where
    below : home_of (m + m) t < m + m
    below = mod-lt t (omega (arith, some))

    same : home_of (m + m) t % m ≡ home_of m t
    same = mod-mod_of_dvd m t (dvd-add m (dvd_refl m) (dvd_refl m))

    upper : m ≤ home_of (m + m) t → home_of (m + m) t - m ≡ home_of m t
    upper high =
        let less : home_of (m + m) t - m < m = (let b = below in omega (arith, b, high)) in
        let whole : home_of (m + m) t - m + m ≡ home_of (m + m) t = omega (arith, high) in
        sym (mod-eq_of_lt less) ∙ sym (add-mod_right (home_of (m + m) t - m) m) ∙ ap (λ k. k % m) whole ∙ same

-- one more home is settled
module _ {P : Type 0} (k m : ℕ) (old now : List (Option (Home P))) (spread : AreSpread k m old now) (within : k < m) where
  asked : moves (length old) k (home_at old k) ≡ moves (length now) k (home_at now k)
  asked = ap (λ n. moves n k (home_at old k)) (sym spread.len) ∙ ap (moves (length now) k) (sym (spread.rest k (omega arith) within))

  module _ (answer : moves (length now) k (home_at now k) ≡ false) where
    stay : moves (length old) k (home_at old k) ≡ false
    stay = asked ∙ answer

    pub spread_stays : AreSpread (k + 1) m old now
    spread_stays = record {
      len = spread.len;
      low = λ i less. elim (cases_eq i k) [
        | inl e ↦ ap (home_at now) e ∙ spread.rest k (omega arith) within ∙ sym (ap (λ b. cond b None (home_at old k)) stay) ∙ ap (λ j. stays (length old) j (home_at old j)) (sym e)
        | inr ne ↦ spread.low i (omega (arith, less, ne))
      ];
      high = λ i less. elim (cases_eq i k) [
        | inl e ↦ ap (λ j. home_at now (j + m)) e ∙ spread.free k (omega arith) within ∙ sym (ap (λ b. cond b (home_at old k) None) stay) ∙ ap (λ j. goes (length old) j (home_at old j)) (sym e)
        | inr ne ↦ spread.high i (omega (arith, less, ne))
      ];
      rest = λ i past. spread.rest i (omega (arith, past));
      free = λ i past. spread.free i (omega (arith, past));
      count = spread.count;
    }

  module _ (next : List (Option (Home P))) (len : length next ≡ length now) (long : length old ≡ m + m) (swapped : SwappedAt now next k (k + m)) (answer : moves (length now) k (home_at now k) ≡ true) where
    go : moves (length old) k (home_at old k) ≡ true
    go = asked ∙ answer

    other : (i : ℕ) → (i ≡ k → ⊥) → (i ≡ k + m → ⊥) → home_at next i ≡ home_at now i
    other i ne ne' = swapped.2 i None ne ne'

    counted : (p : TaskRow → Bool) → home_count p next ≡ home_count p now
    counted p =
        let f : Option (Home P) → ℕ = λ h. one (home_passes p h) in
        let here = home_at now k in
        let there = home_at now (k + m) in
        let first = sum_by-set f now k there None (let l = spread.len in omega (arith, l, long, within)) in
        let second = sum_by-set f (set now k there) (k + m) here None (let l = spread.len in let s = length-set now k there in omega (arith, l, s, long, within)) in
        let apart = ap f (get_or-set_other now k (k + m) there None (λ e. omega (arith, e, within))) in
        let is = ap (home_count p) (swapped.3 None) in
        omega (arith, first, second, apart, is)

    pub spread_goes : AreSpread (k + 1) m old next
    spread_goes = record {
      len = len ∙ spread.len;
      low = λ i less. elim (cases_eq i k) [
        | inl e ↦ ap (home_at next) e ∙ swapped.0 None ∙ spread.free k (omega arith) within ∙ sym (ap (λ b. cond b None (home_at old k)) go) ∙ ap (λ j. stays (length old) j (home_at old j)) (sym e)
        | inr ne ↦ other i ne (λ e. omega (arith, e, less, within)) ∙ spread.low i (omega (arith, less, ne))
      ];
      high = λ i less. elim (cases_eq i k) [
        | inl e ↦ ap (λ j. home_at next (j + m)) e ∙ swapped.1 None ∙ spread.rest k (omega arith) within ∙ sym (ap (λ b. cond b (home_at old k) None) go) ∙ ap (λ j. goes (length old) j (home_at old j)) (sym e)
        | inr ne ↦ other (i + m) (λ e. omega (arith, e, within)) (λ e. ne (omega (arith, e))) ∙ spread.high i (omega (arith, less, ne))
      ];
      rest = λ i past less. other i (λ e. omega (arith, e, past)) (λ e. omega (arith, e, less)) ∙ spread.rest i (omega (arith, past)) less;
      free = λ i past less. other (i + m) (λ e. omega (arith, e, past, within)) (λ e. omega (arith, e, past)) ∙ spread.free i (omega (arith, past)) less;
      count = λ p. counted p ∙ spread.count p;
    }

-- What one home holds, once it is settled
module _ {P : Type 0} (n i u : ℕ) where
  module _ (b : Bool) (h : Home P) where
    gone_held : nat_eq h.number u ≡ false → held u (cond b None (Some h)) ≡ None
    gone_held ne = by b
      where
        by : (b : Bool) → held u (cond b None (Some h)) ≡ None
        by true = refl
        by false = ap (λ c. cond c (Some h.task) None) ne

    went_held : nat_eq h.number u ≡ false → held u (cond b (Some h) None) ≡ None
    went_held ne = by b
      where
        by : (b : Bool) → held u (cond b (Some h) None) ≡ None
        by true = ap (λ c. cond c (Some h.task) None) ne
        by false = refl

  stays_held : (o : Option (Home P)) → home_of n u ≡ i → held u (stays n i o) ≡ held u o
  stays_held None e = refl
  stays_held (Some h) e = by (nat_eq h.number u) refl
    where
      by : (b : Bool) → nat_eq h.number u ≡ b → held u (stays n i (Some h)) ≡ held u (Some h)
      by true is = ap (λ c. held u (cond (not c) None (Some h))) (eq-eqb (home_of n h.number) i (ap (home_of n) (eqb-true h.number u is) ∙ e))
      by false is = gone_held (moves n i (Some h)) h is ∙ sym (ap (λ c. cond c (Some h.task) None) is)

  goes_held : (o : Option (Home P)) → (home_of n u ≡ i → ⊥) → held u (goes n i o) ≡ held u o
  goes_held None ne = refl
  goes_held (Some h) ne = by (nat_eq h.number u) refl
    where
      by : (b : Bool) → nat_eq h.number u ≡ b → held u (goes n i (Some h)) ≡ held u (Some h)
      by true is = ap (λ c. held u (cond (not c) (Some h) None)) (ne_eqb (home_of n h.number) i (λ e. ne (ap (home_of n) (sym (eqb-true h.number u is)) ∙ e)))
      by false is = went_held (moves n i (Some h)) h is ∙ sym (ap (λ c. cond c (Some h.task) None) is)

module _ {P : Type 0} (n i t : ℕ) where
  stays_holder : (o : Option (Home P)) → holder (stays n i o) ≡ Some t → (holder o ≡ Some t) × (home_of n t ≡ i)
  stays_holder None e = absurd (none-some t e)
  stays_holder (Some h) e = by (nat_eq (home_of n h.number) i) refl e
    where
      by : (b : Bool) → nat_eq (home_of n h.number) i ≡ b → holder (cond (not b) None (Some h)) ≡ Some t → (Some h.number ≡ Some t) × (home_of n t ≡ i)
      by true is e = (e, ap (home_of n) (sym (same_Some h.number t e)) ∙ eqb-true (home_of n h.number) i is)
      by false is e = absurd (none-some t e)

  goes_holder : (o : Option (Home P)) → holder (goes n i o) ≡ Some t → (holder o ≡ Some t) × (home_of n t ≡ i → ⊥)
  goes_holder None e = absurd (none-some t e)
  goes_holder (Some h) e = by (nat_eq (home_of n h.number) i) refl e
    where
      by : (b : Bool) → nat_eq (home_of n h.number) i ≡ b → holder (cond (not b) (Some h) None) ≡ Some t → (Some h.number ≡ Some t) × (home_of n t ≡ i → ⊥)
      by true is e = absurd (none-some t e)
      by false is e = (e, λ there. false≢true (sym is ∙ eq-eqb (home_of n h.number) i (ap (home_of n) (same_Some h.number t e) ∙ there)))

-- twice a power of two is one
twice_size : (n : ℕ) → IsSize n → IsSize (n + n)
twice_size n size = ∥∥₁_map size (λ cases. elim cases [
  | inl none ↦ inl (omega (arith, none))
  | inr power ↦ inr (suc power.0, let next = two-pow-succ power.0 in let is = power.1 in omega (arith, next, is))
])

-- as many homes more are twice as many
pub wide_size : {P : Type 0} (old wide : List (Option (Home P))) (r : ℕ) → r ≡ length old → wide ≡ old ++ replicate r None → IsSize (length old) → IsSize (length wide)
wide_size old wide r is added size =
    let long = ap length added ∙ length-append old (replicate r None) ∙ ap (λ k. length old + k) (length-replicate r None ∙ is) in
    subst IsSize (sym long) (twice_size (length old) size)

-- all homes are settled
pub all_spread : {P : Type 0} (old wide now : List (Option (Home P))) (r : ℕ) → r ≡ length old → wide ≡ old ++ replicate r None → AreSpread r r wide now → AreSpread (length old) (length old) (old ++ replicate (length old) None) now
all_spread old wide now r is added spread = subst (λ n. AreSpread n n (old ++ replicate n None) now) is (subst (λ w. AreSpread r r w now) added spread)

module _ {P S : Type 0} (old now : List (Option (Home P))) (beside : IndexMap ℕ (KeptTask P) S) (some : 0 < length old) (spread : AreSpread (length old) (length old) (old ++ replicate (length old) None) now) where
  abbrev m : ℕ
  m = length old

  abbrev wide : List (Option (Home P))
  wide = old ++ replicate m None

  long : length wide ≡ m + m
  long = length-append old (replicate m None) ∙ ap (λ k. m + k) (length-replicate m None)

  pub doubled : length now ≡ m + m
  doubled = spread.len ∙ long

  pub sized_doubled : IsSize m → IsSize (length now)
  sized_doubled size = subst IsSize (sym doubled) (twice_size m size)

  was : (i : ℕ) → i < m → home_at wide i ≡ home_at old i
  was i less = get_or_append_left old (replicate m None) None i less

  low : (i : ℕ) → i < m → home_at now i ≡ stays (m + m) i (home_at old i)
  low i less = spread.low i less ∙ ap (λ n. stays n i (home_at wide i)) long ∙ ap (stays (m + m) i) (was i less)

  high : (i : ℕ) → i < m → home_at now (i + m) ≡ goes (m + m) i (home_at old i)
  high i less = spread.high i less ∙ ap (λ n. goes n i (home_at wide i)) long ∙ ap (goes (m + m) i) (was i less)

  held_still : (u : ℕ) → held u (home_at now (home_of (m + m) u)) ≡ held u (home_at old (home_of m u))
  held_still u = elim (halves m u some) [
    | inl same ↦ ap (λ j. held u (home_at now j)) same ∙ ap (held u) (low (home_of m u) (mod-lt u some)) ∙ stays_held (m + m) (home_of m u) u (home_at old (home_of m u)) same
    | inr further ↦ ap (λ j. held u (home_at now j)) further ∙ ap (held u) (high (home_of m u) (mod-lt u some))
        ∙ goes_held (m + m) (home_of m u) u (home_at old (home_of m u)) (λ e. let both = sym further ∙ e in omega (arith, both, some))
  ]

  pub found_doubled : (u : ℕ) → found now beside u ≡ found old beside u
  found_doubled u = ap (λ o. or_beside o (get nat_eq beside u)) (ap (λ n. held u (home_at now (home_of n u))) doubled ∙ held_still u)

  pub count_doubled : (p : TaskRow → Bool) → home_count p now ≡ home_count p old
  count_doubled p =
      let same = spread.count p in
      let sum = sum_by-append (λ (h : Option (Home P)). one (home_passes p h)) old (replicate m None) in
      let none = count_free {P = P} p m (replicate m None) refl in
      omega (arith, same, sum, none)

  -- who holds a home held one before
  from : ArePlaced old → (j t : ℕ) → holder (home_at now j) ≡ Some t → (i : ℕ) × (holder (home_at old i) ≡ Some t) × (home_of (m + m) t ≡ j)
  from placed j t e = elim (cases_lt j m) [
    | inl less ↦ let o = stays_holder (m + m) j t (home_at old j) (sym (ap holder (low j less)) ∙ e) in (j, o.0, o.1)
    | inr past ↦ elim (cases_lt j (m + m)) [
      | inl less ↦
          let i = j - m in
          let back : i + m ≡ j = omega (arith, past) in
          let o = goes_holder (m + m) i t (home_at old i) (sym (ap holder (sym (ap (home_at now) back) ∙ high i (omega (arith, past, less)))) ∙ e) in
          (i, o.0, further i t (placed i t o.0) o.1 ∙ back)
      | inr far ↦ absurd (none-some t (sym (ap holder (get_or_past now j None (let l = doubled in omega (arith, l, far)))) ∙ e))
    ]
  ]
    where
      further : (i t : ℕ) → home_of m t ≡ i → (home_of (m + m) t ≡ i → ⊥) → home_of (m + m) t ≡ i + m
      further i t is ne = elim (halves m t some) [
        | inl same ↦ absurd (ne (same ∙ is))
        | inr there ↦ there ∙ ap (λ k. k + m) is
      ]

  pub placed_doubled : ArePlaced old → ArePlaced now
  placed_doubled placed j t e = ap (λ n. home_of n t) doubled ∙ (from placed j t e).2

  pub apart_doubled : ArePlaced old → AreApart old beside → AreApart now beside
  apart_doubled placed apart j t e = let at = from placed j t e in apart at.0 t at.1
