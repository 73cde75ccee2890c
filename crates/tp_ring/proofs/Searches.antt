-- A search for the first item from a number on.
use Rattle.std.proofs.Common.{◌≡◌, ℕ, zero, suc, ◌+◌, ◌<◌, ◌≤◌, true, false, cond, List, [], ◌∷◌, length, refl, arith, sym, ap, ◌∙◌, inl, inr}
use Rattle.std.specs.Prelude.{drop, slice_get, Option, Some, None}
use Rattle.std.proofs.lemmas.Bool.{cases_lt, le-leb, lt-leb}
use Rattle.std.proofs.lemmas.Option.{same_Some, none-some}
use Rattle.tp_ring.specs.declared.items.Item.{Item}
use Rattle.tp_ring.specs.Line.{without_place, from_place}
use Rattle.tp_ring.specs.Ring.{living, Rises, number_at}
use Rattle.tp_ring.specs.Split.{IsBetween, IsSplit}
use Rattle.tp_ring.proofs.Rising.{number_order, number_read, without-absent}

module _ {T : Type 0} where
  pub between_up : (xs : List (Item T)) (n low high middle next : ℕ) (x : Item T) → Rises 0 xs next → IsBetween xs n low high → low ≤ middle → middle < high → slice_get xs middle ≡ Some x → x.number < n →
      IsBetween xs n (middle + 1) high
  between_up xs n low high middle next x rises b from to found less =
      let w = b.within in
      let here : number_at xs middle < n = let e = number_read xs middle x found in omega (arith, e, less) in
      record {
        below = λ i h. elim (cases_lt i middle) [
          | inl before ↦ let e = number_order 0 xs i middle next rises before (omega (arith, to, w)) in omega (arith, e, here)
          | inr after ↦ let e : i ≡ middle = omega (arith, after, h) in rw e here
        ];
        above = b.above;
        order = omega (arith, to);
        within = w;
      }

  pub between_down : (xs : List (Item T)) (n low high middle next : ℕ) (x : Item T) → Rises 0 xs next → IsBetween xs n low high → low ≤ middle → middle < high → slice_get xs middle ≡ Some x → n ≤ x.number →
      IsBetween xs n low middle
  between_down xs n low high middle next x rises b from to found more =
      let w = b.within in
      let here : n ≤ number_at xs middle = let e = number_read xs middle x found in omega (arith, e, more) in
      record {
        below = b.below;
        above = λ i h k. elim (cases_lt middle i) [
          | inl after ↦ let e = number_order 0 xs middle i next rises after k in omega (arith, e, here)
          | inr at ↦ let e : i ≡ middle = omega (arith, at, h) in rw e here
        ];
        order = from;
        within = omega (arith, w, to);
      }

  -- where the first item from the number on has another number, no item has it
  pub split_absent : (xs : List (Item T)) (n at next : ℕ) → Rises 0 xs next → IsSplit xs n at → (at < length xs → number_at xs at ≡ n → ⊥) → without_place n (living xs) ≡ living xs
  split_absent xs n at next rises split absent =
      without-absent n xs (λ i k same. elim (cases_lt i at) [
        | inl before ↦ let e = split.below i before in omega (arith, e, same)
        | inr after ↦ elim (cases_lt at i) [
          | inl later ↦ let e = number_order 0 xs at i next rises later k in let d = split.above at (omega arith) (omega (arith, later, k)) in omega (arith, e, d, same)
          | inr here ↦ let e : i ≡ at = omega (arith, after, here) in absent (omega (arith, e, k)) (rw (← e) same)
        ]
      ])

  -- those from the index on are those from the number on
  pub from_split : (xs : List (Item T)) (n at : ℕ) → IsSplit xs n at → living (drop at xs) ≡ from_place n (living xs)
  from_split [] n zero split = refl
  from_split [] n (suc at) split = refl
  from_split (x ∷ xs) n zero split =
      let rest = from_split xs n zero (record { below = λ i h. absurd (omega (arith, h)); above = λ i h k. split.above (suc i) (omega arith) (omega (arith, k)); order = omega arith; within = omega arith }) in
      elim x.live as (λ b. cond b ((x.id, x.number) ∷ living xs) (living xs) ≡ from_place n (cond b ((x.id, x.number) ∷ living xs) (living xs)))
      [ true ↦ rw (le-leb n x.number (split.above 0 (omega arith) (omega arith))) (ap (λ zs. (x.id, x.number) ∷ zs) rest) | false ↦ rest ]
  from_split (x ∷ xs) n (suc at) split =
      let w = split.within in
      let rest = from_split xs n at (record { below = λ i h. split.below (suc i) (omega (arith, h)); above = λ i h k. split.above (suc i) (omega (arith, h)) (omega (arith, k)); order = omega arith; within = omega (arith, w) }) in
      elim x.live as (λ b. living (drop at xs) ≡ from_place n (cond b ((x.id, x.number) ∷ living xs) (living xs)))
      [ true ↦ rw (lt-leb n x.number (split.below 0 (omega arith))) rest | false ↦ rest ]

  -- one place is passed
  pub living_drop : (xs : List (Item T)) (i : ℕ) (x : Item T) → slice_get xs i ≡ Some x → living (drop i xs) ≡ cond x.live ((x.id, x.number) ∷ living (drop (i + 1) xs)) (living (drop (i + 1) xs))
  living_drop [] i x found = absurd (none-some x found)
  living_drop (y ∷ ys) zero x found = ap (λ z. cond z.live ((z.id, z.number) ∷ living ys) (living ys)) (same_Some y x found)
  living_drop (y ∷ ys) (suc i) x found = let e : suc i + 1 ≡ suc (i + 1) = omega arith in rw e (living_drop ys i x found)

  pub passes_dead_place : (xs : List (Item T)) (i : ℕ) (x : Item T) → slice_get xs i ≡ Some x → x.live ≡ false → living (drop (i + 1) xs) ≡ living (drop i xs)
  passes_dead_place xs i x found dead =
      let e : living (drop i xs) ≡ living (drop (i + 1) xs) = living_drop xs i x found ∙ ap (λ b. cond b ((x.id, x.number) ∷ living (drop (i + 1) xs)) (living (drop (i + 1) xs))) dead in
      sym e

  pub finds_live_place : (xs : List (Item T)) (i : ℕ) (x : Item T) → slice_get xs i ≡ Some x → x.live ≡ true → ◌≡◌ {A = Option (T × ℕ)} (Some (x.id, x.number)) (slice_get (living (drop i xs)) 0)
  finds_live_place xs i x found lives =
      let e : living (drop i xs) ≡ (x.id, x.number) ∷ living (drop (i + 1) xs) = living_drop xs i x found ∙ ap (λ b. cond b ((x.id, x.number) ∷ living (drop (i + 1) xs)) (living (drop (i + 1) xs))) lives in
      sym (ap (λ ys. slice_get ys 0) e)

  pub get_within : (xs : List (Item T)) (i : ℕ) → i < length xs → slice_get xs i ≡ None → ⊥
  get_within [] i h none = absurd (omega (arith, h))
  get_within (y ∷ ys) zero h none = none-some y (sym none)
  get_within (y ∷ ys) (suc i) h none = get_within ys i (omega (arith, h)) none
