-- Slots and free numbers, after one of them changes.
use Rattle.std.proofs.Common.{◌≡◌, ℕ, zero, suc, ◌+◌, ◌-◌, ◌^◌, ◌<◌, ◌≤◌, ◌⊎◌, inl, inr, cond, List, [], ◌∷◌, ◌++◌, length, set, get_or, refl, arith, sym, ap, ◌∙◌, subst, length-set, Option, Some, None}
use Rattle.std.specs.Prelude.{count_by, is_some, IsSome, slice_get}
use Rattle.std.proofs.lemmas.Bool.{cases_lt, false≢true}
use Rattle.std.proofs.lemmas.Option.{slice_get_within, slice_get-get_or, get_or_from_slice_get}
use Rattle.std.proofs.lemmas.List.{get_or_past, get_or_append_left, get_or-set_same, get_or-set_other, length_push}
use Rattle.std.proofs.lemmas.List.Sums.{sum_by-set, sum_by_push}
use Rattle.std.proofs.Math.Seq.{get_or-append_seam}
use Rattle.tp_slots.specs.declared.kept_slots.KeptSlot.{KeptSlot}
use Rattle.tp_slots.specs.Keeping.{Changed, IsKept, next_of, kept_at}

-- a number with a slot is one of the rows
pub kept_within : (rows : List (Option KeptSlot)) (w : ℕ) → IsSome (kept_at rows w) → w < length rows
kept_within rows w some = elim (cases_lt w (length rows)) [ inl h ↦ h | inr past ↦ absurd (false≢true (sym (ap is_some (get_or_past rows w None past)) ∙ some)) ]

-- a row that is written is another one than those that are not
pub read_other : (rows : List (Option KeptSlot)) (w x : ℕ) (o : Option KeptSlot) → (x ≡ w → ⊥) → slice_get (set rows w o) x ≡ slice_get rows x
read_other [] w x o apart = refl
read_other (r ∷ rows) zero zero o apart = absurd (apart refl)
read_other (r ∷ rows) zero (suc x) o apart = refl
read_other (r ∷ rows) (suc w) zero o apart = refl
read_other (r ∷ rows) (suc w) (suc x) o apart = read_other rows w x o (λ e. apart (ap suc e))

pub read_same : (rows : List (Option KeptSlot)) (w : ℕ) (o : Option KeptSlot) → w < length rows → slice_get (set rows w o) w ≡ Some o
read_same rows w o within = slice_get-get_or (set rows w o) w o (omega (arith, within, length-set rows w o)) ∙ ap (λ x. Some x) (get_or-set_same rows w o o within)

-- how many slots there are after one is written
pub kept_set : (rows : List (Option KeptSlot)) (w : ℕ) (o : Option KeptSlot) → w < length rows → count_by is_some (set rows w o) + cond (is_some (kept_at rows w)) 1 0 ≡ count_by is_some rows + cond (is_some o) 1 0
kept_set rows w o within = sum_by-set (λ x. cond (is_some x) 1 0) rows w o None within

-- the last of some numbers
last_read : (free : List ℕ) (w : ℕ) → get_or (free ++ w ∷ []) (length free) 0 ≡ w
last_read free w = get_or-append_seam free w [] 0

module _ (rows : List (Option KeptSlot)) (free : List ℕ) (places : ℕ) (sound : IsKept rows free places) where
  -- there are no more slots than places, nor than rows; and no more free numbers than places
  pub kept_few : count_by is_some rows ≤ places
  kept_few = let c = sound.counted in let w = sound.within in omega (arith, c, w)

  pub free_few : length free ≤ places
  free_few = let c = sound.counted in let w = sound.within in omega (arith, c, w)

  -- where a number is free it is the last one, else the next is past the rows
  next_cases : ((length free ≡ 0) × (next_of rows free ≡ length rows)) ⊎ (slice_get rows (next_of rows free) ≡ Some None)
  next_cases = elim (cases_lt 0 (length free)) [
    | inl some ↦
        let last = sound.vacant (length free - 1) (omega (arith, some)) in
        inr (subst (λ x. slice_get rows x ≡ Some None) (same_read free (length free - 1) (length rows) (omega (arith, some))) last)
    | inr none ↦ inl (omega (arith, none), get_or_past free (length free - 1) (length rows) (omega (arith, none)))
  ]
    where
      same_read : (xs : List ℕ) (i d : ℕ) → i < length xs → get_or xs i 0 ≡ get_or xs i d
      same_read [] i d h = absurd (omega (arith, h))
      same_read (x ∷ xs) zero d h = refl
      same_read (x ∷ xs) (suc i) d h = same_read xs i d (omega (arith, h))

  -- the next number has no slot
  pub next_vacant : kept_at rows (next_of rows free) ≡ None
  next_vacant = elim next_cases [
    | inl past ↦ get_or_past rows (next_of rows free) None (let e = past.1 in omega (arith, e))
    | inr vacant ↦ get_or_from_slice_get rows (next_of rows free) None None vacant
  ]

  -- and is small
  pub next_small : next_of rows free < 2 ^ 16
  next_small = elim next_cases [
    | inl past ↦ let a = past.1 in let b = sound.within in let c = sound.few in omega (arith, a, b, c)
    | inr vacant ↦ let a = slice_get_within rows (next_of rows free) None vacant in let b = sound.within in let c = sound.few in omega (arith, a, b, c)
  ]

  -- a number with a slot is small
  pub kept_small : (w : ℕ) → IsSome (kept_at rows w) → w < 2 ^ 16
  kept_small w some = let a = kept_within rows w some in let b = sound.within in let c = sound.few in omega (arith, a, b, c)

  -- a free number has no slot
  free_vacant : (i w : ℕ) → i < length free → IsSome (kept_at rows w) → get_or free i 0 ≡ w → ⊥
  free_vacant i w within some e =
      let none : kept_at rows w ≡ None = get_or_from_slice_get rows w None None (subst (λ x. slice_get rows x ≡ Some None) e (sound.vacant i within)) in
      false≢true (sym (ap is_some none) ∙ some)

  -- a slot is replaced
  pub stands-put : (w : ℕ) (slot : KeptSlot) → IsSome (kept_at rows w) → IsKept (set rows w (Some slot)) free places
  stands-put w slot some =
      let within = kept_within rows w some in
      let a = kept_set rows w (Some slot) within in
      let b : ◌≡◌ {A = ℕ} (cond (is_some (kept_at rows w)) 1 0) 1 = rw some refl in
      let c = sound.counted in
      let l = length-set rows w (Some slot) in
      let t = sound.within in
      record {
        vacant = λ i h. read_other rows w (get_or free i 0) (Some slot) (free_vacant i w h some) ∙ sound.vacant i h;
        once = sound.once;
        counted = omega (arith, a, b, c, l);
        within = omega (arith, l, t);
        few = sound.few;
      }

  -- a number is freed
  pub stands-free : (w : ℕ) → IsSome (kept_at rows w) → IsKept (set rows w None) (free ++ w ∷ []) places
  stands-free w some =
      let within = kept_within rows w some in
      let a = kept_set rows w None within in
      let b : ◌≡◌ {A = ℕ} (cond (is_some (kept_at rows w)) 1 0) 1 = rw some refl in
      let c = sound.counted in
      let l = length-set rows w None in
      let m = length_push free w in
      let t = sound.within in
      record {
        vacant = λ i h. elim (cases_lt i (length free)) [
          | inl before ↦ subst (λ x. slice_get (set rows w None) x ≡ Some None) (sym (get_or_append_left free (w ∷ []) 0 i before)) (read_other rows w (get_or free i 0) None (free_vacant i w before some) ∙ sound.vacant i before)
          | inr after ↦
              let e : i ≡ length free = omega (arith, h, after, m) in
              subst (λ x. slice_get (set rows w None) x ≡ Some None) (sym (ap (λ k. get_or (free ++ w ∷ []) k 0) e ∙ last_read free w)) (read_same rows w None within)
        ];
        once = λ i j before h same. elim (cases_lt j (length free)) [
          | inl inside ↦ sound.once i j before inside (sym (get_or_append_left free (w ∷ []) 0 i (omega (arith, before, inside))) ∙ same ∙ get_or_append_left free (w ∷ []) 0 j inside)
          | inr last ↦
              let e : j ≡ length free = omega (arith, h, last, m) in
              let f : i < length free = omega (arith, before, e) in
              free_vacant i w f some (sym (get_or_append_left free (w ∷ []) 0 i f) ∙ same ∙ ap (λ k. get_or (free ++ w ∷ []) k 0) e ∙ last_read free w)
        ];
        counted = omega (arith, a, b, c, l, m);
        within = omega (arith, l, t);
        few = sound.few;
      }

-- the number that was freed last has an empty row
pub last_vacant : (rows : List (Option KeptSlot)) (free : List ℕ) (w places : ℕ) → IsKept rows (free ++ w ∷ []) places → slice_get rows w ≡ Some None
last_vacant rows free w places sound = subst (λ x. slice_get rows x ≡ Some None) (last_read free w) (let m = length_push free w in sound.vacant (length free) (omega (arith, m)))

-- it gets a slot
pub stands-fill : (rows : List (Option KeptSlot)) (free : List ℕ) (w places : ℕ) (slot : KeptSlot) → IsKept rows (free ++ w ∷ []) places → IsKept (set rows w (Some slot)) free places
stands-fill rows free w places slot sound =
    let empty = last_vacant rows free w places sound in
    let within = slice_get_within rows w None empty in
    let a = kept_set rows w (Some slot) within in
    let none : kept_at rows w ≡ None = get_or_from_slice_get rows w None None empty in
    let b : ◌≡◌ {A = ℕ} (cond (is_some (kept_at rows w)) 1 0) 0 = rw none refl in
    let c = sound.counted in
    let l = length-set rows w (Some slot) in
    let m = length_push free w in
    let t = sound.within in
    let read : (i : ℕ) → i < length free → get_or (free ++ w ∷ []) i 0 ≡ get_or free i 0 = λ i h. get_or_append_left free (w ∷ []) 0 i h in
    record {
      vacant = λ i h.
          let apart : get_or free i 0 ≡ w → ⊥ = λ e. sound.once i (length free) h (omega (arith, m)) (read i h ∙ e ∙ sym (last_read free w)) in
          read_other rows w (get_or free i 0) (Some slot) apart ∙ subst (λ x. slice_get rows x ≡ Some None) (read i h) (sound.vacant i (omega (arith, h, m)));
      once = λ i j before h same. sound.once i j before (omega (arith, h, m)) (read i (omega (arith, before, h)) ∙ same ∙ sym (read j h));
      counted = omega (arith, a, b, c, l, m);
      within = omega (arith, l, t);
      few = sound.few;
    }

-- with none free one more row comes
pub stands-push : (rows : List (Option KeptSlot)) (places : ℕ) (slot : KeptSlot) → IsKept rows [] places → count_by is_some rows < places → IsKept (rows ++ Some slot ∷ []) [] places
stands-push rows places slot sound room =
    let c = sound.counted in
    let a = sum_by_push (λ x. cond (is_some x) 1 0) rows (Some slot) in
    let l = length_push rows (Some slot) in
    record {
      vacant = λ i h. absurd (omega (arith, h));
      once = λ i j before h same. absurd (omega (arith, h));
      counted = omega (arith, a, c, l);
      within = omega (arith, c, l, room);
      few = sound.few;
    }

-- what is changed where a row is written, or one more comes
pub changed-fill : (rows : List (Option KeptSlot)) (w : ℕ) (o : Option KeptSlot) → w < length rows → Changed rows (set rows w o) w o
changed-fill rows w o within = record {
  here = get_or-set_same rows w o None within;
  others = λ x apart. get_or-set_other rows w x o None apart;
}

pub changed-push : (rows : List (Option KeptSlot)) (o : Option KeptSlot) → Changed rows (rows ++ o ∷ []) (length rows) o
changed-push rows o = record {
  here = get_or-append_seam rows o [] None;
  others = λ x apart. same x apart (cases_lt x (length rows));
}
  where
    same : (x : ℕ) → (x ≡ length rows → ⊥) → (x < length rows) ⊎ (length rows ≤ x) → kept_at (rows ++ o ∷ []) x ≡ kept_at rows x
    same x apart (inl h) = get_or_append_left rows (o ∷ []) None x h
    same x apart (inr past) = get_or_past (rows ++ o ∷ []) x None (let l = length_push rows o in omega (arith, l, past, apart)) ∙ sym (get_or_past rows x None past)

-- no slots yet
pub stands-none : (places : ℕ) → places < 2 ^ 16 → IsKept [] [] places
stands-none places few = record {
  vacant = λ i h. absurd (omega (arith, h));
  once = λ i j before h same. absurd (omega (arith, h));
  counted = refl;
  within = omega arith;
  few = few;
}

-- more places
pub stands-more : (rows : List (Option KeptSlot)) (free : List ℕ) (places more : ℕ) → IsKept rows free places → places ≤ more → more < 2 ^ 16 → IsKept rows free more
stands-more rows free places more sound less few = let w = sound.within in record {
  vacant = sound.vacant;
  once = sound.once;
  counted = sound.counted;
  within = omega (arith, w, less);
  few = few;
}

-- the number that is freed is the next one
pub next_freed : (rows : List (Option KeptSlot)) (free : List ℕ) (w : ℕ) → next_of rows (free ++ w ∷ []) ≡ w
next_freed rows free w =
    let m = length_push free w in
    let e : length (free ++ w ∷ []) - 1 ≡ length free = omega (arith, m) in
    ap (λ k. get_or (free ++ w ∷ []) k (length rows)) e ∙ get_or-append_seam free w [] (length rows)
