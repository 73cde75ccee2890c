-- One pass over the places of a ring: each leaves in front, and those that live come back behind.
use Rattle.std.proofs.Common.{◌≡◌, ℕ, zero, suc, ◌<◌, ◌≤◌, ◌-◌, Bool, true, false, cond, List, [], ◌∷◌, ◌++◌, length, take, drop, refl, arith, sym, ap, subst, ◌∙◌}
use Rattle.std.specs.Prelude.{slice_get, filter, Some, None}
use Rattle.std.proofs.lemmas.List.{append-nil, append_assoc, length-append, length-drop, take-append-drop}
use Rattle.std.proofs.lemmas.List.Elements.{filter-append}
use Rattle.std.proofs.lemmas.Option.{same_Some, none-some}
use Rattle.circular_buffer.specs.Buffer.{Buffer, buffer, keep_last}
use Rattle.tp_ring.specs.declared.items.Item.{Item}
use Rattle.tp_ring.specs.Ring.{living, Rises, FrontLives}
use Rattle.tp_ring.proofs.Rising.{Rises-from, keeps_push}

module _ {X : Type 0} where
  -- x is the i-th
  record IsNext (xs : List X) (i : ℕ) (x : X) : Type 0 where
    pub rest : drop i xs ≡ x ∷ drop (suc i) xs
    pub passed : take (suc i) xs ≡ take i xs ++ x ∷ []

  next_item : (xs : List X) (i : ℕ) → i < length xs → (x : X) × IsNext xs i x
  next_item [] i h = absurd (omega (arith, h))
  next_item (x ∷ xs) zero h = (x, record { rest = refl; passed = refl })
  next_item (x ∷ xs) (suc i) h = let n = next_item xs i (omega (arith, h)) in (n.0, record { rest = n.1.rest; passed = ap (λ ys. x ∷ ys) n.1.passed })

  take_all : (xs : List X) (i : ℕ) → length xs ≤ i → take i xs ≡ xs
  take_all [] zero h = refl
  take_all [] (suc i) h = refl
  take_all (x ∷ xs) zero h = absurd (omega (arith, h))
  take_all (x ∷ xs) (suc i) h = ap (λ ys. x ∷ ys) (take_all xs i (omega (arith, h)))

  drop_all : (xs : List X) (i : ℕ) → length xs ≤ i → drop i xs ≡ []
  drop_all [] zero h = refl
  drop_all [] (suc i) h = refl
  drop_all (x ∷ xs) zero h = absurd (omega (arith, h))
  drop_all (x ∷ xs) (suc i) h = drop_all xs i (omega (arith, h))

  length_filter : (p : X → Bool) (xs : List X) → length (filter p xs) ≤ length xs
  length_filter p [] = omega arith
  length_filter p (x ∷ xs) = let h = length_filter p xs in elim (p x) as (λ b. length (cond b (x ∷ filter p xs) (filter p xs)) ≤ suc (length xs)) [ true ↦ omega (arith, h) | false ↦ omega (arith, h) ]

module _ {T : Type 0} where
  -- those that live
  abbrev pub lives : List (Item T) → List (Item T)
  lives xs = filter (λ x. x.live) xs

  -- after i places were passed the others stand in front, and those of the i that live behind them
  abbrev pub IsPassed : List (Item T) → List (Item T) → ℕ → Type 0
  IsPassed old now i = now ≡ drop i old ++ lives (take i old)

  pub passed_start : (old : List (Item T)) → IsPassed old old 0
  passed_start old = sym (append-nil old)

  module _ (old now : List (Item T)) (i : ℕ) (passed : IsPassed old now i) where
    -- no more than there were
    passed_short : length now ≤ length old
    passed_short =
        let a = ap length passed ∙ length-append (drop i old) (lives (take i old)) in
        let b = sym (length-append (take i old) (drop i old)) ∙ ap length (take-append-drop i old) in
        let c = length_filter (λ x. x.live) (take i old) in
        omega (arith, a, b, c)

    -- the next place is in front
    next_front : i < length old → (x : Item T) × IsNext old i x × (slice_get now 0 ≡ Some x) × (drop 1 now ≡ drop (suc i) old ++ lives (take i old))
    next_front h =
        let n = next_item old i h in
        let is : now ≡ n.0 ∷ drop (suc i) old ++ lives (take i old) = passed ∙ ap (λ ys. ys ++ lives (take i old)) n.1.rest in
        (n.0, n.1, ap (λ ys. slice_get ys 0) is, ap (drop 1) is)

    passed_some : i < length old → 0 < length now
    passed_some h = let n = next_front h in by now n.2
      where
        by : (xs : List (Item T)) {x : Item T} → slice_get xs 0 ≡ Some x → 0 < length xs
        by [] {x} is = absurd (none-some x is)
        by (y ∷ ys) is = omega arith

    pub passed_none : i < length old → slice_get now 0 ≡ None → ⊥
    passed_none h none = let n = next_front h in none-some n.0 (sym none ∙ n.2)

    -- it lives, or not
    module _ (x : Item T) (more : i < length old) (front : slice_get now 0 ≡ Some x) where
      x_next : IsNext old i x × (drop 1 now ≡ drop (suc i) old ++ lives (take i old))
      x_next = let n = next_front more in (subst (λ y. IsNext old i y) (same_Some n.0 x (sym n.2 ∙ front)) n.1, n.3)

      lives_next : lives (take (suc i) old) ≡ lives (take i old) ++ lives (x ∷ [])
      lives_next = ap lives x_next.0.passed ∙ filter-append (λ y. y.live) (take i old) (x ∷ [])

      passed_living : x.live ≡ true → IsPassed old (drop 1 now ++ x ∷ []) (suc i)
      passed_living is =
          ap (λ ys. ys ++ x ∷ []) x_next.1 ∙ append_assoc (drop (suc i) old) (lives (take i old)) (x ∷ [])
          ∙ ap (λ ys. drop (suc i) old ++ ys) (sym (lives_next ∙ ap (λ b. lives (take i old) ++ cond b (x ∷ []) []) is))

      passed_dead : x.live ≡ false → IsPassed old (drop 1 now) (suc i)
      passed_dead is = x_next.1 ∙ ap (λ ys. drop (suc i) old ++ ys) (sym (lives_next ∙ ap (λ b. lives (take i old) ++ cond b (x ∷ []) []) is ∙ append-nil (lives (take i old))))

    -- once all are passed
    pub passed_rest : length old ≤ i → now ≡ lives old
    passed_rest h = passed ∙ ap (λ ys. ys ++ lives (take i old)) (drop_all old i h) ∙ ap lives (take_all old i h)

  -- one place, in a ring
  module _ (old cur mid new : Buffer (Item T)) (i : ℕ) (x : Item T) (passed : IsPassed old.items cur.items i) (capacity : cur.capacity ≡ old.capacity) (more : i < length old.items) (front : slice_get cur.items 0 ≡ Some x)
      (popped : mid ≡ buffer (drop 1 cur.items) cur.capacity) where
    pub ring_living : length old.items ≤ old.capacity → x.live ≡ true → new ≡ buffer (keep_last mid.capacity (mid.items ++ x ∷ [])) mid.capacity →
        IsPassed old.items new.items (suc i) × (new.capacity ≡ old.capacity)
    ring_living fits is pushed =
        let short = passed_short old.items cur.items i passed in
        let some = passed_some old.items cur.items i passed more in
        let one = length-drop 1 cur.items in
        let m : length mid.items ≡ length cur.items - 1 = ap (λ b. length b.items) popped ∙ one in
        let n : mid.capacity ≡ old.capacity = ap (λ b. b.capacity) popped ∙ capacity in
        let k : length mid.items < mid.capacity = omega (arith, short, some, m, n, fits) in
        let e : new.items ≡ drop 1 cur.items ++ x ∷ [] = ap (λ b. b.items) pushed ∙ keeps_push mid.capacity mid.items x k ∙ ap (λ b. b.items ++ x ∷ []) popped in
        (e ∙ passed_living old.items cur.items i passed x more front is, ap (λ b. b.capacity) pushed ∙ n)

    pub ring_dead : x.live ≡ false → new ≡ mid → IsPassed old.items new.items (suc i) × (new.capacity ≡ old.capacity)
    ring_dead is left =
        let e : new ≡ buffer (drop 1 cur.items) cur.capacity = left ∙ popped in
        (ap (λ b. b.items) e ∙ passed_dead old.items cur.items i passed x more front is, ap (λ b. b.capacity) e ∙ capacity)

  -- What is left

  pub living-lives : (xs : List (Item T)) → living (lives xs) ≡ living xs
  living-lives [] = refl
  living-lives (x ∷ xs) = by x.live refl (living-lives xs)
    where
      by : (b : Bool) → x.live ≡ b → living (lives xs) ≡ living xs → living (lives (x ∷ xs)) ≡ living (x ∷ xs)
      by false is rest = rw is rest
      by true is rest = rw is (ap (λ ys. (x.id, x.number) ∷ ys) rest)

  pub full-lives : (xs : List (Item T)) → length (lives xs) ≡ length (living xs)
  full-lives [] = refl
  full-lives (x ∷ xs) = by x.live (full-lives xs)
    where
      by : (b : Bool) → length (lives xs) ≡ length (living xs) → length (cond b (x ∷ lives xs) (lives xs)) ≡ length (cond b ((x.id, x.number) ∷ living xs) (living xs))
      by false rest = rest
      by true rest = ap suc rest

  pub front-lives : (xs : List (Item T)) → FrontLives (lives xs)
  front-lives [] = tt
  front-lives (x ∷ xs) = by x.live refl (front-lives xs)
    where
      by : (b : Bool) → x.live ≡ b → FrontLives (lives xs) → FrontLives (cond b (x ∷ lives xs) (lives xs))
      by false is rest = rest
      by true is rest = is

  pub rises-lives : (low : ℕ) (xs : List (Item T)) (n : ℕ) → Rises low xs n → Rises low (lives xs) n
  rises-lives low [] n r = r
  rises-lives low (x ∷ xs) n r =
      let rest = rises-lives (suc x.number) xs n r.1 in
      let a = r.0 in
      elim x.live as (λ b. Rises low (cond b (x ∷ lives xs) (lives xs)) n) [ true ↦ (a, rest) | false ↦ Rises-from (suc x.number) low (lives xs) n (omega (arith, a)) rest ]
