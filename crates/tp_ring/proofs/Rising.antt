-- Lists of items whose numbers rise.
use Rattle.std.proofs.Common.{◌≡◌, ℕ, zero, suc, ◌<◌, ◌≤◌, ◌-◌, true, false, cond, List, [], ◌∷◌, ◌++◌, length, refl, arith, ap}
use Rattle.std.specs.Prelude.{slice_get, Some}
use Rattle.std.proofs.lemmas.Bool.{ne_eqb}
use Rattle.std.proofs.lemmas.List.{length-append}
use Rattle.std.proofs.lemmas.Option.{same_Some, none-some}
use Rattle.tp_ring.specs.declared.items.Item.{Item}
use Rattle.tp_ring.specs.Line.{without_place}
use Rattle.tp_ring.specs.Ring.{living, Rises, number_at}
use Rattle.circular_buffer.specs.Buffer.{keep_last}

module _ {T : Type 0} where
  pub living-append : (xs ys : List (Item T)) → living (xs ++ ys) ≡ living xs ++ living ys
  living-append [] ys = refl
  living-append (x ∷ xs) ys = elim x.live as (λ b. cond b ((x.id, x.number) ∷ living (xs ++ ys)) (living (xs ++ ys)) ≡ cond b ((x.id, x.number) ∷ living xs) (living xs) ++ living ys)
      [ true ↦ ap (λ zs. (x.id, x.number) ∷ zs) (living-append xs ys) | false ↦ living-append xs ys ]

  -- a lower start
  pub Rises-from : (low m : ℕ) (xs : List (Item T)) (n : ℕ) → m ≤ low → Rises low xs n → Rises m xs n
  Rises-from low m [] n h r = omega (arith, h, r)
  Rises-from low m (x ∷ xs) n h r = let a = r.0 in (omega (arith, h, a), r.1)

  pub Rises-within : (low : ℕ) (xs : List (Item T)) (n : ℕ) → Rises low xs n → low ≤ n
  Rises-within low [] n r = r
  Rises-within low (x ∷ xs) n r = let a = r.0 in let b = Rises-within (suc x.number) xs n r.1 in omega (arith, a, b)

  pub Rises-push : (low : ℕ) (xs : List (Item T)) (x : Item T) (n : ℕ) → x.number ≡ n → Rises low xs n → Rises low (xs ++ x ∷ []) (suc n)
  Rises-push low [] x n is r = (omega (arith, is, r), omega (arith, is))
  Rises-push low (y ∷ ys) x n is r = (r.0, Rises-push (suc y.number) ys x n is r.1)

  -- a number below all that follow is not among them
  pub without-below : (n low : ℕ) (xs : List (Item T)) (next : ℕ) → n < low → Rises low xs next → without_place n (living xs) ≡ living xs
  without-below n low [] next h r = refl
  without-below n low (x ∷ xs) next h r =
      let a = r.0 in
      let rest = without-below n (suc x.number) xs next (omega (arith, h, a)) r.1 in
      elim x.live as (λ b. without_place n (cond b ((x.id, x.number) ∷ living xs) (living xs)) ≡ cond b ((x.id, x.number) ∷ living xs) (living xs))
      [ true ↦ rw (ne_eqb x.number n (omega (arith, h, a))) (ap (λ zs. (x.id, x.number) ∷ zs) rest) | false ↦ rest ]

  pub number_rises : (low : ℕ) (xs : List (Item T)) (i next : ℕ) → Rises low xs next → i < length xs → low ≤ number_at xs i
  number_rises low [] i next r h = absurd (omega arith)
  number_rises low (x ∷ xs) zero next r h = r.0
  number_rises low (x ∷ xs) (suc i) next r h = let a = r.0 in let b = number_rises (suc x.number) xs i next r.1 (omega arith) in omega (arith, a, b)

  -- numbers rise from place to place
  pub number_order : (low : ℕ) (xs : List (Item T)) (i j next : ℕ) → Rises low xs next → i < j → j < length xs → number_at xs i < number_at xs j
  number_order low [] i j next r h k = absurd (omega arith)
  number_order low (x ∷ xs) i zero next r h k = absurd (omega arith)
  number_order low (x ∷ xs) zero (suc j) next r h k = number_rises (suc x.number) xs j next r.1 (omega arith)
  number_order low (x ∷ xs) (suc i) (suc j) next r h k = number_order (suc x.number) xs i j next r.1 (omega arith) (omega arith)

  -- a number that no place has
  pub without-absent : (n : ℕ) (xs : List (Item T)) → ((i : ℕ) → i < length xs → number_at xs i ≡ n → ⊥) → without_place n (living xs) ≡ living xs
  without-absent n [] absent = refl
  without-absent n (x ∷ xs) absent =
      let rest = without-absent n xs (λ i h. absent (suc i) (omega arith)) in
      elim x.live as (λ b. without_place n (cond b ((x.id, x.number) ∷ living xs) (living xs)) ≡ cond b ((x.id, x.number) ∷ living xs) (living xs))
      [ true ↦ rw (ne_eqb x.number n (absent 0 (omega arith))) (ap (λ zs. (x.id, x.number) ∷ zs) rest) | false ↦ rest ]

  -- one read at an index tells its number
  pub number_read : (xs : List (Item T)) (i : ℕ) (x : Item T) → slice_get xs i ≡ Some x → number_at xs i ≡ x.number
  number_read [] i x found = absurd (none-some x found)
  number_read (y ∷ ys) zero x found = ap (λ z. z.number) (same_Some y x found)
  number_read (y ∷ ys) (suc i) x found = number_read ys i x found

  -- a list that is no longer than n is its own last n
  pub keeps_all : (n : ℕ) (xs : List (Item T)) → length xs ≤ n → keep_last n xs ≡ xs
  keeps_all n xs h = let e : length xs - n ≡ 0 = omega (arith, h) in rw e refl

  -- one more, where there is room for it
  pub keeps_push : (n : ℕ) (xs : List (Item T)) (x : Item T) → length xs < n → keep_last n (xs ++ x ∷ []) ≡ xs ++ x ∷ []
  keeps_push n xs x h = let e = length-append xs (x ∷ []) in keeps_all n (xs ++ x ∷ []) (omega (arith, h, e))
