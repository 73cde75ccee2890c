-- An item that is marked dead, and dead items in front.
use Rattle.std.proofs.Common.{◌≡◌, ℕ, zero, suc, ◌+◌, ◌<◌, Bool, true, false, cond, List, [], ◌∷◌, length, refl, arith, sym, ap, ◌∙◌}
use Rattle.std.specs.Prelude.{drop, slice_get, Some, set}
use Rattle.std.proofs.lemmas.Bool.{ne_eqb, eq-eqb}
use Rattle.std.proofs.lemmas.Option.{same_Some, none-some}
use Rattle.tp_ring.specs.declared.items.Item.{Item}
use Rattle.tp_ring.specs.Line.{without_place}
use Rattle.tp_ring.specs.Ring.{living, Rises, number_at, FrontLives}
use Rattle.tp_ring.proofs.Rising.{Rises-from, without-below, number_rises}

module _ {T : Type 0} where
  -- the place i made dead
  abbrev pub killed : List (Item T) → ℕ → List (Item T)
  killed [] i = []
  killed (x ∷ xs) zero = record x { live = false } ∷ xs
  killed (x ∷ xs) (suc i) = x ∷ killed xs i

  pub living-killed : (low : ℕ) (xs : List (Item T)) (i next : ℕ) → Rises low xs next → i < length xs → living (killed xs i) ≡ without_place (number_at xs i) (living xs)
  living-killed low [] i next r h = absurd (omega arith)
  living-killed low (x ∷ xs) zero next r h =
      let rest = without-below x.number (suc x.number) xs next (omega arith) r.1 in
      elim x.live as (λ b. living xs ≡ without_place x.number (cond b ((x.id, x.number) ∷ living xs) (living xs)))
      [ true ↦ rw (eq-eqb x.number x.number refl) (sym rest) | false ↦ sym rest ]
  living-killed low (x ∷ xs) (suc i) next r h =
      let above = number_rises (suc x.number) xs i next r.1 (omega arith) in
      let rest = living-killed (suc x.number) xs i next r.1 (omega arith) in
      elim x.live as (λ b. cond b ((x.id, x.number) ∷ living (killed xs i)) (living (killed xs i)) ≡ without_place (number_at xs i) (cond b ((x.id, x.number) ∷ living xs) (living xs)))
      [ true ↦ rw (ne_eqb x.number (number_at xs i) (omega (arith, above))) (ap (λ zs. (x.id, x.number) ∷ zs) rest) | false ↦ rest ]

  pub Rises-killed : (low : ℕ) (xs : List (Item T)) (i next : ℕ) → Rises low xs next → Rises low (killed xs i) next
  Rises-killed low [] i next r = r
  Rises-killed low (x ∷ xs) zero next r = r
  Rises-killed low (x ∷ xs) (suc i) next r = (r.0, Rises-killed (suc x.number) xs i next r.1)

  -- a dead place is the place with its mark taken off
  pub killed_is : (xs : List (Item T)) (i : ℕ) (x : Item T) → slice_get xs i ≡ Some x → killed xs i ≡ set xs i (record x { live = false })
  killed_is [] i x found = refl
  killed_is (y ∷ ys) zero x found = ap {A = Item T} (λ z. record z { live = false } ∷ ys) (same_Some y x found)
  killed_is (y ∷ ys) (suc i) x found = ap (λ zs. y ∷ zs) (killed_is ys i x found)

  pub living_count : (xs : List (Item T)) (i : ℕ) (x : Item T) → slice_get xs i ≡ Some x → length (living xs) ≡ length (living (killed xs i)) + cond x.live 1 0
  living_count [] i x found = absurd (none-some x found)
  living_count (y ∷ ys) zero x found = rw (sym (same_Some y x found)) (count y.live (living ys) (y.id, y.number))
    where
      count : {A : Type 0} (b : Bool) (zs : List A) (z : A) → length (cond b (z ∷ zs) zs) ≡ length zs + cond b 1 0
      count true zs z = omega arith
      count false zs z = omega arith
  living_count (y ∷ ys) (suc i) x found =
      let e = living_count ys i x found in
      elim y.live as (λ b. length (cond b ((y.id, y.number) ∷ living ys) (living ys)) ≡ length (cond b ((y.id, y.number) ∷ living (killed ys i)) (living (killed ys i))) + cond x.live 1 0)
      [ true ↦ omega (arith, e) | false ↦ e ]

  -- a dead place in front is let go
  pub trims : (xs : List (Item T)) (x : Item T) → slice_get xs 0 ≡ Some x → x.live ≡ false → living (drop 1 xs) ≡ living xs
  trims [] x first dead = refl
  trims (y ∷ ys) x first dead = let e : y.live ≡ false = ap (λ z. z.live) (same_Some y x first) ∙ dead in rw e refl

  pub trims_rises : (xs : List (Item T)) (next : ℕ) → Rises 0 xs next → Rises 0 (drop 1 xs) next
  trims_rises [] next r = r
  trims_rises (y ∷ ys) next r = Rises-from (suc y.number) 0 ys next (omega arith) r.1

  -- the first that waits stands in front
  pub living_front : (xs : List (Item T)) (x : Item T) → FrontLives xs → slice_get xs 0 ≡ Some x → length (living xs) ≡ suc (length (living (drop 1 xs)))
  living_front [] x f first = absurd (none-some x first)
  living_front (y ∷ ys) x f first = rw f refl
