-- A line after an offer, and the order of those that wait.
use Rattle.std.proofs.Common.{◌≡◌, ℕ, suc, ◌+◌, ◌<◌, ◌≤◌, true, false, cond, List, [], ◌∷◌, ◌++◌, length, refl, arith, ap, ◌∙◌, add-one}
use Rattle.std.proofs.lemmas.List.{length-append}
use Rattle.tp_ring.specs.declared.items.Item.{Item}
use Rattle.tp_ring.specs.Line.{Ordered}
use Rattle.tp_ring.specs.Ring.{living, Rises, FrontLives, IsLine}
use Rattle.circular_buffer.specs.Buffer.{Buffer, buffer, keep_last}
use Rattle.tp_ring.proofs.Rising.{living-append, Rises-push, keeps_push}

module _ {T : Type 0} where
  front_push : (xs : List (Item T)) (x : Item T) → FrontLives xs → x.live ≡ true → FrontLives (xs ++ x ∷ [])
  front_push [] x f lives = lives
  front_push (y ∷ ys) x f lives = f

  -- the item of an accepted offer
  abbrev pub offered : T → ℕ → Item T
  offered id next = record { id = id; number = next; live = true }

  pub push_is : (old new : Buffer (Item T)) (id : T) (next : ℕ) → length old.items < old.capacity →
      new ≡ buffer (keep_last old.capacity (old.items ++ offered id next ∷ [])) old.capacity → new ≡ buffer (old.items ++ offered id next ∷ []) old.capacity
  push_is old new id next free is = is ∙ ap (λ xs. buffer xs old.capacity) (keeps_push old.capacity old.items (offered id next) free)

  pub living_push : (xs : List (Item T)) (id : T) (next : ℕ) → living (xs ++ offered id next ∷ []) ≡ living xs ++ (id, next) ∷ []
  living_push xs id next = living-append xs (offered id next ∷ [])

  pub line_push : (xs : List (Item T)) (capacity live next : ℕ) (id : T) → Rises 0 xs next → FrontLives xs → live ≡ length (living xs) → live < capacity →
      IsLine (xs ++ offered id next ∷ []) capacity (live + 1) (next + 1)
  line_push xs capacity live next id rises front counted room =
      let l = ap length (living_push xs id next) ∙ length-append (living xs) ((id, next) ∷ []) in
      rw (add-one next) (record { rises = Rises-push 0 xs (offered id next) next refl rises; counted = omega (arith, l, counted); within = omega (arith, room); front = front_push xs (offered id next) front refl })

  -- so those that wait are in order
  pub Ordered-living : (low : ℕ) (xs : List (Item T)) (next : ℕ) → Rises low xs next → Ordered low (living xs) next
  Ordered-living low [] next r = r
  Ordered-living low (x ∷ xs) next r =
      let rest = Ordered-living (suc x.number) xs next r.1 in
      let a = r.0 in
      elim x.live as (λ b. Ordered low (cond b ((x.id, x.number) ∷ living xs) (living xs)) next) [ true ↦ (a, rest) | false ↦ Ordered-from (suc x.number) low (living xs) next (omega (arith, a)) rest ]
    where
      Ordered-from : (low m : ℕ) (ys : List (T × ℕ)) (n : ℕ) → m ≤ low → Ordered low ys n → Ordered m ys n
      Ordered-from low m [] n h r = omega (arith, h, r)
      Ordered-from low m (y ∷ ys) n h r = let a = r.0 in (omega (arith, h, a), r.1)
