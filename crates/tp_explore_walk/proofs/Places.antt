-- Places in lists, and lists side by side.
use Rattle.std.proofs.Common.{◌≡◌, ℕ, zero, suc, ◌⊎◌, ◌↔◌, List, [], ◌∷◌, ◌++◌, length, map, refl, sym, ap, subst, inl, inr}
use Rattle.std.specs.List.{AllZip, Contains}
use Rattle.std.proofs.lemmas.Option.{slice_get_within, get_or_from_slice_get, slice_get_read, same_Some}
use Rattle.tp_explore_walk.specs.Moves.{IsAt, Places}

pub contained : {V : Type 0} (xs : List V) (i : ℕ) (x : V) → IsAt xs i x → Contains xs x
contained xs i x e = (i, slice_get_within xs i x e, get_or_from_slice_get xs i x x e)

pub place_of : {V : Type 0} (xs : List V) (x : V) (c : Contains xs x) → IsAt xs c.0 x
place_of xs x c = slice_get_read xs (length xs) c.0 x refl c.1 (sym c.2)

pub still_at : {V : Type 0} (xs ys : List V) (i : ℕ) (x : V) → IsAt xs i x → IsAt (xs ++ ys) i x
still_at [] ys i x e = cc
still_at (a ∷ xs) ys zero x e = e
still_at (a ∷ xs) ys (suc i) x e = still_at xs ys i x e

pub pushed_at : {V : Type 0} (xs : List V) (x : V) → IsAt (xs ++ x ∷ []) (length xs) x
pushed_at [] x = refl
pushed_at (a ∷ xs) x = pushed_at xs x

pub was_at : {V : Type 0} (xs : List V) (x : V) (i : ℕ) (y : V) → IsAt (xs ++ x ∷ []) i y → IsAt xs i y ⊎ ((i ≡ length xs) × (x ≡ y))
was_at [] x zero y e = inr (refl, same_Some x y e)
was_at [] x (suc i) y e = cc
was_at (a ∷ xs) x zero y e = inl e
was_at (a ∷ xs) x (suc i) y e =
    elim (was_at xs x i y e) as (λ _. IsAt xs i y ⊎ ((suc i ≡ length (a ∷ xs)) × (x ≡ y))) [ inl h ↦ inl h | inr h ↦ inr (ap suc h.0, h.1) ]

pub mapped_at : {A V : Type 0} (f : A → V) (xs : List A) (i : ℕ) (x : V) → IsAt (map f xs) i x → (a : A) × IsAt xs i a × (f a ≡ x)
mapped_at f [] i x e = cc
mapped_at f (a ∷ xs) zero x e = (a, refl, same_Some _ _ e)
mapped_at f (a ∷ xs) (suc i) x e = mapped_at f xs i x e

-- lists side by side

pub zip_weaker : {A B : Type 0} (R Q : A → B → Type 0) → ((a : A) (b : B) → R a b → Q a b) → (xs : List A) (ys : List B) → AllZip R xs ys → AllZip Q xs ys
zip_weaker R Q f [] [] h = tt
zip_weaker R Q f [] (y ∷ ys) h = absurd h
zip_weaker R Q f (x ∷ xs) [] h = absurd h
zip_weaker R Q f (x ∷ xs) (y ∷ ys) h = (f x y h.0, zip_weaker R Q f xs ys h.1)

pub zip_append : {A B : Type 0} (R : A → B → Type 0) (xs : List A) (ys : List B) (us : List A) (vs : List B) → AllZip R xs ys → AllZip R us vs → AllZip R (xs ++ us) (ys ++ vs)
zip_append R [] [] us vs h k = k
zip_append R [] (y ∷ ys) us vs h k = absurd h
zip_append R (x ∷ xs) [] us vs h k = absurd h
zip_append R (x ∷ xs) (y ∷ ys) us vs h k = (h.0, zip_append R xs ys us vs h.1 k)

-- beside each element of the second list stands one of the first
pub zip_at : {A B : Type 0} (R : A → B → Type 0) (xs : List A) (ys : List B) → AllZip R xs ys → (k : ℕ) (y : B) → IsAt ys k y → (x : A) × IsAt xs k x × R x y
zip_at R [] [] h k y e = cc
zip_at R [] (b ∷ ys) h k y e = absurd h
zip_at R (a ∷ xs) [] h k y e = absurd h
zip_at R (a ∷ xs) (b ∷ ys) h zero y e = let same : b ≡ y = cc in (a, refl, subst (λ z. R a z) same h.0)
zip_at R (a ∷ xs) (b ∷ ys) h (suc k) y e = zip_at R xs ys h.1 k y e

-- and beside each of the first one of the second
pub zip_from : {A B : Type 0} (R : A → B → Type 0) (xs : List A) (ys : List B) → AllZip R xs ys → (k : ℕ) (x : A) → IsAt xs k x → (y : B) × IsAt ys k y × R x y
zip_from R [] [] h k x e = cc
zip_from R [] (b ∷ ys) h k x e = absurd h
zip_from R (a ∷ xs) [] h k x e = absurd h
zip_from R (a ∷ xs) (b ∷ ys) h zero x e = let same : a ≡ x = cc in (b, refl, subst (λ z. R z b) same h.0)
zip_from R (a ∷ xs) (b ∷ ys) h (suc k) x e = zip_from R xs ys h.1 k x e

-- rows

pub places_stay : {V : Type 0} (xs ys : List V) (row : List ℕ) (ms : List V) → Places xs row ms → Places (xs ++ ys) row ms
places_stay xs ys row ms h = zip_weaker (IsAt xs) (IsAt (xs ++ ys)) (λ i x e. still_at xs ys i x e) row ms h

-- a row is empty just where there is no move
pub no_places : {V : Type 0} (xs : List V) (row : List ℕ) (ms : List V) → Places xs row ms → (ms ≡ []) ↔ (row ≡ [])
no_places xs [] [] h = (λ _. refl, λ _. refl)
no_places xs [] (y ∷ ys) h = absurd h
no_places xs (i ∷ row) [] h = absurd h
no_places xs (i ∷ row) (y ∷ ys) h = (λ e. cc, λ e. cc)
