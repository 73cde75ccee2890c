-- The steps of a walk, over plain lists.
use Rattle.std.proofs.Common.{◌≡◌, ◌≢◌, ℕ, zero, suc, ◌+◌, ◌<◌, ◌≤◌, ◌⊎◌, ◌↔◌, List, [], ◌∷◌, ◌++◌, length, get_or, take, map, refl, sym, ap, ◌∙◌, subst, inl, inr, arith, append_assoc, slice_get, Some, Bool, false, true, cond}
use Rattle.std.specs.List.{All, AllPairs, AllZip, Contains, list_any}
use Rattle.std.proofs.lemmas.Grind.{common_steps}
use Rattle.std.proofs.lemmas.Bool.{cases_lt}
use Rattle.std.proofs.lemmas.List.{length-append, length-map, map_push}
use Rattle.std.proofs.lemmas.List.Elements.{All-contains, Contains-get_or, Contains-append_left, Contains-append_right, Contains-append_cases}
use Rattle.std.proofs.lemmas.List.Quantifiers.{all_pairs_push}
use Rattle.std.proofs.lemmas.Map.Keys.{any_passes_from_place}
use Rattle.std.proofs.lemmas.Option.{slice_get-map, slice_get_within}
use Rattle.std.specs.Prelude.{option_map}
use Rattle.indexmap.specs.IndexSet.{insert_key}
use Rattle.tp_explore_walk.specs.Moves.{Reaches, here, moved, IsAt, AreLed, Places, IsWalk, Added, empties}
use Rattle.tp_explore_walk.proofs.Places.{contained, place_of, still_at, pushed_at, was_at, mapped_at, zip_weaker, zip_append, zip_at, places_stay, no_places}

-- some states more

pub added_none : {V : Type 0} (xs : List V) → Added xs xs [] []
added_none xs = record { grown = ([], grind (arith, common_steps)); from = λ y c. inl c; once = λ h. h; places = tt; fresh = λ j le lt. absurd (omega (arith, le, lt)) }

added_old : {V : Type 0} (xs : List V) (i : ℕ) (y : V) → IsAt xs i y → Added xs xs (y ∷ []) (i ∷ [])
added_old xs i y e = record { grown = ([], grind (arith, common_steps)); from = λ z c. inl c; once = λ h. h; places = (e, tt); fresh = λ j le lt. absurd (omega (arith, le, lt)) }

added_new : {V : Type 0} (xs : List V) (y : V) (n : ℕ) → n ≡ length xs → (Contains xs y → ⊥) → Added xs (xs ++ y ∷ []) (y ∷ []) (n ∷ [])
added_new xs y n many lacks = record {
  grown = (y ∷ [], refl);
  from = λ z c. Contains-append_cases xs (y ∷ []) z c;
  once = λ h. all_pairs_push (λ a b. a ≢ b) xs y h (λ k d lt e. lacks (subst (λ z. Contains xs z) e (Contains-get_or xs k d lt)));
  places = (rw many (pushed_at xs y), tt);
  fresh = λ j le lt.
      let long : length (xs ++ y ∷ []) ≡ length xs + 1 = length-append xs (y ∷ []) in
      let same : n ≡ j = omega (arith, many, le, lt, long) in (0, omega arith, same);
}

pub added_more : {V : Type 0} (xs xs' xs'' ms ns : List V) (row row' : List ℕ) → Added xs xs' ms row → Added xs' xs'' ns row' → Added xs xs'' (ms ++ ns) (row ++ row')
added_more {V} xs xs' xs'' ms ns row row' a b = record {
  grown = (a.grown.0 ++ b.grown.0, b.grown.1 ∙ ap (λ zs. zs ++ b.grown.0) a.grown.1 ∙ append_assoc xs a.grown.0 b.grown.0);
  from = λ y c. elim (b.from y c) as (λ _. Contains xs y ⊎ Contains (ms ++ ns) y) [
    | inl k ↦ elim (a.from y k) as (λ _. Contains xs y ⊎ Contains (ms ++ ns) y) [ inl j ↦ inl j | inr j ↦ inr (Contains-append_left ms ns y j) ]
    | inr k ↦ inr (Contains-append_right ms ns y k)
  ];
  once = λ h. b.once (a.once h);
  places = zip_append (IsAt xs'') row ms row' ns (subst (λ zs. Places zs row ms) (sym b.grown.1) (places_stay xs' b.grown.0 row ms a.places)) b.places;
  fresh = λ j le lt. elim (cases_lt j (length xs')) as (λ _. Contains (row ++ row') j) [
    | inl early ↦ Contains-append_left row row' j (a.fresh j le early)
    | inr late ↦ Contains-append_right row row' j (b.fresh j late lt)
  ];
}

-- one insert into a set of kept states, which are equal where they stand for the same
module _ {A V : Type 0} (f : A → V) (eq : A → A → Bool) (tells : (a b : A) → (eq a b ≡ true) ↔ (f a ≡ f b)) where
  lacks : (keys : List A) (a : A) → list_any (eq a) keys ≡ false → Contains (map f keys) (f a) → ⊥
  lacks keys a none c =
      let p = mapped_at f keys c.0 (f a) (place_of (map f keys) (f a) c) in
      let some = any_passes_from_place (eq a) keys c.0 p.0 p.1 ((tells a p.0).1 (sym p.2)) in
      cc

  by_test : (keys : List A) (a k : A) (i : ℕ) (b : Bool) → list_any (eq a) keys ≡ b → IsAt (cond b keys (keys ++ a ∷ [])) i k → eq a k ≡ true
      → Added (map f keys) (map f (cond b keys (keys ++ a ∷ []))) (f a ∷ []) (i ∷ [])
  by_test keys a k i true any e same =
      let at : IsAt (map f keys) i (f k) = slice_get-map f keys i ∙ ap (option_map f) e in
      added_old (map f keys) i (f a) (at ∙ ap Some (sym ((tells a k).0 same)))
  by_test keys a k i false none e same = elim (was_at keys a i k e) as (λ _. Added (map f keys) (map f (keys ++ a ∷ [])) (f a ∷ []) (i ∷ [])) [
    | inl h ↦ let some = any_passes_from_place (eq a) keys i k h same in cc
    | inr h ↦ rw map_push (added_new (map f keys) (f a) i (h.0 ∙ sym (length-map keys f)) (lacks keys a none))
  ]

  pub added_inserted : (keys after : List A) (a k : A) (i : ℕ) → after ≡ insert_key eq keys a → IsAt after i k → eq a k ≡ true → Added (map f keys) (map f after) (f a ∷ []) (i ∷ [])
  added_inserted keys after a k i made e same = rw made (by_test keys a k i (list_any (eq a) keys) refl (rw made at e) same)

pub key_at : {A V : Type 0} (f : A → V) (keys : List A) (i n : ℕ) (a : A) → n ≡ i → Some a ≡ slice_get keys i → IsAt (map f keys) n (f a)
key_at f keys i n a many e = rw many (slice_get-map f keys i ∙ ap (option_map f) (sym e))

-- a walk under way: the rows are those of the first states

pub record IsWalking {V : Type 0} (next : V → List V) (first : V) (xs : List V) (rows : List (List ℕ)) : Type 0 where
  pub begins : IsAt xs 0 first
  pub sound : All (Reaches next first) xs
  pub once : AllPairs (λ x y. x ≢ y) xs
  pub moves : AllZip (λ row x. Places xs row (next x)) rows (take (length rows) xs)
  pub led : AreLed (length xs) rows

pub walking_none : {V : Type 0} (next : V → List V) (first : V) → IsWalking next first (first ∷ []) []
walking_none next first = record {
  begins = refl;
  sound = λ k d lt. let z : k ≡ 0 = omega arith in rw z here;
  once = λ i j d lt in'. absurd (omega arith);
  moves = tt;
  led = λ j more lt. absurd (omega (arith, more, lt));
}

take_at : {V : Type 0} (xs ys : List V) (i : ℕ) (x : V) → IsAt xs i x → take (suc i) (xs ++ ys) ≡ take i xs ++ x ∷ []
take_at [] ys i x e = cc
take_at (a ∷ xs) ys zero x e = cc
take_at (a ∷ xs) ys (suc i) x e = ap (λ zs. a ∷ zs) (take_at xs ys i x e)

module _ {V : Type 0} (next : V → List V) (first : V) (xs xs' : List V) (rows : List (List ℕ)) (row : List ℕ) (x : V) where
  pub walking_more : IsWalking next first xs rows → IsAt xs (length rows) x → Added xs xs' (next x) row → IsWalking next first xs' (rows ++ row ∷ [])
  walking_more w e a =
      let grown : xs' ≡ xs ++ a.grown.0 = a.grown.1 in
      let reached : Reaches next first x = All-contains (Reaches next first) xs x w.sound (contained xs (length rows) x e) in
      let more : take (suc (length rows)) xs' ≡ take (length rows) xs ++ x ∷ [] = rw grown (take_at xs a.grown.0 (length rows) x e) in
      let many : length (rows ++ row ∷ []) ≡ suc (length rows) = grind (arith, common_steps) in
      let old : AllZip (λ r y. Places xs' r (next y)) rows (take (length rows) xs) =
      zip_weaker (λ r y. Places xs r (next y)) (λ r y. Places xs' r (next y))
      (λ r y h. subst (λ zs. Places zs r (next y)) (sym grown) (places_stay xs a.grown.0 r (next y) h)) rows (take (length rows) xs) w.moves in
      record {
        begins = rw grown (still_at xs a.grown.0 0 first w.begins);
        sound = λ k d lt. elim (a.from _ (Contains-get_or xs' k d lt)) as (λ _. Reaches next first (get_or xs' k d)) [
          | inl c ↦ All-contains (Reaches next first) xs _ w.sound c
          | inr c ↦ moved reached c
        ];
        once = a.once w.once;
        moves = rw (many, more) (zip_append (λ r y. Places xs' r (next y)) rows (take (length rows) xs) (row ∷ []) (x ∷ []) old (a.places, tt));
        led = λ j some lt. elim (cases_lt j (length xs)) as (λ _. (k : ℕ) × (r : List ℕ) × (k < j) × IsAt (rows ++ row ∷ []) k r × Contains r j) [
          | inl early ↦ let p = w.led j some early in (p.0, p.1, p.2, still_at rows (row ∷ []) p.0 p.1 p.3, p.4)
          | inr late ↦
              let before : length rows < length xs = slice_get_within xs (length rows) x e in
              (length rows, row, omega (arith, before, late), pushed_at rows row, a.fresh j late lt)
        ];
      }

-- the empty rows

empties_at : (k : ℕ) (rows : List (List ℕ)) (i : ℕ) → IsAt rows i [] → Contains (empties k rows) (k + i)
empties_at k [] i e = cc
empties_at k ([] ∷ rows) zero e = (0, omega arith, omega arith)
empties_at k ((j ∷ row) ∷ rows) zero e = cc
empties_at k ([] ∷ rows) (suc i) e =
    let c = empties_at (suc k) rows i e in
    let n : suc k + i ≡ k + suc i = omega arith in
    Contains-append_right (k ∷ []) (empties (suc k) rows) (k + suc i) (rw n at c)
empties_at k ((j ∷ row) ∷ rows) (suc i) e =
    let c = empties_at (suc k) rows i e in
    let n : suc k + i ≡ k + suc i = omega arith in
    rw n at c

pub at_empties : (k : ℕ) (rows : List (List ℕ)) (j : ℕ) → Contains (empties k rows) j → (i : ℕ) × (j ≡ k + i) × IsAt rows i []
at_empties k [] j c = absurd (omega (arith, c.1))
at_empties k ([] ∷ rows) j c = elim (Contains-append_cases (k ∷ []) (empties (suc k) rows) j c) as (λ _. (i : ℕ) × (j ≡ k + i) × IsAt ([] ∷ rows) i []) [
  | inl h ↦
      let z : h.0 ≡ 0 = omega (arith, h.1) in
      let e : k ≡ j = rw z at h.2 in
      (0, omega (arith, e), refl)
  | inr h ↦ let p = at_empties (suc k) rows j h in (suc p.0, omega (arith, p.1), p.2)
]
at_empties k ((i ∷ row) ∷ rows) j c = let p = at_empties (suc k) rows j c in (suc p.0, omega (arith, p.1), p.2)

pub empties_more : (k : ℕ) (rows : List (List ℕ)) (row : List ℕ) → empties k (rows ++ row ∷ []) ≡ empties k rows ++ empties (k + length rows) (row ∷ [])
empties_more k [] row = let n : k + 0 ≡ k = omega arith in rw n refl
empties_more k ([] ∷ rows) row = let n : k + suc (length rows) ≡ suc k + length rows = omega arith in rw n (ap (λ zs. k ∷ zs) (empties_more (suc k) rows row))
empties_more k ((j ∷ r) ∷ rows) row = let n : k + suc (length rows) ≡ suc k + length rows = omega arith in rw n (empties_more (suc k) rows row)

-- the end of a walk

module _ {V : Type 0} (next : V → List V) (first : V) (xs : List V) (rows : List (List ℕ)) where
  holds_all : AllZip (λ row x. Places xs row (next x)) rows xs → IsAt xs 0 first → (x : V) → Reaches next first x → Contains xs x
  holds_all m b x here = contained xs 0 first b
  holds_all m b x (moved {b = y} r c) =
      let k = holds_all m b y r in
      let p = zip_at (λ row z. Places xs row (next z)) rows xs m k.0 y (place_of xs y k) in
      let q = zip_at (IsAt xs) p.0 (next y) p.2 c.0 x (place_of (next y) x c) in
      contained xs q.0 x q.2

  pub walk_all : (ends : List ℕ) → IsWalking next first xs rows → length xs ≤ length rows → ends ≡ empties 0 rows → IsWalk next first xs rows ends
  walk_all ends w e empty =
      let all : take (length rows) xs ≡ xs = grind (arith, common_steps) in
      let m : AllZip (λ row x. Places xs row (next x)) rows xs = rw all at w.moves in
      record {
        begins = w.begins;
        exact = λ x. (λ c. All-contains (Reaches next first) xs x w.sound c, λ r. holds_all m w.begins x r);
        once = w.once;
        moves = m;
        led = w.led;
        bare = empty;
        ended = λ x. (
          λ (i, is, at).
              let j = at_empties 0 rows i (rw empty at is) in
              let same : i ≡ j.0 = omega (arith, j.1) in
              let p = zip_at (λ r z. Places xs r (next z)) rows xs m i x at in
              let bare : p.0 ≡ [] = cc (p.1, j.2, same) in
              (All-contains (Reaches next first) xs x w.sound (contained xs i x at), (no_places xs p.0 (next x) p.2).1 bare),
          λ (r, none).
              let k = holds_all m w.begins x r in
              let at = place_of xs x k in
              let p = zip_at (λ r z. Places xs r (next z)) rows xs m k.0 x at in
              let bare : p.0 ≡ [] = (no_places xs p.0 (next x) p.2).0 none in
              let n : 0 + k.0 ≡ k.0 = omega arith in
              (k.0, rw empty (rw n at (empties_at 0 rows k.0 (rw bare at p.1))), at),
        );
      }

-- what holds of the first state and stays holds of each that is reached
pub holds_reached : {V : Type 0} (next : V → List V) (holds : V → Type 0) → ((x y : V) → holds x → Contains (next x) y → holds y) →
    (first : V) → holds first → (x : V) → Reaches next first x → holds x
holds_reached next holds stays first h x here = h
holds_reached next holds stays first h x (moved {b = y} r c) = stays y x (holds_reached next holds stays first h y r) c

pub empties_row : (k : ℕ) (row : List ℕ) → row ≢ [] → empties k (row ∷ []) ≡ []
empties_row k [] some = absurd (some refl)
empties_row k (j ∷ row) some = refl
