-- That what is handed on to the ends counts the paths to them.
use Rattle.std.proofs.Common.{◌≡◌, ◌≢◌, ◌==◌, ℕ, zero, suc, ◌+◌, ◌*◌, ◌-◌, ◌^◌, ◌<◌, ◌≤◌, ◌⊎◌, Option, None, Result, Ok, Err, IfOk, Bool, true, false, cond, List, [], ◌∷◌, ◌++◌, length, get_or, map, replicate, sum_by, Some, slice_get, refl, sym, ap, ◌∙◌, inl, inr, arith}
use Rattle.std.specs.Prelude.{IsPermutation, option_map, unwrap_or}
use Rattle.std.specs.List.{All, AllZip, Contains, flat_map}
use Rattle.std.specs.List.Sorted.{IsNonDecreasingBy}
use Rattle.std.proofs.lemmas.Bool.Decides.{nat_tests}
use Rattle.std.proofs.lemmas.List.{length-map, length-append, length-replicate, length-set, get_or-map, get_or_past}
use Rattle.std.proofs.Math.ListN.{get_or-append}
use Rattle.std.proofs.Math.Seq.{get_or-append_seam}
use Rattle.std.proofs.lemmas.List.Elements.{All-nil, All-cons, Contains-get_or, Contains-append_right}
use Rattle.std.proofs.lemmas.List.Sums.{sum_by-cons}
use Rattle.std.proofs.lemmas.List.Sorted.{All-permutation, IsPermutation-map, sum_by-IsPermutation}
use Rattle.std.proofs.lemmas.Option.{slice_get_within, slice_get_read, slice_get-map, get_or_from_slice_get}
use Rattle.std.proofs.lemmas.Slice.Zip.{AllZip-long}
use Rattle.std.proofs.lemmas.Bool.{cases_lt}
use Rattle.tp_explore_walk.specs.declared.counts.Count.{Count}
use Rattle.tp_explore_walk.specs.declared.counts.Count.TheVariants.{Exactly}
use Rattle.tp_explore_walk.specs.declared.counts.Spot.{Spot}
use Rattle.tp_explore_walk.specs.Moves.{IsAt, Places, IsWalk, empties}
use Rattle.tp_explore_walk.specs.Paths.{end_or, ended, Tells, weighed, CountsPaths, add_at, row_of, handed_on, AreSpots, AreSpotsFrom}
use Rattle.tp_explore_walk.proofs.Places.{contained, place_of, zip_at, zip_from, zip_append}
use Rattle.tp_explore_walk.proofs.Walked.{holds_reached, at_empties}
use Rattle.tp_explore_walk.proofs.Handed.{weigh, occurs, weigh-add_at}
use Rattle.tp_explore_walk.proofs.Paths.{total, over-same, at_end, Handing, all_handed, by_row}

-- the places of a list in turn
abbrev pub numbers : {A : Type 0} → ℕ → List A → List ℕ
numbers k [] = []
numbers k (x ∷ xs) = k ∷ numbers (suc k) xs

no_earlier : {A : Type 0} (k j : ℕ) (xs : List A) → j < k → occurs j (numbers k xs) ≡ 0
no_earlier k j [] lt = refl
no_earlier k j (x ∷ xs) lt =
    let s = sum_by-cons (λ i. cond (i == j) 1 0) k (numbers (suc k) xs) in
    let m = no_earlier (suc k) j xs (omega arith) in
    let other : (k == j) ≡ false = grind (arith, nat_tests) in
    rw (s, other) (omega arith)

pub each_once : {A : Type 0} (k j : ℕ) (xs : List A) → k ≤ j → j < k + length xs → occurs j (numbers k xs) ≡ 1
each_once k j [] le lt = absurd (omega arith)
each_once k j (x ∷ xs) le lt =
    let s = sum_by-cons (λ i. cond (i == j) 1 0) k (numbers (suc k) xs) in
    s ∙ by_test (k == j) refl (λ other. each_once (suc k) j xs (omega arith) (omega arith))
  where
    by_test : (b : Bool) → (k == j) ≡ b → (k ≢ j → occurs j (numbers (suc k) xs) ≡ 1) → cond (k == j) 1 0 + occurs j (numbers (suc k) xs) ≡ 1
    by_test true e later =
        let same : k ≡ j = grind (arith, nat_tests) in
        let m = no_earlier (suc k) j xs (omega arith) in
        rw e (omega arith)
    by_test false e later =
        let other : k ≢ j = λ s. grind (arith, nat_tests) in
        let m = later other in
        rw e (omega arith)

pub weigh_zeros : (w : ℕ → ℕ) (m : ℕ) (ks : List ℕ) → weigh w (replicate m 0) ks ≡ 0
weigh_zeros w m [] = refl
weigh_zeros w m (k ∷ ks) =
    let s = sum_by-cons (λ k. get_or (replicate m 0) k 0 * w k) k ks in
    let z = get_zero m k in
    rw (s, z) (let t = weigh_zeros w m ks in omega arith)
  where
    get_zero : (m k : ℕ) → get_or {A = ℕ} (replicate m 0) k 0 ≡ 0
    get_zero zero k = refl
    get_zero (suc m) zero = refl
    get_zero (suc m) (suc k) = get_zero m k

-- of all places only those of empty rows count
ends_only : (e h : ℕ → ℕ) (k : ℕ) (rs : List (List ℕ)) → ((i : ℕ) → i < length rs → e (k + i) ≡ by_row (row_of rs i) (h (k + i)) 0) →
    sum_by e (numbers k rs) ≡ sum_by h (empties k rs)
ends_only e h k [] same = refl
ends_only e h k ([] ∷ rs) same =
    let a = sum_by-cons e k (numbers (suc k) rs) in
    let b = sum_by-cons h k (empties (suc k) rs) in
    let z : k + 0 ≡ k = omega arith in
    let here : e k ≡ h k = rw z at (same 0 (omega arith)) in
    let later = ends_only e h (suc k) rs (λ i lt. let n : k + suc i ≡ suc k + i = omega arith in rw n at (same (suc i) (omega arith))) in
    a ∙ (let p = here in let q = later in omega arith) ∙ sym b
ends_only e h k ((j ∷ row) ∷ rs) same =
    let a = sum_by-cons e k (numbers (suc k) rs) in
    let z : k + 0 ≡ k = omega arith in
    let here : e k ≡ 0 = rw z at (same 0 (omega arith)) in
    let later = ends_only e h (suc k) rs (λ i lt. let n : k + suc i ≡ suc k + i = omega arith in rw n at (same (suc i) (omega arith))) in
    a ∙ (let p = here in let q = later in omega arith)

by_row-times : {A : Type 0} (row : List A) (a c : ℕ) → c * by_row row a 0 ≡ by_row row (c * a) 0
by_row-times [] a c = refl
by_row-times (x ∷ xs) a c = omega arith

-- the numbers of as many places
numbers_long : {A B : Type 0} (k : ℕ) (xs : List A) (ys : List B) → length xs ≡ length ys → numbers k xs ≡ numbers k ys
numbers_long k [] [] e = refl
numbers_long k [] (y ∷ ys) e = absurd (omega arith)
numbers_long k (x ∷ xs) [] e = absurd (omega arith)
numbers_long k (x ∷ xs) (y ∷ ys) e = ap (λ zs. k ∷ zs) (numbers_long (suc k) xs ys (omega arith))

-- the spots of a list's elements

spots_numbered : {A : Type 0} (rank : A → ℕ) (k : ℕ) (xs : List A) (ps : List Spot) → AreSpotsFrom rank k xs ps → map (λ p. p.place) ps ≡ numbers k xs
spots_numbered rank k [] [] h = refl
spots_numbered rank k [] (p ∷ ps) h = absurd h
spots_numbered rank k (x ∷ xs) [] h = absurd h
spots_numbered rank k (x ∷ xs) (p ∷ ps) h = let e = h.0 in let m = spots_numbered rank (suc k) xs ps h.2 in rw (e, m) refl

spots_pushed : {A : Type 0} (rank : A → ℕ) (k : ℕ) (xs : List A) (ps : List Spot) (x : A) (p : Spot) → AreSpotsFrom rank k xs ps →
    p.place ≡ k + length xs → p.depth + rank x ≡ 2 ^ 64 - 1 → AreSpotsFrom rank k (xs ++ x ∷ []) (ps ++ p ∷ [])
spots_pushed rank k [] [] x p h at deep = (omega (arith, at), deep, tt)
spots_pushed rank k [] (q ∷ ps) x p h at deep = absurd h
spots_pushed rank k (y ∷ xs) [] x p h at deep = absurd h
spots_pushed rank k (y ∷ xs) (q ∷ ps) x p h at deep = (h.0, h.1, spots_pushed rank (suc k) xs ps x p h.2 (omega (arith, at)) deep)

pub spots-more : {A : Type 0} (rank : A → ℕ) (xs : List A) (ps : List Spot) (x : A) (p : Spot) → AreSpots rank xs ps →
    p.place ≡ length xs → p.depth + rank x ≡ 2 ^ 64 - 1 → AreSpots rank (xs ++ x ∷ []) (ps ++ p ∷ [])
spots-more rank xs ps x p h at deep = spots_pushed rank 0 xs ps x p h (omega (arith, at)) deep

spots_ranked : {A : Type 0} (rank : A → ℕ) (d : ℕ) (k : ℕ) (xs : List A) (ps : List Spot) → AreSpotsFrom rank k xs ps →
    (r : ℕ → ℕ) → ((i : ℕ) (x : A) → IsAt xs i x → r (k + i) ≡ rank x) → All (λ p. (p.depth + r p.place ≡ 2 ^ 64 - 1) × (p.place < k + length xs)) ps
spots_ranked rank d k [] [] h r same = All-nil _
spots_ranked rank d k [] (p ∷ ps) h r same = absurd h
spots_ranked rank d k (x ∷ xs) [] h r same = absurd h
spots_ranked rank d k (x ∷ xs) (p ∷ ps) h r same =
    let z : k + 0 ≡ k = omega arith in
    let here : r k ≡ rank x = rw z at (same 0 x refl) in
    let rest = spots_ranked rank d (suc k) xs ps h.2 r (λ i y at. let n : k + suc i ≡ suc k + i = omega arith in rw n at (same (suc i) y at)) in
    let e = h.0 in
    All-cons (λ p. (p.depth + r p.place ≡ 2 ^ 64 - 1) × (p.place < k + length (x ∷ xs))) p ps
    ((rw (e, here) h.1), omega arith)
    (λ i d lt. let q = rest i d lt in (q.0, omega (arith, q.1)))

-- in the order of the spots no earlier place has a lower rank

falls_in_order : (r : ℕ → ℕ) (ps : List Spot) → All (λ p. p.depth + r p.place ≡ 2 ^ 64 - 1) ps → IsNonDecreasingBy (λ p. p.depth) ps →
    (done : List ℕ) (k : ℕ) (rest : List ℕ) → done ++ k ∷ rest ≡ map (λ p. p.place) ps → All (λ i. r k ≤ r i) done
falls_in_order r ps all rises done k rest is i d lt =
    let d0 : Spot = record { depth = 0; place = 0 } in
    let long : length (done ++ k ∷ rest) ≡ length ps = ap length is ∙ length-map ps (λ p. p.place) in
    let longer : length (done ++ k ∷ rest) ≡ length done + suc (length rest) = length-append done (k ∷ rest) in
    let at_i : get_or done i d ≡ (get_or ps i d0).place = sym (get_or-append done (k ∷ rest) d i lt) ∙ ap (λ ks. get_or ks i d) is ∙ get_or-map (λ p. p.place) ps i d0 d (omega arith) in
    let at_k : k ≡ (get_or ps (length done) d0).place = sym (get_or-append_seam done k rest d) ∙ ap (λ ks. get_or ks (length done) d) is ∙ get_or-map (λ p. p.place) ps (length done) d0 d (omega arith) in
    let le = rises i (length done) d0 (omega arith) (omega arith) in
    let di = all i d0 (omega arith) in
    let dk = all (length done) d0 (omega arith) in
    let ri : r (get_or done i d) ≡ r (get_or ps i d0).place = ap r at_i in
    let rk : r k ≡ r (get_or ps (length done) d0).place = ap r at_k in
    omega arith

-- paths of states, and of their places

module _ {V : Type 0} (next : V → List V) (xs : List V) (rows : List (List ℕ)) (moves : AllZip (λ row x. Places xs row (next x)) rows xs) where
  pub row_at : (k : ℕ) (x : V) → IsAt xs k x → Places xs (row_of rows k) (next x)
  row_at k x at =
      let p = zip_at (λ row z. Places xs row (next z)) rows xs moves k x at in
      let row : row_of rows k ≡ p.0 = get_or_from_slice_get rows k p.0 [] p.1 in
      rw row p.2

  flat_zip : {A B C D : Type 0} (R : A → B → Type 0) (Q : C → D → Type 0) (f : A → List C) (g : B → List D) →
      ((a : A) (b : B) → R a b → AllZip Q (f a) (g b)) → (us : List A) (vs : List B) → AllZip R us vs → AllZip Q (flat_map f us) (flat_map g vs)
  flat_zip R Q f g each [] [] h = tt
  flat_zip R Q f g each [] (b ∷ vs) h = absurd h
  flat_zip R Q f g each (a ∷ us) [] h = absurd h
  flat_zip R Q f g each (a ∷ us) (b ∷ vs) h = zip_append Q (f a) (g b) (flat_map f us) (flat_map g vs) (each a b h.0) (flat_zip R Q f g each us vs h.1)

  end_or_zip : (k : ℕ) (x : V) → IsAt xs k x → (row : List ℕ) (ms : List V) → Places xs row ms → (es : List ℕ) (zs : List V) → AllZip (IsAt xs) es zs →
      AllZip (IsAt xs) (end_or k row es) (end_or x ms zs)
  end_or_zip k x at [] [] p es zs h = (at, tt)
  end_or_zip k x at [] (m ∷ ms) p es zs h = absurd p
  end_or_zip k x at (j ∷ row) [] p es zs h = absurd p
  end_or_zip k x at (j ∷ row) (m ∷ ms) p es zs h = h

  -- the ends of the paths from a place are the places of the ends of those from its state
  pub ended_places : (n k : ℕ) (x : V) → IsAt xs k x → AllZip (IsAt xs) (ended (row_of rows) n k) (ended next n x)
  unfolding ended
  ended_places zero k x at = tt
  ended_places (suc n) k x at =
      let p = row_at k x at in
      end_or_zip k x at (row_of rows k) (next x) p _ _ (flat_zip (IsAt xs) (IsAt xs) (ended (row_of rows) n) (ended next n) (λ j y e. ended_places n j y e) (row_of rows k) (next x) p)

-- what a function of states says of their places
abbrev pub of_place : {V : Type 0} → (V → ℕ) → List V → ℕ → ℕ
of_place f xs k = unwrap_or (option_map f (slice_get xs k)) 0

sum_of_places : {V : Type 0} (f : V → ℕ) (xs : List V) (ks : List ℕ) (zs : List V) → AllZip (IsAt xs) ks zs → sum_by (of_place f xs) ks ≡ sum_by f zs
sum_of_places f xs [] [] h = refl
sum_of_places f xs [] (z ∷ zs) h = absurd h
sum_of_places f xs (k ∷ ks) [] h = absurd h
sum_of_places f xs (k ∷ ks) (z ∷ zs) h =
    let a = sum_by-cons (of_place f xs) k ks in
    let b = sum_by-cons f z zs in
    let here : of_place f xs k ≡ f z = rw h.0 refl in
    let m = sum_of_places f xs ks zs h.1 in
    rw (a, b, here, m) refl

weighed_places : {V : Type 0} (f : V → ℕ) (xs : List V) (ns ks : List ℕ) (zs : List V) → AllZip (IsAt xs) ks zs →
    sum_by (λ k. get_or ns k 0 * of_place f xs k) ks ≡ weighed f zs (map (λ k. get_or ns k 0) ks)
weighed_places f xs ns [] [] h = refl
weighed_places f xs ns [] (z ∷ zs) h = absurd h
weighed_places f xs ns (k ∷ ks) [] h = absurd h
weighed_places f xs ns (k ∷ ks) (z ∷ zs) h =
    let a = sum_by-cons (λ k. get_or ns k 0 * of_place f xs k) k ks in
    let here : of_place f xs k ≡ f z = rw h.0 refl in
    let m = weighed_places f xs ns ks zs h.1 in
    rw (a, here, m) refl

states_at : {V : Type 0} (xs : List V) (ks : List ℕ) → ((k : ℕ) → Contains ks k → (x : V) × IsAt xs k x) → (zs : List V) × AllZip (IsAt xs) ks zs
states_at xs [] h = ([], tt)
states_at xs (k ∷ ks) h =
    let p = h k (0, omega arith, refl) in
    let q = states_at xs ks (λ j c. h j (Contains-append_right (k ∷ []) ks j c)) in
    (p.0 ∷ q.0, (p.1, q.1))

get_or_any : {A : Type 0} (xs : List A) (k : ℕ) (d e : A) → k < length xs → get_or xs k d ≡ get_or xs k e
get_or_any [] k d e lt = absurd (omega arith)
get_or_any (x ∷ xs) zero d e lt = refl
get_or_any (x ∷ xs) (suc k) d e lt = get_or_any xs k d e (omega arith)

get_or_same : {A : Type 0} (xs : List A) (k : ℕ) (d : A) → k < length xs → get_or xs k d ≡ get_or xs k (get_or xs k d)
get_or_same xs k d lt = get_or_any xs k d (get_or xs k d) lt

pub told_zeros : (n : ℕ) → AllZip Tells (replicate n (Exactly 0)) (replicate n 0)
told_zeros zero = tt
told_zeros (suc n) = (refl, told_zeros n)

-- the whole

module _ {V A : Type 0} (next : V → List V) (holds : V → Type 0) (rank : V → ℕ)
    (stays : (x y : V) → holds x → Contains (next x) y → holds y) (lowers : (x y : V) → holds x → Contains (next x) y → rank y < rank x)
    (seen : A → V) (states : List A) (rows : List (List ℕ)) (ends : List ℕ) (first : V) (begins : holds first)
    (w : IsWalk next first (map seen states) rows ends) where
  abbrev xs : List V
  xs = map seen states

  pub many : length rows ≡ length states
  many = let p = AllZip-long (λ row x. Places xs row (next x)) rows xs w.moves in let q = length-map states seen in omega arith

  pub held : (k : ℕ) (x : V) → IsAt xs k x → holds x
  held k x at = holds_reached next holds stays first begins x ((w.exact x).0 (contained xs k x at))

  pub all_held : All (λ s. holds (seen s)) states
  all_held k d lt = held k (seen (get_or states k d)) (slice_get-map seen states k ∙ ap (option_map seen) (slice_get_read states (length states) k (get_or states k d) refl lt (get_or_same states k d lt)))

  -- the rank of the state at a place
  abbrev r : ℕ → ℕ
  r k = of_place rank xs k

  ranked : (k : ℕ) (x : V) → IsAt xs k x → r k ≡ rank x
  ranked k x at = rw at refl

  state_at : (k : ℕ) → k < length rows → (x : V) × IsAt xs k x
  state_at k lt = by_some (slice_get xs k) refl
    where
      by_some : (o : Option V) → slice_get xs k ≡ o → (x : V) × IsAt xs k x
      by_some (Some x) e = (x, e)
      by_some None e = let below : k < length xs = let q = length-map states seen in let m = many in omega arith in let p = slice_get_read xs (length xs) k (get_or xs k first) refl below (get_or_same xs k first below) in cc

  -- a row leads to places of the graph
  moves_to : (k j : ℕ) → Contains (row_of rows k) j → (x : V) × IsAt xs k x × ((y : V) × IsAt xs j y × Contains (next x) y)
  moves_to k j c = by_lt (cases_lt k (length rows))
    where
      by_lt : (k < length rows) ⊎ (length rows ≤ k) → (x : V) × IsAt xs k x × ((y : V) × IsAt xs j y × Contains (next x) y)
      by_lt (inl lt) =
          let p = state_at k lt in
          let row = row_at next xs rows w.moves k p.0 p.1 in
          let q = zip_from (IsAt xs) (row_of rows k) (next p.0) row c.0 j (place_of (row_of rows k) j c) in
          (p.0, p.1, (q.0, q.2, contained (next p.0) c.0 q.0 q.1))
      by_lt (inr le) = let none : row_of rows k ≡ [] = get_or_past rows k [] le in let below : c.0 < length (row_of rows k) = c.1 in let gone = rw none at below in absurd (omega (arith, gone))

  lower : (k j : ℕ) → Contains (row_of rows k) j → r j < r k
  lower k j c =
      let p = moves_to k j c in
      let a = ranked k p.0 p.1 in
      let b = ranked j p.2.0 p.2.1 in
      let lt = lowers p.0 p.2.0 (held k p.0 p.1) p.2.2 in
      omega arith

  pub within : (k j : ℕ) → Contains (row_of rows k) j → j < length rows
  within k j c =
      let p = moves_to k j c in
      let q = slice_get_within xs j p.2.0 p.2.1 in
      let l = length-map states seen in
      let m = many in
      omega arith

  pub all_within : All (λ row. All (λ j. j < length rows) row) rows
  all_within k d lt i e below = within k _ (let row : row_of rows k ≡ get_or rows k d = get_or_any rows k [] d lt in rw row (Contains-get_or (get_or rows k d) i e below))

  pub end_within : (k : ℕ) → Contains ends k → k < length rows
  end_within k c = let e = at_empties 0 rows k (rw w.bare at c) in let p = slice_get_within rows e.0 [] e.2 in omega (arith, e.1)

  module _ (spots order : List Spot) (are : AreSpots (λ s. rank (seen s)) states spots) (same : IsPermutation spots order) (rises : IsNonDecreasingBy (λ p. p.depth) order) where
    abbrev os : List ℕ
    os = map (λ p. p.place) order

    is_order : IsPermutation (numbers 0 rows) os
    is_order =
        let e : map (λ p. p.place) spots ≡ numbers 0 rows = spots_numbered (λ s. rank (seen s)) 0 states spots are ∙ numbers_long 0 states rows (sym many) in
        rw e at (IsPermutation-map (λ p. p.place) spots order same)

    all_ranked : All (λ p. (p.depth + r p.place ≡ 2 ^ 64 - 1) × (p.place < length states)) order
    all_ranked = All-permutation (λ p. (p.depth + r p.place ≡ 2 ^ 64 - 1) × (p.place < length states)) spots order same (λ i d lt.
        let q = spots_ranked (λ s. rank (seen s)) 0 0 states spots are r (λ j s at. let n : 0 + j ≡ j = omega arith in rw n (ranked j (seen s) (slice_get-map seen states j ∙ ap (option_map seen) at))) i d lt in
        (q.0, omega (arith, q.1)))

    pub in_graph : All (λ p. p.place < length rows) order
    in_graph i d lt = let p = all_ranked i d lt in let m = many in omega (arith, p.1)

    once : (j : ℕ) → j < length rows → occurs j os ≡ 1
    once j lt = sum_by-IsPermutation (λ i. cond (i == j) 1 0) (numbers 0 rows) os is_order ∙ each_once 0 j rows (omega arith) (omega arith)

    handed : (f : ℕ → ℕ) → Handing rows r lower f os [] (handed_on rows os (add_at (replicate (length states) 0) 0 1))
    handed f =
        let start = add_at (replicate (length states) 0) 0 1 in
        let m = many in
        let here = slice_get_within xs 0 first w.begins in
        let some : 0 < length rows = let l = length-map states seen in omega arith in
        let long0 : length (replicate {A = ℕ} (length states) 0) ≡ length states = length-replicate (length states) 0 in
        let long : length start ≡ length rows = length-set (replicate (length states) 0) 0 _ ∙ long0 ∙ sym m in
        let falls : (done : List ℕ) (k : ℕ) (rest : List ℕ) → done ++ k ∷ rest ≡ os → All (λ i. r k ≤ r i) done = falls_in_order r order (λ i d lt. (all_ranked i d lt).0) rises in
        let one = once 0 some in
        let z = weigh_zeros (total rows r lower f) (length states) os in
        let a = weigh-add_at (total rows r lower f) (replicate (length states) 0) 0 1 os (omega arith) in
        let begun : Handing rows r lower f [] os start = rw (a, one, z) (omega arith) in
        all_handed rows r lower os within once falls f [] os start refl long begun

    pub counts_paths : (ns : List ℕ) (kept : List Count) → ns ≡ handed_on rows os (add_at (replicate (length states) 0) 0 1)
        → AllZip Tells kept (map (λ k. get_or ns k 0) ends) → CountsPaths next first (rank first) xs ends kept
    counts_paths ns kept is told =
        let zs = states_at xs ends (λ k c. state_at k (end_within k c)) in
        record {
          states = zs.0;
          numbers = map (λ k. get_or ns k 0) ends;
          at_ends = zs.1;
          told = told;
          beside = length-map ends (λ k. get_or ns k 0) ∙ sym (AllZip-long (IsAt xs) ends zs.0 zs.1);
          all = λ f n above.
              let g = of_place f xs in
              let at0 = w.begins in
              let r0 : r 0 ≡ rank first = ranked 0 first at0 in
              let by_places = sum_of_places f xs _ _ (ended_places next xs rows w.moves n 0 first at0) in
              let enough = over-same rows r lower g n (suc (r 0)) 0 (omega arith) (omega arith) in
              let h : sum_by (λ k. get_or ns k 0 * at_end rows r lower g k) os ≡ total rows r lower g 0 = (rw is (let p = handed g in omega arith)) in
              let s = sum_by-IsPermutation (λ k. get_or ns k 0 * at_end rows r lower g k) (numbers 0 rows) os is_order in
              let only = ends_only (λ k. get_or ns k 0 * at_end rows r lower g k) (λ k. get_or ns k 0 * g k) 0 rows (λ i lt. let n0 : 0 + i ≡ i = omega arith in rw n0 (by_row-times (row_of rows i) (g i) (get_or ns i 0))) in
              let last = weighed_places f xs ns ends zs.0 zs.1 in
              sym by_places ∙ enough ∙ sym h ∙ s ∙ only ∙ ap (sum_by (λ k. get_or ns k 0 * g k)) (sym w.bare) ∙ last;
        }

pub IfOk-then : {T E : Type 0} (P Q : T → Type 0) (r : Result T E) → ((t : T) → P t → Q t) → IfOk r P → IfOk r Q
IfOk-then P Q (Ok t) f h = f t h
IfOk-then P Q (Err e) f h = tt
