-- The ends of paths, by places and by states, and what is handed on to them.
use Rattle.std.proofs.Common.{◌≡◌, ◌==◌, ℕ, zero, suc, ◌+◌, ◌*◌, ◌<◌, ◌≤◌, Bool, true, false, cond, List, [], ◌∷◌, ◌++◌, length, get_or, sum_by, refl, sym, ap, ◌∙◌, subst, arith, append_assoc}
use Rattle.std.specs.List.{All, Contains, flat_map}
use Rattle.std.proofs.lemmas.Bool.Decides.{nat_tests}
use Rattle.std.proofs.lemmas.List.{append-nil}
use Rattle.std.proofs.lemmas.List.Elements.{All-nil, All-cons, All-head, All-tail, Contains-get_or, Contains-append_right}
use Rattle.std.proofs.lemmas.List.Sums.{sum_by-cons, sum_by-append}
use Rattle.tp_explore_walk.specs.Paths.{end_or, ended, add_all, row_of, handed_on}
use Rattle.tp_explore_walk.proofs.Handed.{weigh, occurs, weigh-add_all, length-add_all}

-- sums

sum_by-same : {A : Type 0} (f g : A → ℕ) (xs : List A) → ((x : A) → Contains xs x → f x ≡ g x) → sum_by f xs ≡ sum_by g xs
sum_by-same f g [] h = refl
sum_by-same f g (x ∷ xs) h =
    let a = h x (0, omega arith, refl) in
    let b = sum_by-same f g xs (λ y c. h y (Contains-append_right (x ∷ []) xs y c)) in
    let l = sum_by-cons f x xs in
    let r = sum_by-cons g x xs in
    cc

sum_by-flat_map : {A B : Type 0} (f : B → ℕ) (g : A → List B) (xs : List A) → sum_by f (flat_map g xs) ≡ sum_by (λ x. sum_by f (g x)) xs
sum_by-flat_map f g [] = refl
sum_by-flat_map f g (x ∷ xs) =
    sum_by-append f (g x) (flat_map g xs) ∙ ap (λ n. sum_by f (g x) + n) (sum_by-flat_map f g xs) ∙ sym (sum_by-cons (λ y. sum_by f (g y)) x xs)

-- one number where there is no move, another where there are some
abbrev pub by_row : {A : Type 0} → List A → ℕ → ℕ → ℕ
by_row [] a b = a
by_row (x ∷ xs) a b = b

over_end_or : {V : Type 0} (f : V → ℕ) (a : V) (ms ends : List V) → sum_by f (end_or a ms ends) ≡ by_row ms (f a) (sum_by f ends)
over_end_or f a [] ends = sum_by-cons f a [] ∙ omega arith
over_end_or f a (b ∷ bs) ends = refl

-- a graph whose rows lead down in rank

module _ (rows : List (List ℕ)) (r : ℕ → ℕ) (lowers : (k j : ℕ) → Contains (row_of rows k) j → r j < r k) where
  -- the sum over the ends of the paths from a place, of fewer than n moves
  abbrev pub over : (ℕ → ℕ) → ℕ → ℕ → ℕ
  over f n k = sum_by f (ended (row_of rows) n k)

  over-step : (f : ℕ → ℕ) (n k : ℕ) → over f (suc n) k ≡ by_row (row_of rows k) (f k) (sum_by (over f n) (row_of rows k))
  unfolding ended
  over-step f n k =
      over_end_or f k (row_of rows k) (flat_map (ended (row_of rows) n) (row_of rows k))
      ∙ ap (by_row (row_of rows k) (f k)) (sum_by-flat_map f (ended (row_of rows) n) (row_of rows k))

  -- above the rank of the place it is the same for each n
  pub over-same : (f : ℕ → ℕ) (n m k : ℕ) → r k < n → r k < m → over f n k ≡ over f m k
  over-same f zero m k lt lt' = absurd (omega arith)
  over-same f (suc n) zero k lt lt' = absurd (omega arith)
  over-same f (suc n) (suc m) k lt lt' =
      over-step f n k
      ∙ ap (by_row (row_of rows k) (f k)) (sum_by-same (over f n) (over f m) (row_of rows k) (λ j c. let d = lowers k j c in over-same f n m j (omega arith) (omega arith)))
      ∙ sym (over-step f m k)

  -- the sum over the ends of all paths from a place
  abbrev pub total : (ℕ → ℕ) → ℕ → ℕ
  total f k = over f (suc (r k)) k

  total-step : (f : ℕ → ℕ) (k : ℕ) → total f k ≡ by_row (row_of rows k) (f k) (sum_by (total f) (row_of rows k))
  total-step f k =
      over-step f (r k) k
      ∙ ap (by_row (row_of rows k) (f k)) (sum_by-same (over f (r k)) (total f) (row_of rows k) (λ j c. let d = lowers k j c in over-same f (r k) (suc (r j)) j d (omega arith)))

  -- what a place that has handed its number on is worth still
  abbrev pub at_end : (ℕ → ℕ) → ℕ → ℕ
  at_end f k = by_row (row_of rows k) (f k) 0

  -- the places that have handed on, and those that have not
  abbrev pub Handing : (ℕ → ℕ) → List ℕ → List ℕ → List ℕ → Type 0
  Handing f done rest ns = weigh (total f) ns rest + weigh (at_end f) ns done ≡ total f 0

  by_row-split : {A : Type 0} (g : A → ℕ) (row : List A) (a c : ℕ) → c * sum_by g row + c * by_row row a 0 ≡ c * by_row row a (sum_by g row)
  by_row-split g [] a c = omega arith
  by_row-split g (x ∷ xs) a c = omega arith

  apart : (ks : List ℕ) (j : ℕ) → All (λ i. r j < r i) ks → occurs j ks ≡ 0
  apart [] j h = refl
  apart (k ∷ ks) j h =
      let lt = All-head (λ i. r j < r i) k ks h in
      let other : (k == j) ≡ false = by_test (k == j) refl (λ e. let same : r k ≡ r j = ap r e in omega arith) in
      let s = sum_by-cons (λ k. cond (k == j) 1 0) k ks in
      rw (s, other) (let m = apart ks j (All-tail (λ i. r j < r i) k ks h) in omega arith)
    where
      by_test : (b : Bool) → (k == j) ≡ b → (k ≡ j → ⊥) → (k == j) ≡ false
      by_test true e never = absurd (never (grind (arith, nat_tests)))
      by_test false e never = e

  module _ (os : List ℕ)
      (within : (k j : ℕ) → Contains (row_of rows k) j → j < length rows)
      (once : (j : ℕ) → j < length rows → occurs j os ≡ 1)
      (falls : (done : List ℕ) (k : ℕ) (rest : List ℕ) → done ++ k ∷ rest ≡ os → All (λ i. r k ≤ r i) done) where
    step : (f : ℕ → ℕ) (done : List ℕ) (k : ℕ) (rest ns : List ℕ) → done ++ k ∷ rest ≡ os → length ns ≡ length rows → Handing f done (k ∷ rest) ns →
        Handing f (done ++ k ∷ []) rest (add_all ns (row_of rows k) (get_or ns k 0))
    step f done k rest ns is long h =
        let row = row_of rows k in
        let c = get_or ns k 0 in
        let ahead = falls done k rest is in
        let none : (j : ℕ) → Contains row j → occurs j (done ++ k ∷ []) ≡ 0 = λ j m.
        let d = lowers k j m in
        let all : All (λ i. r j < r i) done = (λ i e lt. let p = ahead i e lt in omega arith) in
        let last : All (λ i. r j < r i) (k ∷ []) = All-cons (λ i. r j < r i) k [] d (All-nil (λ i. r j < r i)) in
        sum_by-append (λ i. cond (i == j) 1 0) done (k ∷ []) ∙ (let p = apart done j all in let q = apart (k ∷ []) j last in omega arith) in
        let one : (j : ℕ) → Contains row j → occurs j rest ≡ 1 = λ j m.
        let o = once j (within k j m) in
        let z = none j m in
        let p = sum_by-append (λ i. cond (i == j) 1 0) (done ++ k ∷ []) rest in
        let q : (done ++ k ∷ []) ++ rest ≡ os = append_assoc done (k ∷ []) rest ∙ is in
        let s : occurs j os ≡ occurs j (done ++ k ∷ []) + occurs j rest = ap (occurs j) (sym q) ∙ p in
        omega arith in
        let in_range : All (λ j. j < length ns) row = λ i d lt. let p = within k _ (Contains-get_or row i d lt) in omega arith in
        let a = weigh-add_all (total f) rest 1 ns row c in_range (λ i d lt. one _ (Contains-get_or row i d lt)) in
        let b = weigh-add_all (at_end f) (done ++ k ∷ []) 0 ns row c in_range (λ i d lt. none _ (Contains-get_or row i d lt)) in
        let e = sum_by-append (λ i. get_or ns i 0 * at_end f i) done (k ∷ []) in
        let g = sum_by-cons (λ i. get_or ns i 0 * at_end f i) k [] in
        let m = sum_by-cons (λ i. get_or ns i 0 * total f i) k rest in
        let t : c * total f k ≡ c * by_row row (f k) (sum_by (total f) row) = ap (λ n. c * n) (total-step f k) in
        let split = by_row-split (total f) row (f k) c in
        omega arith

    pub all_handed : (f : ℕ → ℕ) (done rest ns : List ℕ) → done ++ rest ≡ os → length ns ≡ length rows → Handing f done rest ns → Handing f os [] (handed_on rows rest ns)
    all_handed f done [] ns is long h =
        let same : done ≡ os = sym (append-nil done) ∙ is in
        subst (λ ks. Handing f ks [] ns) same h
    all_handed f done (k ∷ rest) ns is long h =
        all_handed f (done ++ k ∷ []) rest (add_all ns (row_of rows k) (get_or ns k 0)) (append_assoc done (k ∷ []) rest ∙ is)
        (length-add_all ns (row_of rows k) (get_or ns k 0) ∙ long) (step f done k rest ns is long h)
