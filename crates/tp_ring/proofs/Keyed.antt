-- Lists whose items stand under a rising key.
use Rattle.std.proofs.Common.{◌≡◌, ℕ, zero, suc, ◌+◌, ◌-◌, ◌^◌, ◌<◌, ◌≤◌, ◌⊎◌, Bool, true, false, ◌&&◌, cond, List, [], ◌∷◌, ◌++◌, length, take, drop, refl, arith, ap, ◌∙◌, sym, inl, inr}
use mathlib.Core.Path.{ap₂}
use Rattle.std.specs.Prelude.{slice_get, slice_index_or, filter, nat_le, nat_lt, Some, option_map, ◌==◌}
use Rattle.std.specs.List.Sorted.{IsPartitionedBy}
use Rattle.std.proofs.lemmas.Bool.{cases_lt, le-leb, lt-leb, ne_eqb, eq-eqb, eqb-true, leb-true, and_parts, false≢true}
use Rattle.std.proofs.lemmas.Option.{same_Some, none-some}
use Rattle.std.proofs.lemmas.List.{take-append-drop}
use Rattle.tp_ring.specs.declared.items.Ranked.{Ranked}
use Rattle.tp_ring.specs.Line.{Ordered, without_place}
use Rattle.tp_ring.specs.Ranks.{key, enter, number_in, HasNoNumber, AreNumbered}
use Rattle.tp_ring.specs.Ranking.{keyed, NumbersWithin, HasNo, AreOnce, IsRanking}

-- equality of spots is that of their keys
pub same_key : (b : Bool) (r n s m : ℕ) → b ≡ (r == s && n == m) → b ≡ true → key r n ≡ key s m
same_key b r n s m is at =
    let both = and_parts (r == s) (n == m) (sym is ∙ at) in
    ap₂ key (eqb-true r s both.0) (eqb-true n m both.1)

pub other_key : (b : Bool) (r n s m : ℕ) → b ≡ (r == s && n == m) → b ≡ false → n < 2 ^ 64 → m < 2 ^ 64 → key r n ≡ key s m → ⊥
other_key b r n s m is at here there same =
    let q : r ≡ s = elim (cases_lt r s) [ inl less ↦ absurd (omega (arith, less, here, same)) | inr more ↦ elim (cases_lt s r) [ inl less ↦ absurd (omega (arith, less, there, same)) | inr less ↦ omega (arith, more, less) ] ] in
    let p : n ≡ m = omega (arith, q, same) in
    false≢true (sym at ∙ is ∙ rw (eq-eqb r s q, eq-eqb n m p) refl)

number-in_key : (r n : ℕ) → n < 2 ^ 64 → number_in (key r n) ≡ n
number-in_key r n h = omega arith

module _ {T : Type 0} where
  -- Any list of items under keys

  pub Ordered-lower : (m low : ℕ) (xs : List (T × ℕ)) (next : ℕ) → low ≤ m → Ordered m xs next → Ordered low xs next
  Ordered-lower m low [] next h o = omega (arith, h, o)
  Ordered-lower m low (x ∷ xs) next h o = let a = o.0 in (omega (arith, h, a), o.1)

  pub Ordered-within : (low : ℕ) (xs : List (T × ℕ)) (next : ℕ) → Ordered low xs next → low ≤ next
  Ordered-within low [] next o = o
  Ordered-within low (x ∷ xs) next o = let a = o.0 in let b = Ordered-within (suc x.1) xs next o.1 in omega (arith, a, b)

  pub Ordered-filter : (c : T × ℕ → Bool) (low : ℕ) (xs : List (T × ℕ)) (next : ℕ) → Ordered low xs next → Ordered low (filter c xs) next
  Ordered-filter c low [] next o = o
  Ordered-filter c low (x ∷ xs) next o = by (c x) (Ordered-filter c (suc x.1) xs next o.1)
    where
      by : (b : Bool) → Ordered (suc x.1) (filter c xs) next → Ordered low (cond b (x ∷ filter c xs) (filter c xs)) next
      by true rest = (o.0, rest)
      by false rest = let a = o.0 in Ordered-lower (suc x.1) low (filter c xs) next (omega (arith, a)) rest

  -- all keys are greater than k
  le_none : (k low : ℕ) (xs : List (T × ℕ)) (next : ℕ) → k < low → Ordered low xs next → filter (λ y. nat_le y.1 k) xs ≡ []
  le_none k low [] next h o = refl
  le_none k low (x ∷ xs) next h o = let a = o.0 in rw (lt-leb x.1 k (omega (arith, a, h))) (le_none k (suc x.1) xs next (omega (arith, a, h)) o.1)

  gt_all : (k low : ℕ) (xs : List (T × ℕ)) (next : ℕ) → k < low → Ordered low xs next → filter (λ y. nat_lt k y.1) xs ≡ xs
  gt_all k low [] next h o = refl
  gt_all k low (x ∷ xs) next h o = let a = o.0 in rw (le-leb (suc k) x.1 (omega (arith, a, h))) (ap (λ ys. x ∷ ys) (gt_all k (suc x.1) xs next (omega (arith, a, h)) o.1))

  pub without_all : (k low : ℕ) (xs : List (T × ℕ)) (next : ℕ) → k < low → Ordered low xs next → without_place k xs ≡ xs
  without_all k low [] next h o = refl
  without_all k low (x ∷ xs) next h o = let a = o.0 in rw (ne_eqb x.1 k (omega (arith, a, h))) (ap (λ ys. x ∷ ys) (without_all k (suc x.1) xs next (omega (arith, a, h)) o.1))

  -- what is put in goes before the first, where that is later
  pub enter_first : (k : ℕ) (t : T) (low : ℕ) (xs : List (T × ℕ)) (next : ℕ) → k < low → Ordered low xs next → enter k t xs ≡ (t, k) ∷ xs
  enter_first k t low xs next h o = rw (le_none k low xs next h o) (ap (λ ys. (t, k) ∷ ys) (gt_all k low xs next h o))

  -- and else behind it
  pub enter_next : (k : ℕ) (t : T) (x : T × ℕ) (xs : List (T × ℕ)) → x.1 ≤ k → enter k t (x ∷ xs) ≡ x ∷ enter k t xs
  enter_next k t x xs h = rw (le-leb x.1 k h, lt-leb (suc k) x.1 (omega (arith, h))) refl

  -- at the end, where all that wait are earlier
  pub enter_last : (k : ℕ) (t : T) (low : ℕ) (xs : List (T × ℕ)) → Ordered low xs k → enter k t xs ≡ xs ++ (t, k) ∷ []
  enter_last k t low [] o = refl
  enter_last k t low (x ∷ xs) o =
      let a = Ordered-within (suc x.1) xs k o.1 in
      enter_next k t x xs (omega (arith, a)) ∙ ap (λ ys. x ∷ ys) (enter_last k t (suc x.1) xs o.1)

  -- items whose keys are their numbers
  no_number_below : (m low : ℕ) (xs : List (T × ℕ)) (next : ℕ) → next ≤ 2 ^ 64 → m < low → Ordered low xs next → HasNoNumber m xs
  no_number_below m low [] next small h o = tt
  no_number_below m low (x ∷ xs) next small h o =
      let a = o.0 in
      let b = Ordered-within (suc x.1) xs next o.1 in
      ((λ e. absurd (omega (arith, a, b, h, e, small))), no_number_below m (suc x.1) xs next small (omega (arith, a, h)) o.1)

  pub counted : (low : ℕ) (xs : List (T × ℕ)) (next : ℕ) → next ≤ 2 ^ 64 → Ordered low xs next → AreNumbered next xs
  counted low [] next small o = tt
  counted low (x ∷ xs) next small o =
      let b = Ordered-within (suc x.1) xs next o.1 in
      let e : number_in x.1 ≡ x.1 = omega (arith, b, small) in
      (omega (arith, b, e), rw e (no_number_below x.1 (suc x.1) xs next small (omega arith) o.1), counted (suc x.1) xs next small o.1)

  pub ordered-few : (low : ℕ) (xs : List (T × ℕ)) (next : ℕ) → Ordered low xs next → length xs ≤ next
  ordered-few low xs next o = let h = by low xs o in omega (arith, h)
    where
      by : (low : ℕ) (ys : List (T × ℕ)) → Ordered low ys next → low + length ys ≤ next
      by low [] o = omega (arith, o)
      by low (y ∷ ys) o = let a = o.0 in let b = by (suc y.1) ys o.1 in omega (arith, a, b)

  -- Items of a ranking

  abbrev pub key_of : Ranked T → ℕ
  key_of x = key x.rank x.number

  key_low : (low : ℕ) (xs : List (Ranked T)) (next i : ℕ) (d : Ranked T) → Ordered low (keyed xs) next → i < length xs → low ≤ key_of (slice_index_or xs i d)
  key_low low [] next i d o h = absurd (omega arith)
  key_low low (x ∷ xs) next zero d o h = o.0
  key_low low (x ∷ xs) next (suc i) d o h = let a = o.0 in let b = key_low (suc (key_of x)) xs next i d o.1 (omega arith) in omega (arith, a, b)

  key_order : (low : ℕ) (xs : List (Ranked T)) (next i j : ℕ) (d : Ranked T) → Ordered low (keyed xs) next → i ≤ j → j < length xs → key_of (slice_index_or xs i d) ≤ key_of (slice_index_or xs j d)
  key_order low [] next i j d o h k = absurd (omega arith)
  key_order low (x ∷ xs) next zero zero d o h k = omega arith
  key_order low (x ∷ xs) next (suc i) zero d o h k = absurd (omega arith)
  key_order low (x ∷ xs) next zero (suc j) d o h k = let b = key_low (suc (key_of x)) xs next j d o.1 (omega arith) in omega (arith, b)
  key_order low (x ∷ xs) next (suc i) (suc j) d o h k = key_order (suc (key_of x)) xs next i j d o.1 (omega arith) (omega arith)

  number_low : (n : ℕ) (xs : List (Ranked T)) (i : ℕ) (d : Ranked T) → NumbersWithin n xs → i < length xs → (slice_index_or xs i d).number < n
  number_low n [] i d w h = absurd (omega arith)
  number_low n (x ∷ xs) zero d w h = w.0
  number_low n (x ∷ xs) (suc i) d w h = number_low n xs i d w.1 (omega arith)

  -- the tests of both searches pass from the front on
  pub ranks_part : (xs : List (Ranked T)) (next rank : ℕ) → Ordered 0 (keyed xs) next → NumbersWithin (2 ^ 64) xs → IsPartitionedBy (λ x. nat_le x.rank rank) xs
  ranks_part xs next rank o w = λ i j d h k is.
      let e = key_order 0 xs next i j d o h k in
      let n = number_low (2 ^ 64) xs j d w k in
      let r : (slice_index_or xs j d).rank ≤ rank = leb-true _ _ is in
      le-leb (slice_index_or xs i d).rank rank (omega (arith, e, n, r))

  pub keys_part : (xs : List (Ranked T)) (next k : ℕ) → Ordered 0 (keyed xs) next → IsPartitionedBy (λ x. nat_lt (key x.rank x.number) k) xs
  keys_part xs next k o = λ i j d h l is.
      let e = key_order 0 xs next i j d o h l in
      let r : suc (key_of (slice_index_or xs j d)) ≤ k = leb-true _ _ is in
      le-leb (suc (key_of (slice_index_or xs i d))) k (omega (arith, e, r))

  -- One more item

  keyed-append : (xs ys : List (Ranked T)) → keyed (xs ++ ys) ≡ keyed xs ++ keyed ys
  keyed-append [] ys = refl
  keyed-append (x ∷ xs) ys = ap (λ zs. (x.id, key_of x) ∷ zs) (keyed-append xs ys)

  pub keyed-length : (xs : List (Ranked T)) → length (keyed xs) ≡ length xs
  keyed-length [] = refl
  keyed-length (x ∷ xs) = ap suc (keyed-length xs)

  pub within_more : (m n : ℕ) (xs : List (Ranked T)) → m ≤ n → NumbersWithin m xs → NumbersWithin n xs
  within_more m n [] h w = tt
  within_more m n (x ∷ xs) h w = let a = w.0 in (omega (arith, a, h), within_more m n xs h w.1)

  within-put : (n : ℕ) (us vs : List (Ranked T)) (x : Ranked T) → x.number < n → NumbersWithin n (us ++ vs) → NumbersWithin n (us ++ x ∷ vs)
  within-put n [] vs x h w = (h, w)
  within-put n (u ∷ us) vs x h w = (w.0, within-put n us vs x h w.1)

  no-put : (m : ℕ) (us vs : List (Ranked T)) (x : Ranked T) → (x.number ≡ m → ⊥) → HasNo m (us ++ vs) → HasNo m (us ++ x ∷ vs)
  no-put m [] vs x h w = (h, w)
  no-put m (u ∷ us) vs x h w = (w.0, no-put m us vs x h w.1)

  once-put : (us vs : List (Ranked T)) (x : Ranked T) → HasNo x.number (us ++ vs) → AreOnce (us ++ vs) → AreOnce (us ++ x ∷ vs)
  once-put [] vs x h once = (h, once)
  once-put (u ∷ us) vs x h once = (no-put u.number us vs x (λ e. h.0 (sym e)) once.0, once-put us vs x h.1 once.1)

  no-within : (n : ℕ) (xs : List (Ranked T)) → NumbersWithin n xs → HasNo n xs
  no-within n [] w = tt
  no-within n (x ∷ xs) w = let a = w.0 in ((λ e. absurd (omega (arith, a, e))), no-within n xs w.1)

  -- the test of ranks is the test of keys, as the numbers are below the new one
  ranks_le : (n rank : ℕ) (xs : List (Ranked T)) → n < 2 ^ 64 → NumbersWithin n xs → keyed (filter (λ x. nat_le x.rank rank) xs) ≡ filter (λ y. nat_le y.1 (key rank n)) (keyed xs)
  ranks_le n rank [] small w = refl
  ranks_le n rank (x ∷ xs) small w = by (cases_lt rank x.rank) (ranks_le n rank xs small w.1)
    where
      by : (rank < x.rank) ⊎ (x.rank ≤ rank) → keyed (filter (λ x. nat_le x.rank rank) xs) ≡ filter (λ y. nat_le y.1 (key rank n)) (keyed xs) →
          keyed (filter (λ x. nat_le x.rank rank) (x ∷ xs)) ≡ filter (λ y. nat_le y.1 (key rank n)) (keyed (x ∷ xs))
      by (inl more) rest = rw (lt-leb x.rank rank more, lt-leb (key_of x) (key rank n) (omega (arith, more, small))) rest
      by (inr less) rest = let a = w.0 in rw (le-leb x.rank rank less, le-leb (key_of x) (key rank n) (omega (arith, less, a))) (ap (λ ys. (x.id, key_of x) ∷ ys) rest)

  ranks_lt : (n rank : ℕ) (xs : List (Ranked T)) → n < 2 ^ 64 → NumbersWithin n xs → keyed (filter (λ x. nat_lt rank x.rank) xs) ≡ filter (λ y. nat_lt (key rank n) y.1) (keyed xs)
  ranks_lt n rank [] small w = refl
  ranks_lt n rank (x ∷ xs) small w = by (cases_lt rank x.rank) (ranks_lt n rank xs small w.1)
    where
      by : (rank < x.rank) ⊎ (x.rank ≤ rank) → keyed (filter (λ x. nat_lt rank x.rank) xs) ≡ filter (λ y. nat_lt (key rank n) y.1) (keyed xs) →
          keyed (filter (λ x. nat_lt rank x.rank) (x ∷ xs)) ≡ filter (λ y. nat_lt (key rank n) y.1) (keyed (x ∷ xs))
      by (inl more) rest = rw (le-leb (suc rank) x.rank more, le-leb (suc (key rank n)) (key_of x) (omega (arith, more, small))) (ap (λ ys. (x.id, key_of x) ∷ ys) rest)
      by (inr less) rest = let a = w.0 in rw (lt-leb (suc rank) x.rank (omega (arith, less)), lt-leb (suc (key rank n)) (key_of x) (omega (arith, less, a))) rest

  -- an item put in at the cut
  pub entered : (xs : List (Ranked T)) (at n : ℕ) (x : Ranked T) → n < 2 ^ 64 → x.number ≡ n → NumbersWithin n xs →
      take at xs ≡ filter (λ y. nat_le y.rank x.rank) xs → drop at xs ≡ filter (λ y. nat_lt x.rank y.rank) xs →
      keyed (take at xs ++ x ∷ drop at xs) ≡ enter (key x.rank n) x.id (keyed xs)
  entered xs at n x small is w before behind =
      keyed-append (take at xs) (x ∷ drop at xs)
      ∙ ap₂ (λ us vs. us ++ (x.id, key_of x) ∷ vs) (ap keyed before ∙ ranks_le n x.rank xs small w) (ap keyed behind ∙ ranks_lt n x.rank xs small w)
      ∙ ap (λ m. filter (λ y. nat_le y.1 (key x.rank n)) (keyed xs) ++ (x.id, key x.rank m) ∷ filter (λ y. nat_lt (key x.rank n) y.1) (keyed xs)) is

  -- no item has this key
  abbrev pub NoKey : ℕ → List (T × ℕ) → Type 0
  NoKey k [] = Unit {0}
  NoKey k (x ∷ xs) = (x.1 ≡ k → ⊥) × NoKey k xs

  -- keys stay in order, where no item has the new key
  Ordered-enter : (k : ℕ) (t : T) (low : ℕ) (xs : List (T × ℕ)) (next : ℕ) → Ordered low xs next → low ≤ k → k < next → NoKey k xs → Ordered low (enter k t xs) next
  Ordered-enter k t low [] next o from to new = (from, to)
  Ordered-enter k t low (x ∷ xs) next o from to new = by (cases_lt k x.1) (λ h. Ordered-enter k t (suc x.1) xs next o.1 h to new.1)
    where
      by : (k < x.1) ⊎ (x.1 ≤ k) → (suc x.1 ≤ k → Ordered (suc x.1) (enter k t xs) next) → Ordered low (enter k t (x ∷ xs)) next
      by (inl less) rest = let a : Ordered x.1 (x ∷ xs) next = (omega arith, o.1) in rw (enter_first k t x.1 (x ∷ xs) next less a) (from, (less, o.1))
      by (inr more) rest =
          let ne = new.0 in
          rw (enter_next k t x xs more) (o.0, rest (elim (cases_lt x.1 k) [ inl less ↦ less | inr same ↦ absurd (ne (omega (arith, more, same))) ]))

  no_key : (n rank : ℕ) (xs : List (Ranked T)) → n < 2 ^ 64 → NumbersWithin n xs → NoKey (key rank n) (keyed xs)
  no_key n rank [] small w = tt
  no_key n rank (x ∷ xs) small w =
      let a = w.0 in (
        (λ e. elim (cases_lt rank x.rank) [
          | inl more ↦ absurd (omega (arith, more, small, a, e))
          | inr less ↦ elim (cases_lt x.rank rank) [ inl lower ↦ absurd (omega (arith, lower, small, a, e)) | inr same ↦ let r : x.rank ≡ rank = omega (arith, less, same) in absurd (omega (arith, r, a, e)) ]
        ]),
        no_key n rank xs small w.1,
      )

  length-cut : (at : ℕ) (xs : List (Ranked T)) (x : Ranked T) → length (take at xs ++ x ∷ drop at xs) ≡ suc (length xs)
  length-cut zero [] x = refl
  length-cut zero (y ∷ ys) x = refl
  length-cut (suc at) [] x = refl
  length-cut (suc at) (y ∷ ys) x = ap suc (length-cut at ys x)

  -- a ranking with one more
  pub more_ranked : (xs : List (Ranked T)) (places room room' n at : ℕ) (x : Ranked T) → IsRanking xs places room n → n < 2 ^ 64 - 1 → x.number ≡ n → x.rank < 2 ^ 32 → length xs < places → room ≤ room' →
      take at xs ≡ filter (λ y. nat_le y.rank x.rank) xs → drop at xs ≡ filter (λ y. nat_lt x.rank y.rank) xs →
      IsRanking (take at xs ++ x ∷ drop at xs) places room' (n + 1)
  more_ranked xs places room room' n at x is small number rank free wider before behind =
      let whole = take-append-drop at xs in
      let w : NumbersWithin n (take at xs ++ drop at xs) = rw whole is.numbers in
      let o : AreOnce (take at xs ++ drop at xs) = rw whole is.once in
      let len = length-cut at xs x in
      let few = is.few in
      let fits = is.fits in
      record {
        rises = rw (entered xs at n x (omega (arith, small)) number is.numbers before behind)
            (Ordered-enter (key x.rank n) x.id 0 (keyed xs) (2 ^ 96) is.rises (omega arith) (omega (arith, small, rank)) (no_key n x.rank xs (omega (arith, small)) is.numbers));
        numbers = within-put (n + 1) (take at xs) (drop at xs) x (omega (arith, number)) (within_more n (n + 1) (take at xs ++ drop at xs) (omega arith) w);
        once = once-put (take at xs) (drop at xs) x (rw number (no-within n (take at xs ++ drop at xs) w)) o;
        few = omega (arith, len, few);
        within = omega (arith, len, free);
        fits = omega (arith, fits, wider);
      }

  -- One item less

  no-filter : (m : ℕ) (us vs : List (Ranked T)) (x : Ranked T) → HasNo m (us ++ x ∷ vs) → HasNo m (us ++ vs)
  no-filter m [] vs x h = h.1
  no-filter m (u ∷ us) vs x h = (h.0, no-filter m us vs x h.1)

  once-less : (us vs : List (Ranked T)) (x : Ranked T) → AreOnce (us ++ x ∷ vs) → AreOnce (us ++ vs)
  once-less [] vs x h = h.1
  once-less (u ∷ us) vs x h = (no-filter u.number us vs x h.0, once-less us vs x h.1)

  within-less : (n : ℕ) (us vs : List (Ranked T)) (x : Ranked T) → NumbersWithin n (us ++ x ∷ vs) → NumbersWithin n (us ++ vs)
  within-less n [] vs x h = h.1
  within-less n (u ∷ us) vs x h = (h.0, within-less n us vs x h.1)

  ordered-less : (low : ℕ) (us vs : List (Ranked T)) (x : Ranked T) (next : ℕ) → Ordered low (keyed (us ++ x ∷ vs)) next → Ordered low (keyed (us ++ vs)) next
  ordered-less low [] vs x next o = let a = o.0 in Ordered-lower (suc (key_of x)) low (keyed vs) next (omega (arith, a)) o.1
  ordered-less low (u ∷ us) vs x next o = (o.0, ordered-less (suc (key_of u)) us vs x next o.1)

  length-less : (us vs : List (Ranked T)) (x : Ranked T) → length (us ++ x ∷ vs) ≡ suc (length (us ++ vs))
  length-less [] vs x = refl
  length-less (u ∷ us) vs x = ap suc (length-less us vs x)

  pub less_ranked : (us vs : List (Ranked T)) (x : Ranked T) (places room room' n : ℕ) → IsRanking (us ++ x ∷ vs) places room n → room ≤ room' → IsRanking (us ++ vs) places room' n
  less_ranked us vs x places room room' n is wider =
      let len = length-less us vs x in
      let few = is.few in
      let within = is.within in
      let fits = is.fits in
      record {
        rises = ordered-less 0 us vs x (2 ^ 96) is.rises;
        numbers = within-less n us vs x is.numbers;
        once = once-less us vs x is.once;
        few = omega (arith, len, few);
        within = omega (arith, len, within);
        fits = omega (arith, fits, wider);
      }

  -- the item at an index, and what stands round it
  pub around : (i : ℕ) (xs : List (Ranked T)) (x : Ranked T) → slice_get xs i ≡ Some x → xs ≡ take i xs ++ x ∷ drop (suc i) xs
  around i [] x found = absurd (none-some x found)
  around zero (y ∷ ys) x found = ap (λ z. z ∷ ys) (same_Some y x found)
  around (suc i) (y ∷ ys) x found = ap (λ zs. y ∷ zs) (around i ys x found)

  -- it is the one item with its key
  pub removed : (i low : ℕ) (xs : List (Ranked T)) (x : Ranked T) (next : ℕ) → Ordered low (keyed xs) next → slice_get xs i ≡ Some x → keyed (take i xs ++ drop (suc i) xs) ≡ without_place (key_of x) (keyed xs)
  removed i low [] x next o found = absurd (none-some x found)
  removed zero low (y ∷ ys) x next o found =
      let same = same_Some y x found in
      rw (eq-eqb (key_of y) (key_of x) (ap key_of same)) (sym (without_all (key_of x) (suc (key_of y)) (keyed ys) next (let e = ap key_of same in omega (arith, e)) o.1))
  removed (suc i) low (y ∷ ys) x next o found =
      let later = found_low i (suc (key_of y)) ys x next o.1 found in
      rw (ne_eqb (key_of y) (key_of x) (omega (arith, later))) (ap (λ zs. (y.id, key_of y) ∷ zs) (removed i (suc (key_of y)) ys x next o.1 found))
    where
      found_low : (i low : ℕ) (xs : List (Ranked T)) (x : Ranked T) (next : ℕ) → Ordered low (keyed xs) next → slice_get xs i ≡ Some x → low ≤ key_of x
      found_low i low [] x next o found = absurd (none-some x found)
      found_low zero low (y ∷ ys) x next o found = let a = o.0 in let e = ap key_of (same_Some y x found) in omega (arith, a, e)
      found_low (suc i) low (y ∷ ys) x next o found = let a = o.0 in let b = found_low i (suc (key_of y)) ys x next o.1 found in omega (arith, a, b)

  -- where the first from a key on has another key, no item has it
  pub absent : (k low : ℕ) (xs : List (Ranked T)) (next : ℕ) → Ordered low (keyed xs) next → ((x : Ranked T) → slice_get (filter (λ y. nat_le k (key y.rank y.number)) xs) 0 ≡ Some x → key_of x ≡ k → ⊥) → keyed xs ≡ without_place k (keyed xs)
  absent k low [] next o first = refl
  absent k low (x ∷ xs) next o first = by (cases_lt (key_of x) k) (λ less. absent k (suc (key_of x)) xs next o.1 (λ z found. first z (rw (lt-leb k (key_of x) less) found)))
    where
      by : (key_of x < k) ⊎ (k ≤ key_of x) → (key_of x < k → keyed xs ≡ without_place k (keyed xs)) → keyed (x ∷ xs) ≡ without_place k (keyed (x ∷ xs))
      by (inl less) rest =
          rw (ne_eqb (key_of x) k (omega (arith, less))) (ap (λ ys. (x.id, key_of x) ∷ ys) (rest less))
      by (inr more) rest =
          let ne : key_of x ≡ k → ⊥ = first x (rw (le-leb k (key_of x) more) refl) in
          rw (ne_eqb (key_of x) k ne) (ap (λ ys. (x.id, key_of x) ∷ ys) (sym (without_all k (suc (key_of x)) (keyed xs) next (omega (arith, more)) o.1)))

  pub number_found : (n : ℕ) (xs : List (Ranked T)) (i : ℕ) (x : Ranked T) → NumbersWithin n xs → slice_get xs i ≡ Some x → x.number < n
  number_found n [] i x w found = absurd (none-some x found)
  number_found n (y ∷ ys) zero x w found = let e = ap (λ z. z.number) (same_Some y x found) in let a = w.0 in omega (arith, a, e)
  number_found n (y ∷ ys) (suc i) x w found = number_found n ys i x w.1 found

  -- the first of the keyed items
  pub keyed-first : (xs : List (Ranked T)) → slice_get (keyed xs) 0 ≡ option_map (λ x. (x.id, key x.rank x.number)) (slice_get xs 0)
  keyed-first [] = refl
  keyed-first (x ∷ xs) = refl

  pub keyed-drop : (n : ℕ) (xs : List (Ranked T)) → keyed (drop n xs) ≡ drop n (keyed xs)
  keyed-drop zero xs = refl
  keyed-drop (suc n) [] = refl
  keyed-drop (suc n) (x ∷ xs) = keyed-drop n xs

  -- what a contract sees of the numbers

  no_number : (m n : ℕ) (xs : List (Ranked T)) → n ≤ 2 ^ 64 → NumbersWithin n xs → HasNo m xs → HasNoNumber m (keyed xs)
  no_number m n [] small w h = tt
  no_number m n (x ∷ xs) small w h = let a = w.0 in ((λ e. h.0 (sym (number-in_key x.rank x.number (omega (arith, a, small))) ∙ e)), no_number m n xs small w.1 h.1)

  pub numbered : (n : ℕ) (xs : List (Ranked T)) → n ≤ 2 ^ 64 → NumbersWithin n xs → AreOnce xs → AreNumbered n (keyed xs)
  numbered n [] small w once = tt
  numbered n (x ∷ xs) small w once =
      let a = w.0 in
      let e = number-in_key x.rank x.number (omega (arith, a, small)) in
      (rw e w.0, rw e (no_number x.number n xs small w.1 once.0), numbered n xs small w.1 once.1)
