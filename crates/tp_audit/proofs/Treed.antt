-- A queue by ranks, as the entries of a tree.
use Rattle.std.proofs.Common.{◌≡◌, ℕ, suc, ◌+◌, ◌-◌, ◌<◌, ◌≤◌, ◌⊎◌, ◌^◌, Bool, true, false, not, ◌&&◌, cond, List, [], ◌∷◌, ◌++◌, length, Some, None, refl, arith, sym, ap, subst, ◌∙◌, inl, inr}
use Rattle.std.specs.Prelude.{Contains, nat_eq, ◌==◌, ◌%◌, nat_le, nat_lt, filter, slice_get, option_map}
use Rattle.std.specs.Ordering.{nat_cmp, match_ordering, is_eq, is_lt}
use Rattle.std.specs.declared.cmp.Ordering.TheVariants.{Less, Equal, Greater}
use Rattle.std.specs.declared.ops.Bound.TheVariants.{Excluded, Unbounded}
use Rattle.std.specs.BTreeMap.{insert_entry, is_at}
use Rattle.std.specs.BTreeMap.Range.{entries_between}
use Rattle.std.specs.Map.{remove_entry, lookup}
use Rattle.std.proofs.lemmas.Bool.{cases_lt, cases_eq, le-leb, lt-leb, eq-eqb, ne_eqb}
use Rattle.indexmap.specs.IndexMap.{IndexMap, get, Updates}
use Rattle.tp_record.specs.Lists.{without, put_behind}
use Rattle.tp_ring.specs.Line.{ids, Ordered, without_place, from_place}
use Rattle.tp_ring.specs.Ranks.{key, enter}
use Rattle.tp_ring.proofs.Keyed.{Ordered-filter, without_all, enter_first, enter_next}
use Rattle.tp_audit.specs.Orders.{next_of, HasPlace, ArePlaced}
use Rattle.tp_audit.specs.Queued.{HaveRanks}
use Rattle.tp_audit.specs.Ranked.{keyed, AreBefore, AreKept}
use Rattle.tp_audit.proofs.Placing.{placed-in, placed-less, ids-less, next_found}
use Rattle.tp_audit.proofs.Ranking.{entered, number_below, place_entered, place_before, place_after, ranks-filter}

-- the order of numbers, by its cases
less_cmp : (k n : ℕ) → k < n → nat_cmp k n ≡ Less
less_cmp k n h = ap (λ b. cond b Less (cond (k == n) Equal Greater)) (le-leb (suc k) n h)

same_cmp : (k n : ℕ) → k ≡ n → nat_cmp k n ≡ Equal
same_cmp k n h = ap (λ b. cond b Less (cond (k == n) Equal Greater)) (lt-leb (suc k) n (omega (arith, h))) ∙ ap (λ b. cond b Equal Greater) (eq-eqb k n h)

more_cmp : (k n : ℕ) → n < k → nat_cmp k n ≡ Greater
more_cmp k n h =
    ap (λ b. cond b Less (cond (k == n) Equal Greater)) (lt-leb (suc k) n (omega (arith, h)))
    ∙ ap (λ b. cond b Equal Greater) (ne_eqb k n (λ e. absurd (omega (arith, h, e))))

-- less, the same or more
cases_cmp : (k n : ℕ) → (k < n) ⊎ ((k ≡ n) ⊎ (n < k))
cases_cmp k n = elim (cases_lt k n) [
  | inl less ↦ inl less
  | inr from ↦ elim (cases_lt n k) [ inl more ↦ inr (inr more) | inr upto ↦ inr (inl (omega (arith, from, upto))) ]
]

at_is : (k n : ℕ) → is_at (nat_cmp k) n ≡ (n == k)
at_is k n = by (cases_cmp k n)
  where
    by : (k < n) ⊎ ((k ≡ n) ⊎ (n < k)) → is_at (nat_cmp k) n ≡ (n == k)
    by (inl less) = ap is_eq (less_cmp k n less) ∙ sym (ne_eqb n k (λ e. absurd (omega (arith, less, e))))
    by (inr (inl same)) = ap is_eq (same_cmp k n same) ∙ sym (eq-eqb n k (sym same))
    by (inr (inr more)) = ap is_eq (more_cmp k n more) ∙ sym (ne_eqb n k (λ e. absurd (omega (arith, more, e))))

lt_is : (a b : Bool) → (is_lt (cond a Less (cond b Equal Greater)) && true) ≡ a
lt_is true b = refl
lt_is false true = refl
lt_is false false = refl

-- The entries under their keys

pub length-keyed : (es : List (ℕ × ℕ)) → length es ≡ length (ids (keyed es))
length-keyed [] = refl
length-keyed (e ∷ es) = ap suc (length-keyed es)

pub first-keyed : (es : List (ℕ × ℕ)) → option_map (λ e. e.1) (slice_get es 0) ≡ slice_get (ids (keyed es)) 0
first-keyed [] = refl
first-keyed (e ∷ es) = refl

placed_first : (es : List (ℕ × ℕ)) → option_map (λ e. e.1) (slice_get es 0) ≡ option_map (λ p. p.0) (slice_get (keyed es) 0)
placed_first [] = refl
placed_first (e ∷ es) = refl

-- one more is put in behind all whose key is not greater
keyed-insert : (k t low : ℕ) (es : List (ℕ × ℕ)) (next : ℕ) → Ordered low (keyed es) next → ((w : ℕ) → HasPlace (keyed es) w k → ⊥) → keyed (insert_entry nat_cmp es k t) ≡ enter k t (keyed es)
keyed-insert k t low [] next o absent = refl
keyed-insert k t low (e ∷ es) next o absent = by (cases_cmp k e.0) (keyed-insert k t (suc e.0) es next o.1 (λ w there. absent w (inr there)))
  where
    by : (k < e.0) ⊎ ((k ≡ e.0) ⊎ (e.0 < k)) → keyed (insert_entry nat_cmp es k t) ≡ enter k t (keyed es) → keyed (insert_entry nat_cmp (e ∷ es) k t) ≡ enter k t (keyed (e ∷ es))
    by (inl less) rest =
        ap (λ c. keyed (match_ordering c ((k, t) ∷ e ∷ es) ((e.0, t) ∷ es) (e ∷ insert_entry nat_cmp es k t))) (less_cmp k e.0 less)
        ∙ sym (enter_first k t e.0 ((e.1, e.0) ∷ keyed es) next less (omega arith, o.1))
    by (inr (inl same)) rest = absurd (absent e.1 (inl (refl, sym same)))
    by (inr (inr more)) rest =
        ap (λ c. keyed (match_ordering c ((k, t) ∷ e ∷ es) ((e.0, t) ∷ es) (e ∷ insert_entry nat_cmp es k t))) (more_cmp k e.0 more)
        ∙ ap (λ xs. (e.1, e.0) ∷ xs) rest
        ∙ sym (enter_next k t (e.1, e.0) (keyed es) (omega (arith, more)))

-- one is taken out
keyed-remove : (k low : ℕ) (es : List (ℕ × ℕ)) (next : ℕ) → Ordered low (keyed es) next → keyed (remove_entry (is_at (nat_cmp k)) es) ≡ without_place k (keyed es)
keyed-remove k low [] next o = refl
keyed-remove k low (e ∷ es) next o = by (cases_eq e.0 k) (keyed-remove k (suc e.0) es next o.1)
  where
    by : (e.0 ≡ k) ⊎ (e.0 ≡ k → ⊥) → keyed (remove_entry (is_at (nat_cmp k)) es) ≡ without_place k (keyed es) → keyed (remove_entry (is_at (nat_cmp k)) (e ∷ es)) ≡ without_place k (keyed (e ∷ es))
    by (inl same) rest =
        ap (λ b. keyed (cond b es (e ∷ remove_entry (is_at (nat_cmp k)) es))) (at_is k e.0 ∙ eq-eqb e.0 k same)
        ∙ sym (without_all k (suc e.0) (keyed es) next (omega (arith, same)) o.1)
        ∙ ap (λ b. cond (not b) ((e.1, e.0) ∷ without_place k (keyed es)) (without_place k (keyed es))) (sym (eq-eqb e.0 k same))
    by (inr apart) rest =
        ap (λ b. keyed (cond b es (e ∷ remove_entry (is_at (nat_cmp k)) es))) (at_is k e.0 ∙ ne_eqb e.0 k apart)
        ∙ ap (λ xs. (e.1, e.0) ∷ xs) rest
        ∙ ap (λ b. cond (not b) ((e.1, e.0) ∷ without_place k (keyed es)) (without_place k (keyed es))) (sym (ne_eqb e.0 k apart))

-- those behind a key
keyed-behind : (k : ℕ) (es : List (ℕ × ℕ)) → keyed (entries_between nat_cmp (Excluded k) Unbounded es) ≡ from_place (suc k) (keyed es)
keyed-behind k [] = refl
keyed-behind k (e ∷ es) =
    let rest = entries_between nat_cmp (Excluded k) Unbounded es in
    ap (λ b. keyed (cond b (e ∷ rest) rest)) (lt_is (nat_lt k e.0) (k == e.0)) ∙ by (nat_lt k e.0) (keyed-behind k es)
  where
    by : (b : Bool) → keyed (entries_between nat_cmp (Excluded k) Unbounded es) ≡ from_place (suc k) (keyed es) →
        keyed (cond b (e ∷ entries_between nat_cmp (Excluded k) Unbounded es) (entries_between nat_cmp (Excluded k) Unbounded es))
        ≡ cond b ((e.1, e.0) ∷ from_place (suc k) (keyed es)) (from_place (suc k) (keyed es))
    by true rest = ap (λ xs. (e.1, e.0) ∷ xs) rest
    by false rest = rest

-- Keys rise, with one more

Ordered-enter : (k t low : ℕ) (xs : List (ℕ × ℕ)) (next : ℕ) → low ≤ k → k < next → Ordered low xs next → ((w : ℕ) → HasPlace xs w k → ⊥) → Ordered low (enter k t xs) next
Ordered-enter k t low [] next from below o absent = (from, omega (arith, below))
Ordered-enter k t low (x ∷ xs) next from below o absent =
    by (cases_cmp k x.1) (λ more. Ordered-enter k t (suc x.1) xs next (omega (arith, more)) below o.1 (λ w there. absent w (inr there)))
  where
    by : (k < x.1) ⊎ ((k ≡ x.1) ⊎ (x.1 < k)) → (x.1 < k → Ordered (suc x.1) (enter k t xs) next) → Ordered low (enter k t (x ∷ xs)) next
    by (inl less) rest = subst (λ ys. Ordered low ys next) (sym (enter_first k t x.1 (x ∷ xs) next less (omega arith, o.1))) (from, (omega (arith, less), o.1))
    by (inr (inl same)) rest = absurd (absent x.0 (inl (refl, sym same)))
    by (inr (inr more)) rest = subst (λ ys. Ordered low ys next) (sym (enter_next k t x xs (omega (arith, more)))) (o.0, rest more)

-- Place numbers below the next one

before-filter : (n : ℕ) (p : ℕ × ℕ → Bool) (xs : List (ℕ × ℕ)) → AreBefore n xs → AreBefore n (filter p xs)
before-filter n p [] are = tt
before-filter n p (x ∷ xs) are = by (p x) (before-filter n p xs are.1)
  where
    by : (b : Bool) → AreBefore n (filter p xs) → AreBefore n (cond b (x ∷ filter p xs) (filter p xs))
    by true rest = (are.0, rest)
    by false rest = rest

before-append : (n : ℕ) (xs ys : List (ℕ × ℕ)) → AreBefore n xs → AreBefore n ys → AreBefore n (xs ++ ys)
before-append n [] ys one two = two
before-append n (x ∷ xs) ys one two = (one.0, before-append n xs ys one.1 two)

before_more : (n : ℕ) (xs : List (ℕ × ℕ)) → AreBefore n xs → AreBefore (n + 1) xs
before_more n [] are = tt
before_more n (x ∷ xs) are = let a = are.0 in (omega (arith, a), before_more n xs are.1)

before_entered : (n k t : ℕ) (xs : List (ℕ × ℕ)) → k % 2 ^ 64 < n + 1 → AreBefore n xs → AreBefore (n + 1) (enter k t xs)
before_entered n k t xs here are =
    let all = before_more n xs are in
    before-append (n + 1) (filter (λ y. nat_le y.1 k) xs) ((t, k) ∷ filter (λ y. nat_lt k y.1) xs)
    (before-filter (n + 1) (λ y. nat_le y.1 k) xs all)
    (here, before-filter (n + 1) (λ y. nat_lt k y.1) xs all)

-- The queue after a change

module _ {S : Type 0} (es : List (ℕ × ℕ)) (keys : IndexMap ℕ ℕ S) (came : ℕ) (kept : AreKept es keys came) where
  -- places may be reserved
  placed_reserved : (same : IndexMap ℕ ℕ S) → same.entries ≡ keys.entries → ArePlaced (keyed es) same
  placed_reserved same unchanged = record {
    listed = λ x n h. reads x ∙ kept.placed.listed x n h;
    placed = λ x n h. kept.placed.placed x n (sym (reads x) ∙ h);
  }
    where
      reads : (x : ℕ) → get nat_eq same x ≡ get nat_eq keys x
      reads x = ap (λ (ps : List (ℕ × ℕ)). lookup (nat_eq x) ps) unchanged

  pub kept_reserved : (same : IndexMap ℕ ℕ S) (fs : List (ℕ × ℕ)) → same.entries ≡ keys.entries → fs ≡ es → AreKept fs same came
  kept_reserved same fs unchanged is =
      subst (λ gs. AreKept gs same came) (sym is) (record { rises = kept.rises; numbers = kept.numbers; placed = placed_reserved same unchanged })

  -- one more is put in under the next place number
  module _ (t r k : ℕ) (at : k ≡ key r came) (small : came < 2 ^ 64 - 1) where
    key_absent : (w : ℕ) → HasPlace (keyed es) w k → ⊥
    key_absent w there = let below = number_below came (keyed es) w k kept.numbers there in absurd (omega (arith, below, at, small))

    pub keyed_put : (fs : List (ℕ × ℕ)) → fs ≡ insert_entry nat_cmp es k t → keyed fs ≡ enter k t (keyed es)
    keyed_put fs is = ap keyed is ∙ keyed-insert k t 0 es (2 ^ 96) kept.rises key_absent

    pub kept_put : (same new : IndexMap ℕ ℕ S) (fs : List (ℕ × ℕ)) → r < 2 ^ 32 → same.entries ≡ keys.entries → fs ≡ insert_entry nat_cmp es k t → Updates nat_eq same new t (Some k) →
        (Contains (ids (keyed es)) t → ⊥) → AreKept fs new (came + 1)
    kept_put same new fs rank unchanged is to absent =
        let e = keyed_put fs is in
        record {
          rises = subst (λ xs. Ordered 0 xs (2 ^ 96)) (sym e) (Ordered-enter k t 0 (keyed es) (2 ^ 96) (omega arith) (omega (arith, at, small, rank)) kept.rises key_absent);
          numbers = subst (λ xs. AreBefore (came + 1) xs) (sym e) (before_entered came k t (keyed es) (omega (arith, at, small)) kept.numbers);
          placed = subst (λ xs. ArePlaced xs new) (sym e)
              (placed-in (keyed es) same new t k (placed_reserved same unchanged) (enter k t (keyed es)) (place_entered k t (keyed es)) (place_before k t (keyed es)) (place_after k t (keyed es)) absent to);
        }

    pub ranks_put : (rank : ℕ → ℕ) (fs : List (ℕ × ℕ)) → rank t ≡ r → fs ≡ insert_entry nat_cmp es k t → HaveRanks rank (keyed es) →
        (ids (keyed fs) ≡ put_behind rank t (ids (keyed es))) × HaveRanks rank (keyed fs)
    ranks_put rank fs has is are =
        let all = entered rank t came (omega (arith, small)) (keyed es) kept.numbers are in
        let to : enter (key (rank t) came) t (keyed es) ≡ keyed fs = ap (λ m. enter (key m came) t (keyed es)) has ∙ ap (λ m. enter m t (keyed es)) (sym at) ∙ sym (keyed_put fs is) in
        subst (λ xs. (ids xs ≡ put_behind rank t (ids (keyed es))) × HaveRanks rank xs) to all

  -- task t, which has key k, is taken out
  module _ (t k : ℕ) (at : Some k ≡ get nat_eq keys t) (fs : List (ℕ × ℕ)) (is : fs ≡ remove_entry (is_at (nat_cmp k)) es) where
    left : keyed fs ≡ without_place k (keyed es)
    left = ap keyed is ∙ keyed-remove k 0 es (2 ^ 96) kept.rises

    pub kept_less : (new : IndexMap ℕ ℕ S) → Updates nat_eq keys new t None → AreKept fs new came
    kept_less new to = record {
      rises = subst (λ xs. Ordered 0 xs (2 ^ 96)) (sym left) (Ordered-filter (λ x. not (x.1 == k)) 0 (keyed es) (2 ^ 96) kept.rises);
      numbers = subst (λ xs. AreBefore came xs) (sym left) (before-filter came (λ x. not (x.1 == k)) (keyed es) kept.numbers);
      placed = subst (λ xs. ArePlaced xs new) (sym left) (placed-less (keyed es) keys new t k kept.placed (2 ^ 96) kept.rises at to);
    }

    pub tasks_less : (new : IndexMap ℕ ℕ S) → Updates nat_eq keys new t None → ids (keyed fs) ≡ without t (ids (keyed es))
    tasks_less new to = ap ids left ∙ ids-less (keyed es) keys new t k kept.placed (2 ^ 96) kept.rises at to

    pub ranks_less : (rank : ℕ → ℕ) → HaveRanks rank (keyed es) → HaveRanks rank (keyed fs)
    ranks_less rank are = subst (HaveRanks rank) (sym left) (ranks-filter rank (λ x. not (x.1 == k)) (keyed es) are)

  -- who stands behind t, which has key k
  pub next_behind : (t k : ℕ) (s : List (ℕ × ℕ)) → Some k ≡ get nat_eq keys t → s ≡ entries_between nat_cmp (Excluded k) Unbounded es →
      option_map (λ e. e.1) (slice_get s 0) ≡ next_of t (ids (keyed es))
  next_behind t k s at is =
      placed_first s
      ∙ ap (λ xs. option_map (λ p. p.0) (slice_get xs 0)) (ap keyed is ∙ keyed-behind k es)
      ∙ next_found (keyed es) keys (2 ^ 96) t k (suc k) kept.placed kept.rises at refl
