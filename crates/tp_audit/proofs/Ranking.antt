-- A queue that goes by ranks: one more put in, and the ranks of those that stay.
use Rattle.std.proofs.Common.{◌≡◌, ℕ, zero, suc, ◌+◌, ◌<◌, ◌≤◌, ◌⊎◌, ◌^◌, Bool, true, false, cond, List, [], ◌∷◌, ◌++◌, length, Option, Some, None, Result, Ok, Err, OnOk, OnErr, refl, arith, sym, ap, ap₂, subst, ◌∙◌, inl, inr}
use Rattle.std.specs.Prelude.{◌==◌, ◌/◌, ◌%◌, nat_le, nat_lt, filter, unwrap_or}
use Rattle.std.proofs.lemmas.Bool.{cases_lt, le-leb, lt-leb, and_parts, false≢true}
use Rattle.tp_types.specs.declared.tasks.Place.TheVariants as at
use Rattle.tp_record.specs.declared.entries.Did.{Did}
use Rattle.tp_record.specs.declared.entries.Did.TheVariants as did
use Rattle.tp_record.specs.declared.entries.Looked.{Looked}
use Rattle.tp_record.specs.declared.entries.Looked.TheVariants as looked
use Rattle.tp_record.specs.declared.rows.TaskRow.{TaskRow}
use Rattle.tp_record.specs.Lists.{said_of, put_behind, join_line, change_each, is_among}
use Rattle.tp_record.specs.Effects.{is_submit, priorities_said, place_looked}
use Rattle.tp_record.specs.Fields.{is_queued_place}
use Rattle.tp_record.specs.State.{row_at, no_row, row_after, tasks_after, queue_after, stays_queued}
use Rattle.tp_laws.proofs.Model.Queues.{among-filter}
use Rattle.tp_laws.proofs.Effects.Names.{is_wide}
use Rattle.tp_ring.specs.Line.{ids}
use Rattle.tp_ring.specs.Ranks.{key, enter}
use Rattle.tp_audit.specs.declared.queue.QueueTable.{QueueTable}
use Rattle.tp_audit.specs.declared.queue.QueueTable.TheVariants.{InTurn, ByRank}
use Rattle.tp_audit.specs.Orders.{HasPlace}
use Rattle.tp_audit.specs.Queued.{tasks_of, is_by_rank, HaveRanks, AreRanked, Keeps}
use Rattle.tp_audit.specs.Ranked.{AreBefore}

pub keeps_same : (q : QueueTable) → Keeps q q
keeps_same q = record { kind = refl; ranks = λ rank are. are }

pub keeps_both : (p q r : QueueTable) → Keeps p q → Keeps q r → Keeps p r
keeps_both p q r first second = record { kind = second.kind ∙ first.kind; ranks = λ rank are. second.ranks rank (first.ranks rank are) }

-- what a push leaves of the ranks, whether or not there was memory
pub pushed_ranks : {A E : Type 0} (r : Result A E) (t p : ℕ) (old new : QueueTable) →
    OnOk r ((ranks : ℕ → ℕ) → ranks t ≡ p → AreRanked ranks old → (tasks_of new ≡ join_line (is_by_rank old) ranks (Some t) (tasks_of old)) × AreRanked ranks new) →
    OnErr r (new ≡ old) → (rank : ℕ → ℕ) → rank t ≡ p → AreRanked rank old → AreRanked rank new
pushed_ranks (Ok a) t p old new ok err rank has are = (ok rank has are).1
pushed_ranks (Err e) t p old new ok err rank has are = subst (AreRanked rank) (sym err) are

-- Ranks of items

pub ranks-filter : (rank : ℕ → ℕ) (p : ℕ × ℕ → Bool) (xs : List (ℕ × ℕ)) → HaveRanks rank xs → HaveRanks rank (filter p xs)
ranks-filter rank p [] are = tt
ranks-filter rank p (x ∷ xs) are = by (p x) (ranks-filter rank p xs are.1)
  where
    by : (b : Bool) → HaveRanks rank (filter p xs) → HaveRanks rank (cond b (x ∷ filter p xs) (filter p xs))
    by true rest = (are.0, rest)
    by false rest = rest

ranks-append : (rank : ℕ → ℕ) (xs ys : List (ℕ × ℕ)) → HaveRanks rank xs → HaveRanks rank ys → HaveRanks rank (xs ++ ys)
ranks-append rank [] ys one two = two
ranks-append rank (x ∷ xs) ys one two = (one.0, ranks-append rank xs ys one.1 two)

-- keys go by their ranks, and a number that is greater than all is behind its equals
le_rank : (k r n a : ℕ) → k / 2 ^ 64 ≡ a → k % 2 ^ 64 < n → n < 2 ^ 64 → nat_le k (key r n) ≡ nat_le a r
le_rank k r n a is below small = by (cases_lt r a)
  where
    by : (r < a) ⊎ (a ≤ r) → nat_le k (key r n) ≡ nat_le a r
    by (inl less) = lt-leb k (key r n) (omega (arith, is, less, small)) ∙ sym (lt-leb a r less)
    by (inr more) = le-leb k (key r n) (omega (arith, is, more, below)) ∙ sym (le-leb a r more)

lt_rank : (k r n a : ℕ) → k / 2 ^ 64 ≡ a → k % 2 ^ 64 < n → n < 2 ^ 64 → nat_lt (key r n) k ≡ nat_lt r a
lt_rank k r n a is below small = by (cases_lt r a)
  where
    by : (r < a) ⊎ (a ≤ r) → nat_lt (key r n) k ≡ nat_lt r a
    by (inl less) = le-leb (suc (key r n)) k (omega (arith, is, less, small)) ∙ sym (le-leb (suc r) a less)
    by (inr more) = lt-leb (suc (key r n)) k (omega (arith, is, more, below)) ∙ sym (lt-leb (suc r) a (omega (arith, more)))

ids-append : (xs : List (ℕ × ℕ)) (t k : ℕ) (ys : List (ℕ × ℕ)) → ids (xs ++ (t, k) ∷ ys) ≡ ids xs ++ t ∷ ids ys
ids-append [] t k ys = refl
ids-append (x ∷ xs) t k ys = ap (λ zs. x.0 ∷ zs) (ids-append xs t k ys)

module _ (rank : ℕ → ℕ) (t n : ℕ) (small : n < 2 ^ 64) where
  ids-le : (xs : List (ℕ × ℕ)) → AreBefore n xs → HaveRanks rank xs → ids (filter (λ y. nat_le y.1 (key (rank t) n)) xs) ≡ filter (λ y. nat_le (rank y) (rank t)) (ids xs)
  ids-le [] numbered are = refl
  ids-le (x ∷ xs) numbered are = rw (le_rank x.1 (rank t) n (rank x.0) are.0 numbered.0 small) (by (nat_le (rank x.0) (rank t)) (ids-le xs numbered.1 are.1))
    where
      by : (b : Bool) → ids (filter (λ y. nat_le y.1 (key (rank t) n)) xs) ≡ filter (λ y. nat_le (rank y) (rank t)) (ids xs) →
          ids (cond b (x ∷ filter (λ y. nat_le y.1 (key (rank t) n)) xs) (filter (λ y. nat_le y.1 (key (rank t) n)) xs))
          ≡ cond b (x.0 ∷ filter (λ y. nat_le (rank y) (rank t)) (ids xs)) (filter (λ y. nat_le (rank y) (rank t)) (ids xs))
      by true rest = ap (λ ys. x.0 ∷ ys) rest
      by false rest = rest

  ids-gt : (xs : List (ℕ × ℕ)) → AreBefore n xs → HaveRanks rank xs → ids (filter (λ y. nat_lt (key (rank t) n) y.1) xs) ≡ filter (λ y. nat_lt (rank t) (rank y)) (ids xs)
  ids-gt [] numbered are = refl
  ids-gt (x ∷ xs) numbered are = rw (lt_rank x.1 (rank t) n (rank x.0) are.0 numbered.0 small) (by (nat_lt (rank t) (rank x.0)) (ids-gt xs numbered.1 are.1))
    where
      by : (b : Bool) → ids (filter (λ y. nat_lt (key (rank t) n) y.1) xs) ≡ filter (λ y. nat_lt (rank t) (rank y)) (ids xs) →
          ids (cond b (x ∷ filter (λ y. nat_lt (key (rank t) n) y.1) xs) (filter (λ y. nat_lt (key (rank t) n) y.1) xs))
          ≡ cond b (x.0 ∷ filter (λ y. nat_lt (rank t) (rank y)) (ids xs)) (filter (λ y. nat_lt (rank t) (rank y)) (ids xs))
      by true rest = ap (λ ys. x.0 ∷ ys) rest
      by false rest = rest

  -- who is put in under its rank and the next number is behind its equals
  pub entered : (xs : List (ℕ × ℕ)) → AreBefore n xs → HaveRanks rank xs →
      (ids (enter (key (rank t) n) t xs) ≡ put_behind rank t (ids xs)) × HaveRanks rank (enter (key (rank t) n) t xs)
  entered xs numbered are = (
    ids-append (filter (λ y. nat_le y.1 (key (rank t) n)) xs) t (key (rank t) n) (filter (λ y. nat_lt (key (rank t) n) y.1) xs)
        ∙ ap₂ (λ us vs. us ++ t ∷ vs) (ids-le xs numbered are) (ids-gt xs numbered are),
    ranks-append rank (filter (λ y. nat_le y.1 (key (rank t) n)) xs) ((t, key (rank t) n) ∷ filter (λ y. nat_lt (key (rank t) n) y.1) xs)
        (ranks-filter rank (λ y. nat_le y.1 (key (rank t) n)) xs are)
        (omega (arith, small), ranks-filter rank (λ y. nat_lt (key (rank t) n) y.1) xs are),
  )

-- Places of items, with one more

place-filter : (p : ℕ × ℕ → Bool) (xs : List (ℕ × ℕ)) (w n : ℕ) → p (w, n) ≡ true → HasPlace xs w n → HasPlace (filter p xs) w n
place-filter p [] w n is there = absurd there
place-filter p (x ∷ xs) w n is (inl here) =
    let e : p x ≡ true = ap₂ (λ v m. p (v, m)) here.0 here.1 ∙ is in
    rw e (inl here)
place-filter p (x ∷ xs) w n is (inr later) = by (p x) (place-filter p xs w n is later)
  where
    by : (b : Bool) → HasPlace (filter p xs) w n → HasPlace (cond b (x ∷ filter p xs) (filter p xs)) w n
    by true rest = inr rest
    by false rest = rest

place-of_filter : (p : ℕ × ℕ → Bool) (xs : List (ℕ × ℕ)) (w n : ℕ) → HasPlace (filter p xs) w n → HasPlace xs w n
place-of_filter p [] w n there = absurd there
place-of_filter p (x ∷ xs) w n there = by (p x) there (place-of_filter p xs w n)
  where
    by : (b : Bool) → HasPlace (cond b (x ∷ filter p xs) (filter p xs)) w n → (HasPlace (filter p xs) w n → HasPlace xs w n) → HasPlace (x ∷ xs) w n
    by true (inl here) rest = inl here
    by true (inr later) rest = inr (rest later)
    by false there rest = inr (rest there)

place-front : (xs ys : List (ℕ × ℕ)) (w n : ℕ) → HasPlace xs w n → HasPlace (xs ++ ys) w n
place-front [] ys w n there = absurd there
place-front (x ∷ xs) ys w n (inl here) = inl here
place-front (x ∷ xs) ys w n (inr later) = inr (place-front xs ys w n later)

place-back : (xs ys : List (ℕ × ℕ)) (w n : ℕ) → HasPlace ys w n → HasPlace (xs ++ ys) w n
place-back [] ys w n there = there
place-back (x ∷ xs) ys w n there = inr (place-back xs ys w n there)

place-either : (xs ys : List (ℕ × ℕ)) (w n : ℕ) → HasPlace (xs ++ ys) w n → HasPlace xs w n ⊎ HasPlace ys w n
place-either [] ys w n there = inr there
place-either (x ∷ xs) ys w n (inl here) = inl (inl here)
place-either (x ∷ xs) ys w n (inr later) = elim (place-either xs ys w n later) [ inl a ↦ inl (inr a) | inr b ↦ inr b ]

module _ (k t : ℕ) (xs : List (ℕ × ℕ)) where
  abbrev front : List (ℕ × ℕ)
  front = filter (λ y. nat_le y.1 k) xs

  abbrev back : List (ℕ × ℕ)
  back = filter (λ y. nat_lt k y.1) xs

  pub place_entered : HasPlace (enter k t xs) t k
  place_entered = place-back front ((t, k) ∷ back) t k (inl (refl, refl))

  pub place_before : (w n : ℕ) → HasPlace xs w n → HasPlace (enter k t xs) w n
  place_before w n there = elim (cases_lt k n) [
    | inl less ↦ place-back front ((t, k) ∷ back) w n (inr (place-filter (λ y. nat_lt k y.1) xs w n (le-leb (suc k) n less) there))
    | inr more ↦ place-front front ((t, k) ∷ back) w n (place-filter (λ y. nat_le y.1 k) xs w n (le-leb n k more) there)
  ]

  pub place_after : (w n : ℕ) → HasPlace (enter k t xs) w n → HasPlace xs w n ⊎ ((t ≡ w) × (k ≡ n))
  place_after w n there = elim (place-either front ((t, k) ∷ back) w n there) [
    | inl a ↦ inl (place-of_filter (λ y. nat_le y.1 k) xs w n a)
    | inr b ↦ behind b
  ]
    where
      behind : HasPlace ((t, k) ∷ back) w n → HasPlace xs w n ⊎ ((t ≡ w) × (k ≡ n))
      behind (inl here) = inr here
      behind (inr later) = inl (place-of_filter (λ y. nat_lt k y.1) xs w n later)

-- each number is below the next one
pub number_below : (n : ℕ) (xs : List (ℕ × ℕ)) (w k : ℕ) → AreBefore n xs → HasPlace xs w k → k % 2 ^ 64 < n
number_below n [] w k numbered there = absurd there
number_below n (x ∷ xs) w k numbered (inl here) = subst (λ m. m % 2 ^ 64 < n) here.1 numbered.0
number_below n (x ∷ xs) w k numbered (inr later) = number_below n xs w k numbered.1 later

-- Rows after an entry

items-agree : (f g : ℕ → ℕ) (xs : List (ℕ × ℕ)) → ((t : ℕ) → is_among t (ids xs) ≡ true → f t ≡ g t) → HaveRanks f xs → HaveRanks g xs
items-agree f g [] same are = tt
items-agree f g (x ∷ xs) same are = (are.0 ∙ same x.0 (grind arith), items-agree f g xs (λ t there. same t (grind arith)) are.1)

agree : (f g : ℕ → ℕ) (q : QueueTable) → ((t : ℕ) → is_among t (tasks_of q) ≡ true → f t ≡ g t) → AreRanked f q → AreRanked g q
agree f g (InTurn q) same are = tt
agree f g (ByRank q) same are = items-agree f g q same are

-- an entry that leaves a task in the queue does not say its priority
unsaid : (d : Did) (rows : List TaskRow) (t : ℕ) → stays_queued d rows t ≡ true → said_of t (priorities_said d) ≡ None
unsaid (did.Submit u k p l) rows t stays = by (t == u.0) stays
  where
    unqueued : (l : Looked) → is_queued_place (place_looked l) ≡ true → ⊥
    unqueued (looked.Reserve w) is = false≢true is
    unqueued looked.Queue is = false≢true is
    unqueued looked.Refuse is = false≢true is

    by : (b : Bool) → is_queued_place (unwrap_or (cond b (Some (place_looked l)) None) at.Queued) ≡ true → ◌≡◌ {A = Option ℕ} (cond b (Some p) None) None
    by true is = absurd (unqueued l is)
    by false is = refl
unsaid _ rows t stays = refl

each_priority : (d : Did) (k t : ℕ) (rows : List TaskRow) → said_of (t + k) (priorities_said d) ≡ None → (row_at (change_each (row_after d) k rows) t).priority ≡ (row_at rows t).priority
each_priority d k t [] none = refl
each_priority d k zero (r ∷ rows) none = ap (λ o. unwrap_or o r.priority) (let e : k ≡ zero + k = omega arith in ap (λ i. said_of i (priorities_said d)) e ∙ none)
each_priority d k (suc t) (r ∷ rows) none = each_priority d (suc k) t rows (let e : t + suc k ≡ suc t + k = omega arith in ap (λ i. said_of i (priorities_said d)) e ∙ none)

pushed_priority : (xs : List TaskRow) (y : TaskRow) (t : ℕ) → (t ≡ length xs → y.priority ≡ 0) → (row_at (xs ++ y ∷ []) t).priority ≡ (row_at xs t).priority
pushed_priority [] y zero zeroed = zeroed refl
pushed_priority [] y (suc t) zeroed = refl
pushed_priority (x ∷ xs) y zero zeroed = refl
pushed_priority (x ∷ xs) y (suc t) zeroed = pushed_priority xs y t (λ e. zeroed (ap suc e))

length-each : (d : Did) (k : ℕ) (rows : List TaskRow) → length (change_each (row_after d) k rows) ≡ length rows
length-each d k [] = refl
length-each d k (r ∷ rows) = ap suc (length-each d (suc k) rows)

after_priority : (d : Did) (rows : List TaskRow) (t : ℕ) → said_of t (priorities_said d) ≡ None → (row_at (tasks_after d rows) t).priority ≡ (row_at rows t).priority
after_priority d rows t none = by (is_submit d)
  where
    here : said_of (t + 0) (priorities_said d) ≡ None
    here = let e : t + 0 ≡ t = omega arith in ap (λ i. said_of i (priorities_said d)) e ∙ none

    by : (b : Bool) → (row_at (cond b (change_each (row_after d) 0 rows ++ row_after d (length rows) no_row ∷ []) (change_each (row_after d) 0 rows)) t).priority ≡ (row_at rows t).priority
    by true =
        pushed_priority (change_each (row_after d) 0 rows) (row_after d (length rows) no_row) t
        (λ e. ap (λ o. unwrap_or o 0) (ap (λ i. said_of i (priorities_said d)) (sym (e ∙ length-each d 0 rows)) ∙ none))
        ∙ each_priority d 0 t rows here
    by false = each_priority d 0 t rows here

-- the queue after an entry has its tasks' priorities
pub ranks_after : (d : Did) (rows after : List TaskRow) (old new : QueueTable) → Keeps old new → tasks_of new ≡ filter (stays_queued d rows) (tasks_of old) → after ≡ tasks_after d rows →
    AreRanked (λ t. (row_at rows t).priority) old → AreRanked (λ t. (row_at after t).priority) new
ranks_after d rows after old new keeps left is are =
    agree (λ t. (row_at rows t).priority) (λ t. (row_at after t).priority) new
    (λ t there.
    let stays = (and_parts (stays_queued d rows t) (is_among t (tasks_of old)) (sym (among-filter t (stays_queued d rows) (tasks_of old)) ∙ sym (ap (is_among t) left) ∙ there)).0 in
    sym (after_priority d rows t (unsaid d rows t stays)) ∙ sym (ap (λ xs. (row_at xs t).priority) is))
    (keeps.ranks (λ t. (row_at rows t).priority) are)

-- an entry that changes rows which it does not name puts nothing in the queue
pub wide_left : (b : Bool) (d : Did) (rows : List TaskRow) (ts : List ℕ) → is_wide d ≡ true → queue_after b d rows ts ≡ filter (stays_queued d rows) ts
wide_left b did.Shutdown rows ts wide = refl
wide_left b (did.Stop n) rows ts wide = refl
wide_left b did.Tidy rows ts wide = refl
wide_left b did.Ended rows ts wide = refl
wide_left b (did.Purge n) rows ts wide = refl
wide_left b _ rows ts wide = absurd (false≢true wide)
