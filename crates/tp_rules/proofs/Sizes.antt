-- The counts of a state are at most the number of entries.
use Rattle.std.proofs.Common.{◌≡◌, ℕ, zero, suc, ◌+◌, ◌≤◌, Bool, true, false, not, cond, List, [], ◌∷◌, ◌++◌, map, length, Option, Some, None, refl, ap, ◌∙◌, arith}
use Rattle.std.specs.Prelude.{filter, ◌==◌, nat_le, nat_lt}
use Rattle.std.proofs.lemmas.Bool.Decides.{nat_tests}
use Rattle.std.proofs.lemmas.List.{length-append}
use Rattle.std.proofs.lemmas.List.Sums.{length-filter, count_by-le-length}
use Rattle.tp_types.specs.declared.configs.Config.{Config}
use Rattle.tp_types.specs.Queues.{is_ranked}
use Rattle.tp_record.specs.declared.entries.Entry.{Entry}
use Rattle.tp_record.specs.declared.entries.Did.{Did}
use Rattle.tp_record.specs.declared.rows.TaskRow.{TaskRow}
use Rattle.tp_record.specs.Lists.{at_end, change_each, without, count_from, said_of, arrange, in_line, join_line}
use Rattle.tp_record.specs.Effects.{is_submit, queues, tries}
use Rattle.tp_record.specs.Fields.{submitted, offered, queued, queue, priority, is_queued, retries, counted, task_row, task_rows}
use Rattle.tp_record.specs.State.{row_at, no_row, row_after, tasks_after, queue_after, stays_queued}
use Rattle.tp_rules.proofs.Tables.{length-map_count_from, length-change_each}

-- at most one submission an entry
pub submitted-le : (h : List Entry) → submitted h ≤ length h
submitted-le [] = omega arith
submitted-le (e ∷ h) = by_test (is_submit e.did) (submitted-le h)
  where
    by_test : (b : Bool) → submitted h ≤ length h → cond b (suc (submitted h)) (submitted h) ≤ suc (length h)
    by_test true before = omega arith
    by_test false before = omega arith

length-filter-le : (p : ℕ → Bool) (xs : List ℕ) → length (filter p xs) ≤ length xs
length-filter-le p xs = omega (arith, length-filter p xs, count_by-le-length p xs)

length-at_end : (o : Option ℕ) (xs : List ℕ) → length (at_end o xs) ≤ suc (length xs)
length-at_end None xs = omega arith
length-at_end (Some x) xs = omega (arith, length-append (without x xs) (x ∷ []), length-filter-le (λ y. not (y == x)) xs)

length-offered : (h : List Entry) → length (offered h) ≤ length h
length-offered [] = omega arith
length-offered (e ∷ h) = omega (arith, length-offered h, length-at_end (queues e.did) (offered h))

-- what passes one of two tests that exclude each other
length-parts : (p q : ℕ → Bool) → ((x : ℕ) → q x ≡ not (p x)) → (xs : List ℕ) → length (filter p xs) + length (filter q xs) ≡ length xs
length-parts p q apart [] = refl
length-parts p q apart (x ∷ xs) = rw (apart x) (by_test (p x) (length-parts p q apart xs))
  where
    by_test : (b : Bool) → length (filter p xs) + length (filter q xs) ≡ length xs →
        length (cond b (x ∷ filter p xs) (filter p xs)) + length (cond (not b) (x ∷ filter q xs) (filter q xs)) ≡ suc (length xs)
    by_test true rest = omega (arith, rest)
    by_test false rest = omega (arith, rest)

length-between : (p q : ℕ → Bool) → ((x : ℕ) → q x ≡ not (p x)) → (x : ℕ) (xs : List ℕ) → length (filter p xs ++ x ∷ filter q xs) ≡ suc (length xs)
length-between p q apart x xs = omega (arith, length-append (filter p xs) (x ∷ filter q xs), length-parts p q apart xs)

length-arrange : (f : ℕ → ℕ) (xs : List ℕ) → length (arrange f xs) ≡ length xs
length-arrange f [] = refl
length-arrange f (x ∷ xs) =
    length-between (λ y. nat_lt (f y) (f x)) (λ y. nat_le (f x) (f y)) (λ y. grind (arith, nat_tests)) x (arrange f xs) ∙ ap suc (length-arrange f xs)

length-in_line : (b : Bool) (f : ℕ → ℕ) (xs : List ℕ) → length (in_line b f xs) ≡ length xs
length-in_line true f xs = length-arrange f xs
length-in_line false f xs = refl

-- no more queued tasks than entries
pub length-queue : (c : Config) (h : List Entry) → length (queue c h) ≤ length h
length-queue c h =
    omega (arith, length-in_line (is_ranked c.queue) (priority h) (queued h), length-offered h, length-filter-le (is_queued h) (offered h))

counted-le : (o : Option Bool) (n : ℕ) → counted o n ≤ suc n
counted-le None n = omega arith
counted-le (Some false) n = omega arith
counted-le (Some true) n = omega arith

-- at most one retry an entry
pub retries-le : (h : List Entry) (t : ℕ) → retries h t ≤ length h
retries-le [] t = omega arith
retries-le (e ∷ h) t = omega (arith, retries-le h t, counted-le (said_of t (tries e.did)) (retries h t))

-- a bound on the retries of each row of a table
row_bound : (f : ℕ → TaskRow) (m k n t : ℕ) → ((u : ℕ) → (f u).retries ≤ m) → (row_at (map f (count_from k n)) t).retries ≤ m
row_bound f m k zero t all = omega arith
row_bound f m k (suc n) zero all = all k
row_bound f m k (suc n) (suc t) all = row_bound f m (suc k) n t all

-- the rows of the tasks have no more retries than there are entries
pub rows_retries : (h : List Entry) (t : ℕ) → (row_at (task_rows h) t).retries ≤ length h
rows_retries h t = row_bound (task_row h) (length h) 0 (submitted h) t (retries-le h)

-- no more tasks than entries
pub length-task_rows : (h : List Entry) → length (task_rows h) ≤ length h
length-task_rows h = omega (arith, submitted-le h, length-map_count_from (task_row h) 0 (submitted h))

-- the sizes of the next state

-- at most one task more
pub length-tasks_after : (d : Did) (rows : List TaskRow) → length (tasks_after d rows) ≤ suc (length rows)
length-tasks_after d rows = by_test (is_submit d)
  where
    by_test : (b : Bool) →
        length (cond b (change_each (row_after d) 0 rows ++ row_after d (length rows) no_row ∷ []) (change_each (row_after d) 0 rows)) ≤ suc (length rows)
    by_test true =
        omega (arith, length-append (change_each (row_after d) 0 rows) (row_after d (length rows) no_row ∷ []), length-change_each (row_after d) 0 rows)
    by_test false = omega (arith, length-change_each (row_after d) 0 rows)

-- at most one retry more in each row
changed_retries : (d : Did) (m k t : ℕ) (rows : List TaskRow) → ((u : ℕ) → (row_at rows u).retries ≤ m) → (row_at (change_each (row_after d) k rows) t).retries ≤ suc m
changed_retries d m k t [] all = omega arith
changed_retries d m k zero (r ∷ rows) all = omega (arith, all 0, counted-le (said_of k (tries d)) r.retries)
changed_retries d m k (suc t) (r ∷ rows) all = changed_retries d m (suc k) t rows (λ u. all (suc u))

pushed_retries : (m : ℕ) (rows : List TaskRow) (r : TaskRow) (t : ℕ) → ((u : ℕ) → (row_at rows u).retries ≤ m) → r.retries ≤ m → (row_at (rows ++ r ∷ []) t).retries ≤ m
pushed_retries m [] r zero all last = last
pushed_retries m [] r (suc t) all last = all t
pushed_retries m (x ∷ rows) r zero all last = all 0
pushed_retries m (x ∷ rows) r (suc t) all last = pushed_retries m rows r t (λ u. all (suc u)) last

pub tasks_after_retries : (d : Did) (m : ℕ) (rows : List TaskRow) (t : ℕ) → ((u : ℕ) → (row_at rows u).retries ≤ m) → (row_at (tasks_after d rows) t).retries ≤ suc m
tasks_after_retries d m rows t all = by_test (is_submit d)
  where
    by_test : (b : Bool) →
        (row_at (cond b (change_each (row_after d) 0 rows ++ row_after d (length rows) no_row ∷ []) (change_each (row_after d) 0 rows)) t).retries ≤ suc m
    by_test true =
        pushed_retries (suc m) (change_each (row_after d) 0 rows) (row_after d (length rows) no_row) t
        (λ u. changed_retries d m 0 u rows all)
        (omega (arith, counted-le (said_of (length rows) (tries d)) 0))
    by_test false = changed_retries d m 0 t rows all

-- at most one task more in the queue
length-join_line : (b : Bool) (f : ℕ → ℕ) (o : Option ℕ) (xs : List ℕ) → length (join_line b f o xs) ≤ suc (length xs)
length-join_line b f None xs = omega arith
length-join_line true f (Some x) xs =
    omega (arith, length-between (λ y. nat_le (f y) (f x)) (λ y. nat_lt (f x) (f y)) (λ y. grind (arith, nat_tests)) x xs)
length-join_line false f (Some x) xs = omega (arith, length-append xs (x ∷ []))

pub length-queue_after : (b : Bool) (d : Did) (rows : List TaskRow) (ts : List ℕ) → length (queue_after b d rows ts) ≤ suc (length ts)
length-queue_after b d rows ts =
    omega (arith, length-join_line b (λ t. (row_at rows t).priority) (queues d) (filter (stays_queued d rows) ts), length-filter-le (stays_queued d rows) ts)
