-- Where a task lies: at its home, or beside.
use Rattle.std.specs.Prelude.{ℕ, ◌≡◌, ◌+◌, ◌%◌, ◌<◌, ◌≤◌, ◌⊎◌, ◌&&◌, Bool, true, false, not, List, length, slice_get, slice_index_or, sum_by, Option, Some, None, is_some, nat_eq, if◌then◌else◌}
use Rattle.std.specs.Int.{IsPowerOfTwo}
use Rattle.indexmap.specs.IndexMap.{IndexMap, get, values}
use Rattle.tp_record.specs.declared.rows.TaskRow.{TaskRow}
use Rattle.tp_record.specs.Fields.{is_queued_place}
use Rattle.tp_record.specs.Lists.{is_among}
use Rattle.tp_tasks.specs.declared.homes.Home.{Home}
use Rattle.tp_tasks.specs.declared.table.KeptTask.{KeptTask}

-- the home of task t among n homes: the low bits of its number
abbrev pub home_of : ℕ → ℕ → ℕ
home_of n t = t % n

-- a purge takes a task with this row
abbrev pub is_purgeable : TaskRow → Bool
is_purgeable r = r.cancelled && is_queued_place r.place

-- whether there is a row, and it passes the test
abbrev pub passes : (TaskRow → Bool) → Option TaskRow → Bool
passes p None = false
passes p (Some r) = p r

-- there is no home, or there are as many as some power of two
abbrev pub IsSize : ℕ → Type 0
IsSize n = ∥ (n ≡ 0) ⊎ IsPowerOfTwo n ∥₁

-- task t is noted, where it is to be, and all that were stay
pub record Notes (old new : List ℕ) (t : ℕ) (is : Bool) : Type 0 where
  pub stay : (u : ℕ) → is_among u old ≡ true → is_among u new ≡ true
  pub there : is ≡ true → is_among t new ≡ true
  pub long : length new ≤ length old + 1

module _ {P : Type 0} where
  abbrev pub row_of_task : Option (KeptTask P) → Option TaskRow
  row_of_task None = None
  row_of_task (Some t) = Some t.row

  -- task t, where it lies at this home
  abbrev pub held : ℕ → Option (Home P) → Option (KeptTask P)
  held t None = None
  held t (Some h) = if nat_eq h.number t then Some h.task else None

  -- whose home it is
  abbrev pub holder : Option (Home P) → Option ℕ
  holder None = None
  holder (Some h) = Some h.number

  -- whether the task there, if there is one, has a row that passes the test
  abbrev pub home_passes : (TaskRow → Bool) → Option (Home P) → Bool
  home_passes p None = false
  home_passes p (Some h) = p h.task.row

  -- the i-th home
  abbrev pub home_at : List (Option (Home P)) → ℕ → Option (Home P)
  home_at homes i = slice_index_or homes i None

  -- whether there is such a home, and no task lies there
  abbrev pub is_free : Option (Option (Home P)) → Bool
  is_free (Some None) = true
  is_free (Some (Some h)) = false
  is_free None = false

  -- whether task t lies at such a home
  abbrev pub is_held : ℕ → Option (Option (Home P)) → Bool
  is_held t None = false
  is_held t (Some None) = false
  is_held t (Some (Some h)) = nat_eq h.number t

  abbrev pub is_free_home : List (Option (Home P)) → ℕ → Bool
  is_free_home homes i = is_free (slice_get homes i)

  -- the first of two, where it is there
  abbrev pub or_beside : Option (KeptTask P) → Option (KeptTask P) → Option (KeptTask P)
  or_beside None o = o
  or_beside (Some v) o = Some v

  -- how many of the tasks at their homes have a row that passes the test
  abbrev pub home_count : (TaskRow → Bool) → List (Option (Home P)) → ℕ
  home_count p homes = sum_by (λ h. if home_passes p h then 1 else 0) homes

  -- each task at a home has it as its own
  abbrev pub ArePlaced : List (Option (Home P)) → Type 0
  ArePlaced homes = (i t : ℕ) → holder (home_at homes i) ≡ Some t → home_of (length homes) t ≡ i

  -- whether the task there has another home among n
  abbrev pub moves : ℕ → ℕ → Option (Home P) → Bool
  moves n i None = false
  moves n i (Some h) = not (nat_eq (home_of n h.number) i)

  -- what stays at the i-th home, and what goes to another
  abbrev pub stays : ℕ → ℕ → Option (Home P) → Option (Home P)
  stays n i o = if moves n i o then None else o

  abbrev pub goes : ℕ → ℕ → Option (Home P) → Option (Home P)
  goes n i o = if moves n i o then o else None

  -- of m homes the first k are settled among twice as many, of which the others are free
  pub record AreSpread (k m : ℕ) (old new : List (Option (Home P))) : Type 0 where
    pub len : length new ≡ length old
    pub low : (i : ℕ) → i < k → home_at new i ≡ stays (length old) i (home_at old i)
    pub high : (i : ℕ) → i < k → home_at new (i + m) ≡ goes (length old) i (home_at old i)
    pub rest : (i : ℕ) → k ≤ i → i < m → home_at new i ≡ home_at old i
    pub free : (i : ℕ) → k ≤ i → i < m → home_at new (i + m) ≡ None
    pub count : (p : TaskRow → Bool) → home_count p new ≡ home_count p old

module _ {P S : Type 0} where
  -- what is kept of task t
  abbrev pub found : List (Option (Home P)) → IndexMap ℕ (KeptTask P) S → ℕ → Option (KeptTask P)
  found homes beside t = or_beside (held t (home_at homes (home_of (length homes) t))) (get nat_eq beside t)

  -- how many of the tasks beside have a row that passes the test
  abbrev pub beside_count : (TaskRow → Bool) → IndexMap ℕ (KeptTask P) S → ℕ
  beside_count p m = sum_by (λ (k : KeptTask P). if p k.row then 1 else 0) (values m)

  -- no task lies both at its home and beside
  abbrev pub AreApart : List (Option (Home P)) → IndexMap ℕ (KeptTask P) S → Type 0
  AreApart homes beside = (i t : ℕ) → holder (home_at homes i) ≡ Some t → is_some (get nat_eq beside t) ≡ false

  -- so many tasks are kept
  abbrev pub AreKept : ℕ → List (Option (Home P)) → IndexMap ℕ (KeptTask P) S → Type 0
  AreKept n homes beside = home_count (λ _. true) homes + beside_count (λ _. true) beside ≡ n

  -- so many of them a purge takes
  abbrev pub ArePurgeable : ℕ → List (Option (Home P)) → IndexMap ℕ (KeptTask P) S → Type 0
  ArePurgeable n homes beside = home_count is_purgeable homes + beside_count is_purgeable beside ≡ n

  -- and each of these is in the list
  abbrev pub AreNoted : List ℕ → List (Option (Home P)) → IndexMap ℕ (KeptTask P) S → Type 0
  AreNoted ts homes beside = (t : ℕ) → passes is_purgeable (row_of_task (found homes beside t)) ≡ true → is_among t ts ≡ true
