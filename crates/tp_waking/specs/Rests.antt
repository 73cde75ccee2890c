-- Where workers are, as far as waking them goes: a list by slot number.
use Rattle.std.specs.Prelude.{ℕ, ◌≡◌, Bool, true, false, List, count_by, get_or, set}
use Rattle.tp_waking.specs.declared.sleepers.Rest.{Rest}
use Rattle.tp_waking.specs.declared.sleepers.Rest.TheVariants as rests

-- where the worker of slot w is; past the end it is away
abbrev pub rest_at : List Rest → ℕ → Rest
rest_at all w = get_or all w rests.Away

abbrev pub is_away : Rest → Bool
is_away rests.Away = true
is_away _ = false

abbrev pub is_listed : Rest → Bool
is_listed rests.Listed = true
is_listed _ = false

abbrev pub is_marked : Rest → Bool
is_marked rests.Marked = true
is_marked _ = false

-- a worker that sleeps is woken, and any other is where it was
abbrev pub called : Rest → Rest
called rests.Listed = rests.Marked
called rest = rest

-- how many sleep, and how many were woken and look for a task
abbrev pub sleeping : List Rest → ℕ
sleeping all = count_by is_listed all

abbrev pub searching : List Rest → ℕ
searching all = count_by is_marked all

-- where a task waits, somebody looks for it or nobody sleeps
abbrev pub IsSettled : Bool → List Rest → Type 0
IsSettled waits all = waits ≡ true → searching all ≡ 0 → sleeping all ≡ 0

-- the worker of slot w slept, and is woken
pub record Wakes (old new : List Rest) (w : ℕ) : Type 0 where
  pub slept : rest_at old w ≡ rests.Listed
  pub woken : new ≡ set old w rests.Marked
