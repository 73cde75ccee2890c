-- How many tasks a pool keeps.
use Rattle.std.specs.Prelude.{ℕ, ◌≡◌, ◌≤◌, true, is_some, List, length}
use Rattle.tp_record.specs.Lists.{is_among, IsOnce}
use Rattle.tp_tasks.specs.declared.tasks.Tasks.{Tasks}
use Rattle.tp_tasks.specs.Tasks.{row_of}

-- no more than n tasks are kept: so few are any that are, each named once
abbrev pub KeepsAtMost : {P : Type 0} → Tasks P → ℕ → Type 0
KeepsAtMost m n = (ts : List ℕ) → IsOnce ts → ((t : ℕ) → is_among t ts ≡ true → is_some (row_of m t) ≡ true) → length ts ≤ n
