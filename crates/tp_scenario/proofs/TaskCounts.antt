-- How many tasks a history has.
use Rattle.std.proofs.Common.{◌≡◌, ℕ, zero, suc, List, length, map, refl, ap}
use Rattle.tp_record.specs.declared.entries.Entry.{Entry}
use Rattle.tp_record.specs.Lists.{count_from}
use Rattle.tp_record.specs.Fields.{submitted, task_row, task_rows}

length-rows : {A : Type 0} (f : ℕ → A) (k n : ℕ) → length (map f (count_from k n)) ≡ n
length-rows f k zero = refl
length-rows f k (suc n) = ap suc (length-rows f (suc k) n)

-- a row for each submission
pub length-task_rows : (h : List Entry) → length (task_rows h) ≡ submitted h
length-task_rows h = length-rows (task_row h) 0 (submitted h)
