use Rattle.std.proofs.Common.{◌≡◌, ◌≤◌, ◌+◌, ◌-◌, ◌%◌, ◌^◌, ℕ, length, List, Option}
use Rattle.std.specs.Io.KnownBytes.{Consumes}
use Rattle.tp_text.specs.Watching.{source}
use Rattle.tp_text.specs.declared.watched.WatchedReader.{WatchedReader}
use Rattle.tp_text.proofs.inputs.read_text.Given as goal

-- what was read so far
pub record Reading {R : Type 0} (known : R → Option (List ℕ)) (before now : WatchedReader R) (text : List ℕ) : Type 0 where
  pub short : length text ≤ 1052672
  pub taken : Consumes (known (source before)) (known (source now)) text
  pub counted : now.given % 2 ^ 64 ≡ (before.given + length text) % 2 ^ 64
  pub well : now.failures ≡ before.failures

abbrev pub invariant-loop-piece : goal.invariant-loop-piece
invariant-loop-piece g l = Reading g.R.Read.remaining l.fn.reader l.reader l.text.items

abbrev pub decreases-loop-piece : goal.decreases-loop-piece
decreases-loop-piece g l = 1052673 - length l.text.items
