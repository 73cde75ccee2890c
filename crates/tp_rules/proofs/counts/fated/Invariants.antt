use Rattle.std.proofs.Common.{◌≡◌, ◌≤◌, take}
use Rattle.std.specs.Prelude.{count_by}
use Rattle.tp_record.specs.State.{fate_of, is_fate}
use Rattle.tp_rules.proofs.counts.fated.Given as goal

abbrev pub invariant-loop-row : goal.invariant-loop-row
invariant-loop-row l =
    (l.fated ≡ count_by (λ row. is_fate l.fate (fate_of row)) (take l.row-index l.tasks)) × (l.fated ≤ l.row-index)
