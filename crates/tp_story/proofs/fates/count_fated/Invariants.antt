use Rattle.std.proofs.Common.{◌≡◌, ◌≤◌, take}
use Rattle.std.specs.Prelude.{◌&&◌, count_by}
use Rattle.tp_record.specs.State.{fate_of}
use Rattle.tp_story.specs.Sorts.{is_of, has_fate}
use Rattle.tp_story.proofs.fates.count_fated.Given as goal

abbrev pub invariant-loop-row : goal.invariant-loop-row
invariant-loop-row l =
    (l.count ≡ count_by (λ row. is_of l.sort row.kind && has_fate l.fate (fate_of row)) (take l.row-index l.tasks)) × (l.count ≤ l.row-index)
