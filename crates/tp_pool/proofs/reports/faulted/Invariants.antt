use Rattle.std.proofs.Common.{◌≡◌, ◌≤◌, count_by, take}
use Rattle.tp_pool.specs.Outcomes.{is_fault}
use Rattle.tp_pool.proofs.reports.faulted.Given as goal

abbrev pub invariant-loop-packed : goal.invariant-loop-packed
invariant-loop-packed l = (l.faults ≡ count_by is_fault (take l.packed-index l.packed-items)) × (l.faults ≤ l.packed-index)
