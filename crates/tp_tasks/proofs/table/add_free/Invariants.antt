use Rattle.std.proofs.Common.{◌≡◌, ◌+◌, ◌≤◌, ◌++◌, replicate, None}
use Rattle.tp_tasks.proofs.table.add_free.Given as goal

abbrev pub invariant-loop : goal.invariant-loop
invariant-loop g l = (l.homes.items ≡ l.fn.homes.items ++ replicate l.counter None) × (l.fn.homes.len + l.more ≤ l.homes.cap)
