use Rattle.std.proofs.Common.{◌≡◌}
use Rattle.poolrun_program.proofs.runs.ends_by_itself.Given as goal

abbrev pub invariant-loop : goal.invariant-loop
invariant-loop g l = (goal.iterator-loop g).can_next l.iterator' × (goal.iterator-loop g).is_finite l.iterator' × (l.pass ≡ l.fn.pass)
