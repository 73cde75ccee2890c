use Rattle.std.proofs.Common.{◌≡◌, ◌+◌, drop}
use Rattle.tp_explore.specs.Situation.{seen, waits_over}
use Rattle.tp_explore.proofs.deeds.waits_over.Given as goal

abbrev pub invariant-loop-n : goal.invariant-loop-n
invariant-loop-n l = waits_over (seen l.state) l.calls ≡ l.n + waits_over (seen l.state) (drop l.n l.calls)
