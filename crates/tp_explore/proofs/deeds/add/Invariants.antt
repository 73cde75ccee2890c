use Rattle.std.proofs.Common.{◌≡◌, ◌++◌, take}
use Rattle.tp_explore.specs.Moves.{deeds_by}
use Rattle.tp_explore.proofs.deeds.add.Given as goal

abbrev pub invariant-loop-ask : goal.invariant-loop-ask
invariant-loop-ask l = l.deeds.items ≡ l.fn.deeds.items ++ deeds_by l.by (take l.ask-index l.asks)
