use Rattle.std.specs.List.{All}
use Rattle.tp_explore.specs.Moves.{Holds}
use Rattle.tp_explore.specs.Situation.{seen}
use Rattle.test_program.proofs.interleavings.again.count_all.Given as goal

abbrev pub invariant-loop-turn : goal.invariant-loop-turn
invariant-loop-turn l = All (λ s. Holds l.exploration.plan (seen s)) l.open.items
