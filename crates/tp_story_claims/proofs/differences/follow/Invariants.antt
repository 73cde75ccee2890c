use Rattle.tp_story_claims.specs.Differences.{GoTogether}
use Rattle.tp_story_claims.proofs.differences.follow.Given as goal

abbrev pub invariant-loop : goal.invariant-loop
invariant-loop g l = GoTogether g.A.Source.gave g.B.Source.gave l.first l.second l.front
