use Rattle.tp_story_claims.specs.Endings.{AreOtherwise}
use Rattle.tp_story_claims.proofs.endings.ended_otherwise.Given as goal

abbrev pub invariant-loop-task : goal.invariant-loop-task
invariant-loop-task l = AreOtherwise l.first l.second l.task l.found.items
