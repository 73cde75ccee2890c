use Rattle.std.proofs.Common.{◌≡◌, take}
use Rattle.std.specs.Prelude.{map}
use Rattle.tp_story_claims.specs.Checks.{fresh}
use Rattle.tp_story_claims.proofs.checks.CheckingAccount.begin.Given as goal

abbrev pub invariant-loop-claim : goal.invariant-loop-claim
invariant-loop-claim l = l.claims.items ≡ map fresh (take l.claim-index l.question.items)
