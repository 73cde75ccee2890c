use Rattle.std.proofs.Common.{◌≡◌, drop}
use Rattle.tp_story_claims.specs.Checks.{all_hold}
use Rattle.tp_story_claims.proofs.checks.all_hold.Given as goal

abbrev pub invariant-loop-watched : goal.invariant-loop-watched
invariant-loop-watched l = all_hold (drop l.watched-index l.claims) l.seen ≡ all_hold l.claims l.seen
