use Rattle.std.proofs.Common.{◌≡◌, take, drop, length}
use Rattle.std.specs.Prelude.{map}
use Rattle.tp_story_claims.specs.Checks.{watched_after}
use Rattle.tp_story_claims.proofs.checks.watch.Given as goal

abbrev pub invariant-loop-i : goal.invariant-loop-i
invariant-loop-i l =
    (length l.claims.items ≡ length l.initial.claims.items)
    × (take l.i l.claims.items ≡ map (watched_after l.seen) (take l.i l.initial.claims.items))
    × (drop l.i l.claims.items ≡ drop l.i l.initial.claims.items)
