use Rattle.std.proofs.Common.{◌≡◌, map}
use Rattle.tp_waking.specs.Rests.{called, sleeping}
use Rattle.tp_waking.proofs.sleepers.Sleepers.call_all.Given as goal

abbrev pub invariant-loop : goal.invariant-loop
invariant-loop l = map called l.self ≡ map called l.initial.self

abbrev pub decreases-loop : goal.decreases-loop
decreases-loop l = sleeping l.self
