use Rattle.std.proofs.Common.{length}
use Rattle.tp_scenario.specs.Answered.{settings_of}
use Rattle.tp_scenario.proofs.PlayLaws.{Going}
use Rattle.tp_scenario.proofs.play.play_lines.Given as goal

abbrev pub invariant-loop-line : goal.invariant-loop-line
invariant-loop-line g l = Going g.L.Listener.heard (settings_of l.fn.runner) l.first l.text l.number l.rest l.accepted l.runner l.output.written.items l.listener

abbrev pub decreases-loop-line : goal.decreases-loop-line
decreases-loop-line g l = length l.rest
