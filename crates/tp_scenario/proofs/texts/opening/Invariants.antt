use Rattle.std.proofs.Common.{length}
use Rattle.tp_scenario.proofs.ReadLaws.{Opening}
use Rattle.tp_scenario.proofs.texts.opening.Given as goal

abbrev pub invariant-loop-line : goal.invariant-loop-line
invariant-loop-line g l = Opening g.L.LineForm.text_of g.L.LineForm.fits l.text l.number l.rest

abbrev pub decreases-loop-line : goal.decreases-loop-line
decreases-loop-line g l = length l.rest
