use Rattle.std.proofs.Common.{ap, inr}
use Rattle.tp_record.specs.Left.{mark}
use Rattle.tp_record.specs.State.{state}
use Rattle.tp_record.specs.Step.{within_room}
use Rattle.tp_machine_state.specs.Terms.{terms}
use Rattle.tp_machine_state.proofs.Reading.{reads_marked}
use Rattle.tp_machine_submitters.proofs.Verdicts.{accepts_verdict}
use Rattle.tp_machine_submitters.proofs.verdict.JudgeStep.answer.Goals as goal

pub returns-in-Ok-clause-fits : goal.returns-in-Ok-clause-fits
returns-in-Ok-clause-fits g c =
    accepts_verdict c.args.parts.now c.requires.stands c.args.self.0 c.in-Ok.row c.args.self.1 c.ruled.result c.in-Ok.ensures.row c.in-Ok.ensures.place c.in-Ok.ensures.allowed c.ruled.ensures

pub returns-in-Err-clause-denies : goal.returns-in-Err-clause-denies
returns-in-Err-clause-denies g c =
    let p = c.args.parts.now in
    inr (
      tt,
      λ h rs legal may sh w free.
          let s = mark rs (state (terms p) h) in
          ap (within_room (terms p) s) (c.in-Err.ensures.denies (terms p) s (reads_marked p h rs may sh)),
    )
