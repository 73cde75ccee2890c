use Rattle.std.proofs.Common.{sym, ap, ◌∙◌}
use Rattle.tp_machine.specs.Seen.{task_of_row}
use Rattle.tp_machine.proofs.Seated.{seated}
use Rattle.tp_machine.proofs.machine.Machine.task_in.Goals as goal

pub returns-in-Some-clause-seat : goal.returns-in-Some-clause-seat
returns-in-Some-clause-seat g c =
    seated g.R.Recorder.tells c.self.inside.parts c.self.inside.noted c.args.self.now c.self.view_is c.args.w.0 _ (ap task_of_row (sym c.in-Some.is ∙ c.get.ensures))

pub returns-in-None-clause-seat : goal.returns-in-None-clause-seat
returns-in-None-clause-seat g c =
    seated g.R.Recorder.tells c.self.inside.parts c.self.inside.noted c.args.self.now c.self.view_is c.args.w.0 _ (ap task_of_row (sym c.in-None.is ∙ c.get.ensures))
