use Rattle.tp_pool_holds.proofs.Judging.{verdict_given}
use Rattle.tp_pool_holds.proofs.locked.marks.JudgeMarks.gone.Goals as goal

pub returns-in_default : goal.returns-in_default
returns-in_default g c =
    let given = verdict_given c.requires.0 c.requires.1 c.args.self.0 c.args.self.1 c.args.answer.now.did c.requires.2 in
    absurd (c.in_default.not-Verdict c.args.self.0 c.args.self.1 given.0 given.1)
