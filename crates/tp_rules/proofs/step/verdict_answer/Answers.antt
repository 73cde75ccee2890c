use Rattle.std.proofs.Common.{inl}
use Rattle.tp_rules.proofs.step.verdict_answer.Goals as goal

pub returns-in-Err : goal.returns-in-Err
returns-in-Err g c = λ s sh. inl (c.in-Err.ensures.denies c.args.config.now s sh)
