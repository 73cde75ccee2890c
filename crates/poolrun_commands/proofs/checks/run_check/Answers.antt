use Rattle.std.proofs.Common.{inl}
use Rattle.poolrun_commands.proofs.checks.run_check.Goals as goal

pub returns-in-Ok : goal.returns-in-Ok
returns-in-Ok g c = inl (c.in-Ok.claims, c.in-Ok.ensures, c.run_question.ensures.asks)
