use Rattle.std.proofs.Common.{◌∙◌}
use Rattle.poolrun_commands.proofs.Accepted.{accepted_on, on_ok, refused_on}
use Rattle.poolrun_commands.proofs.refusals.RefusalsListener.hear.Goals as goal

pub returns-in-Ok : goal.returns-in-Ok
returns-in-Ok c = on_ok c.note.result (λ d xs whole. c.note.ensures ∙ whole ∙ accepted_on xs c.args.answered.now c.in-Ok.entry c.in-Ok.is)

pub returns-in-Err : goal.returns-in-Err
returns-in-Err c = on_ok c.tell.result (λ d xs whole. c.tell.ensures ∙ refused_on xs c.args.answered.now c.in-Err.refusal c.in-Err.is)
