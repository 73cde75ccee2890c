use Rattle.std.proofs.Common.{arith, codes}
use Rattle.std.proofs.lemmas.Grind.{common_steps}
use Rattle.tp_text.proofs.LineLaws.{line-tasks}
use Rattle.tp_text.proofs.ends.write_back.Goals as goal

pub returns : goal.returns
returns c = rw (line-tasks (codes "back") c.args.tasks.now) (grind (arith, common_steps))
