use Rattle.tp_text.proofs.RunLaws.{after_all-push, run_lines-push, run_lines-append}
use Rattle.tp_text.proofs.runs.lines_grow.Goals as goal

pub returns-clause-history : goal.returns-clause-history
returns-clause-history c = after_all-push

pub returns-clause-lines : goal.returns-clause-lines
returns-clause-lines c = run_lines-push

pub returns-clause-parts : goal.returns-clause-parts
returns-clause-parts c = run_lines-append
