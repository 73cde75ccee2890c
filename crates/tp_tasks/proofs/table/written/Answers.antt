use Rattle.std.proofs.Common.{◌∙◌}
use Rattle.tp_tasks.proofs.table.written.Goals as goal

pub returns-clause-empty : goal.returns-clause-empty
returns-clause-empty g c = λ t. c.make_first_homes.ensures.task t ∙ c.none-tasks.ensures.empty t

pub returns-clause-count : goal.returns-clause-count
returns-clause-count g c = λ p. c.make_first_homes.ensures.count p ∙ c.none-tasks.ensures.count p
