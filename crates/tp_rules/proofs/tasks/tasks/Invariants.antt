use Rattle.std.proofs.Common.{◌≡◌, map, reverse}
use Rattle.tp_record.specs.Lists.{count_from}
use Rattle.tp_record.specs.Fields as fields
use Rattle.tp_rules.proofs.tasks.tasks.Given as goal

abbrev pub invariant-loop-t : goal.invariant-loop-t
invariant-loop-t l = l.tasks.items ≡ map (fields.task_row (reverse l.entries)) (count_from 0 l.t)
