-- The tasks of a runner's pool as data, by which a proof tells them apart: what lets a runner be seen in contracts.
use Rattle.std.specs.Coded.{Coded}
use base.Stored.{coded_unit}
use Rattle.tp_tasks.specs.declared.tasks.Tasks.{Tasks}
use Rattle.tp_tasks.specs.Codes.{tasks_code}

abbrev pub pool_code : Coded (Tasks (Unit {0}))
pool_code = tasks_code coded_unit
