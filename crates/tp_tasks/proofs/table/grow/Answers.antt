use Rattle.std.proofs.Common.{refl}
use Rattle.tp_tasks.proofs.table.grow.Goals as goal

pub make_first_homes-requires-clause-power : goal.make_first_homes-requires-clause-power
make_first_homes-requires-clause-power g c = (6, refl)
