use Rattle.tp_tasks.proofs.AtHome.{low_bits}
use Rattle.tp_tasks.proofs.table.home_among.Goals as goal

pub returns : goal.returns
returns c = low_bits c.args.homes c.args.t c.requires c.ranges.homes.fits c.ranges.t.fits
