use Rattle.std.proofs.Common.{sym, subst, ◌∙◌}
use Rattle.tp_tasks.specs.Homes.{IsSize}
use Rattle.tp_tasks.proofs.table.is_to_move.Goals as goal

pub home_among-requires : goal.home_among-requires
home_among-requires g c = subst IsSize (sym (c.len.ensures ∙ c.args.homes.now.ok.0)) c.requires.size
