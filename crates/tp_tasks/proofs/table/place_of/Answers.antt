use Rattle.std.proofs.Common.{sym, subst, ap, ◌∙◌}
use Rattle.tp_tasks.specs.Homes.{home_of, IsSize}
use Rattle.tp_tasks.proofs.table.place_of.Goals as goal

pub home_among-requires : goal.home_among-requires
home_among-requires g c = let m = c.args.tasks.now in subst IsSize (sym (c.len.ensures ∙ m.homes.ok.0)) m.sized

pub returns : goal.returns
returns g c = let m = c.args.tasks.now in c.home_among.ensures ∙ ap (λ n. home_of n c.args.t) (c.len.ensures ∙ m.homes.ok.0)
