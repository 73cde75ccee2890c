use Rattle.std.proofs.Common.{ap, sym, ◌∙◌}
use Rattle.std.specs.Prelude.{slice_get, option_map}
use Rattle.tp_ring.specs.Line.{ids}
use Rattle.tp_audit.proofs.Treed.{first-keyed}
use Rattle.tp_audit.proofs.ranks.Ranks.first.Goals as goal

pub returns-in-Some : goal.returns-in-Some
returns-in-Some c =
    ap (option_map (λ e. e.1)) (sym c.in-Some.ensures.first) ∙ first-keyed c.self.inside.tasks.entries ∙ ap (λ xs. slice_get (ids xs) 0) c.self.view_is
