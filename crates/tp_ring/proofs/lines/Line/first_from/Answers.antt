use Rattle.std.proofs.Common.{◌∙◌, ap}
use Rattle.std.specs.Prelude.{slice_get}
use Rattle.tp_ring.specs.Line.{from_place}
use Rattle.tp_ring.proofs.Searches.{from_split}
use Rattle.tp_ring.proofs.lines.Line.first_from.Goals as goal

pub returns : goal.returns
returns g c =
    c.first_live.ensures ∙ ap (λ ys. slice_get ys 0) (from_split c.self.inside.ring.items c.args.number c.lower_bound.result c.lower_bound.ensures)
    ∙ ap (λ l. slice_get (from_place c.args.number l.items) 0) c.self.view_is
