use Rattle.std.proofs.Common.{ap, length, ◌∙◌}
use Rattle.tp_ring.specs.Line.{ids}
use Rattle.tp_audit.proofs.Treed.{length-keyed}
use Rattle.tp_audit.proofs.ranks.Ranks.len.Goals as goal

pub returns : goal.returns
returns c = c.len.ensures.len ∙ length-keyed c.self.inside.tasks.entries ∙ ap (λ xs. length (ids xs)) c.self.view_is
