use Rattle.std.proofs.Common.{◌∙◌}
use Rattle.tp_machine_state.proofs.Purging.{cancelled_count}
use Rattle.tp_machine_state.proofs.parts.Parts.count_cancelled.Goals as goal

pub returns : goal.returns
returns g c = λ v views holds. c.purgeable.ensures ∙ cancelled_count c.args.self.now v views holds
