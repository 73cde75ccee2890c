use Rattle.tp_machine.proofs.Releasing.{kept_counted}
use Rattle.tp_machine.proofs.machine.tallied.Machine+P+Tally.kept.Goals as goal

pub returns : goal.returns
returns g c = kept_counted _ c.self.inside.parts c.self.inside.noted c.args.self.now c.self.view_is _ c.kept.ensures.released
