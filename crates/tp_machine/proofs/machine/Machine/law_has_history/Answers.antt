use Rattle.tp_machine.proofs.Owed.{here}
use Rattle.tp_machine.proofs.machine.Machine.law_has_history.Goals as goal

pub returns : goal.returns
returns g c = (
  c.self.invariant.stands.history,
  c.self.invariant.stands.released,
  here g.R.Recorder.tells g.R.Recorder.places c.self.inside.parts c.self.inside.noted c.args.self.now c.self.view_is c.self.invariant,
)
