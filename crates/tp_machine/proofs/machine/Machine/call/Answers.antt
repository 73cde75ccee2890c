use Rattle.tp_machine.proofs.Making.{not_torn}
use Rattle.tp_machine.proofs.machine.Machine.call.Goals as goal

pub returns-in-Err-clause-refused : goal.returns-in-Err-clause-refused
returns-in-Err-clause-refused g c = not_torn g.R.Recorder.tells c.args.self.now (g.S.Step.ask c.args.step) c.in-Err.error c.requires.promised c.in-Err.ensures.denied
