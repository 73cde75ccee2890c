use Rattle.tp_machine.proofs.Waiting.{payloads_wait, promises_known, outcomes_promised}
use Rattle.tp_machine.proofs.machine.Machine.law_keeps_waiting.Goals as goal

pub returns-clause-payloads : goal.returns-clause-payloads
returns-clause-payloads g c = payloads_wait g.R.Recorder.tells g.R.Recorder.places c.self.inside.parts c.self.inside.noted c.args.self.now c.self.view_is c.self.invariant

pub returns-clause-promises : goal.returns-clause-promises
returns-clause-promises g c = promises_known g.R.Recorder.tells g.R.Recorder.places c.self.inside.parts c.self.inside.noted c.args.self.now c.self.view_is c.self.invariant

pub returns-clause-outcomes : goal.returns-clause-outcomes
returns-clause-outcomes g c = outcomes_promised g.R.Recorder.tells g.R.Recorder.places c.self.inside.parts c.self.inside.noted c.args.self.now c.self.view_is c.self.invariant
