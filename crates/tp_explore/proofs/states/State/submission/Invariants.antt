use Rattle.std.proofs.Common.{◌≡◌, drop}
use Rattle.tp_explore.specs.Situation.{submission_from}
use Rattle.tp_explore.proofs.states.State.submission.Given as goal

abbrev pub invariant-loop-submission : goal.invariant-loop-submission
invariant-loop-submission l = submission_from 0 l.t.0 l.self.numbers.items ≡ submission_from l.submission l.t.0 (drop l.submission l.self.numbers.items)
