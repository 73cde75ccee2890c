use Rattle.std.proofs.Common.{sym, ap, subst}
use Rattle.tp_machine_state.specs.Terms.{terms}
use Rattle.tp_machine_state.specs.Tied.{IsTied}
use Rattle.tp_machine.proofs.Stepping.{same_sound, same_stays}
use Rattle.tp_machine.proofs.machine.Machine.take_space.Goals as goal

pub invariant_of-self : goal.invariant_of-self
invariant_of-self g c =
    let old = c.self.inside.parts in
    let new = c.take_space.new.self in
    let moved = c.take_space.ensures in
    let config = ap terms moved.rest in
    let steps = ap (λ x. x.steps) moved.rest in
    let tied = moved.tied (terms old) old.steps c.self.invariant.stands.tied in
    same_sound g.R.Recorder.tells old new c.self.inside.noted config moved.same g.R.Recorder.places steps
    (subst (λ k. IsTied k new.steps new) (sym config) (subst (λ n. IsTied (terms old) n new) (sym steps) tied)) c.self.invariant

pub returns : goal.returns
returns g c =
    let moved = c.take_space.ensures in
    same_stays g.R.Recorder.tells c.self.inside.parts c.take_space.new.self c.self.inside.noted (ap terms moved.rest) moved.same moved.payloads c.args.self.now c.self.view_is
