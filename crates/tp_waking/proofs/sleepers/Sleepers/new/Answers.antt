use Rattle.std.proofs.Common.{◌≡◌, ◌≤◌, rules, replicate, ap, ◌∙◌, refl}
use Rattle.std.specs.Prelude.{vec_capacity}
use Rattle.tp_waking.specs.Rests.{sleeping, is_listed}
use Rattle.tp_waking.specs.Tied.{rests_of}
use Rattle.tp_waking.specs.declared.states.SleepState.TheVariants.{Away}
use Rattle.tp_waking.proofs.Marks.{sound-away, rests-away, count-away}
use Rattle.tp_waking.proofs.sleepers.Sleepers.new.Goals as goal

pub invariant_of-result : goal.invariant_of-result
invariant_of-result c =
    let all : c.resize.new.self.items ≡ replicate c.args.slots Away = search rules in
    let room : c.args.slots ≤ vec_capacity c.clear.new.self = search rules in
    rw (all, c.clear.ensures.items) (sound-away c.args.slots _ room)

pub returns-clause-rests : goal.returns-clause-rests
returns-clause-rests c =
    let all : c.resize.new.self.items ≡ replicate c.args.slots Away = search rules in
    ap rests_of all ∙ rests-away c.args.slots

pub returns-clause-awake : goal.returns-clause-awake
returns-clause-awake c = ap sleeping (returns-clause-rests c) ∙ count-away is_listed c.args.slots refl
