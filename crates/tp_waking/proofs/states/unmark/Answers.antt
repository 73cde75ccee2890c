use Rattle.std.proofs.Common.{arith, refl}
use Rattle.tp_waking.specs.declared.states.SleepState.TheVariants.{Away, Marked}
use Rattle.tp_waking.proofs.Ties.{rests-set}
use Rattle.tp_waking.proofs.Marks.{marked-within, tied-awake, marks-end}
use Rattle.tp_waking.proofs.states.unmark.Goals as goal

pub index_mut-requires : goal.index_mut-requires
index_mut-requires c =
    let h = marked-within c.args.states.now.items c.args.w c.requires.state in
    omega (arith, h)

pub returns-clause-tied : goal.returns-clause-tied
returns-clause-tied c = λ listed tied. tied-awake c.args.states.now.items listed c.args.w Marked Away tied (marked-within c.args.states.now.items c.args.w c.requires.state) c.requires.state refl refl

pub returns-clause-rests : goal.returns-clause-rests
returns-clause-rests c = rests-set c.args.states.now.items c.args.w Away

pub returns-clause-marks : goal.returns-clause-marks
returns-clause-marks c = marks-end c.args.states.now.items c.args.w c.requires.state
