use Rattle.std.proofs.Common.{arith, refl}
use Rattle.tp_waking.proofs.Ties.{rests-set, listed_within, index-before, end-within, tied-end, tied-other, rests-other}
use Rattle.tp_waking.specs.declared.states.SleepState.TheVariants.{Marked}
use Rattle.tp_waking.proofs.Marks.{marks-off}
use Rattle.tp_waking.proofs.states.take_off.Goals as goal

pub unreachable-requires : goal.unreachable-requires
unreachable-requires c =
    let h = (c.requires.tied.placed c.args.w c.args.index c.requires.state).0 in
    let none = c.in_default.ensures.cases in
    omega (arith, h, none.0)

pub returns-then-last-w-clause-tied : goal.returns-then-last-w-clause-tied
returns-then-last-w-clause-tied c =
    tied-end c.args.states.now.items c.args.listed.now.items c.requires.tied c.pop.new.self.items c.in-Some.last c.in-Some.ensures.items c.args.w c.args.index Marked c.requires.state refl c.if-last-w.true

pub returns-then-last-w-clause-rests : goal.returns-then-last-w-clause-rests
returns-then-last-w-clause-rests c = rests-set c.args.states.now.items c.args.w Marked

pub index_mut-requires : goal.index_mut-requires
index_mut-requires c =
    let h = listed_within c.args.states.now.items c.args.w c.args.index c.requires.state in
    omega (arith, h)

pub index_mut-requires-2 : goal.index_mut-requires-2
index_mut-requires-2 c =
    let h = index-before c.args.states.now.items c.args.listed.now.items c.requires.tied c.pop.new.self.items c.in-Some.last c.in-Some.ensures.items c.args.w c.args.index c.requires.state c.if-last-w.false in
    omega (arith, h)

pub index_mut-requires-3 : goal.index_mut-requires-3
index_mut-requires-3 c =
    let h = end-within c.args.states.now.items c.args.listed.now.items c.requires.tied c.pop.new.self.items c.in-Some.last c.in-Some.ensures.items in
    omega (arith, h)

pub index_mut-requires-4 : goal.index_mut-requires-4
index_mut-requires-4 c =
    let h = listed_within c.args.states.now.items c.args.w c.args.index c.requires.state in
    omega (arith, h)

pub returns-clause-tied : goal.returns-clause-tied
returns-clause-tied c =
    tied-other c.args.states.now.items c.args.listed.now.items c.requires.tied c.pop.new.self.items c.in-Some.last c.in-Some.ensures.items c.args.w c.args.index Marked c.requires.state refl c.if-last-w.false

pub returns-clause-rests : goal.returns-clause-rests
returns-clause-rests c =
    rests-other c.args.states.now.items c.args.listed.now.items c.requires.tied c.pop.new.self.items c.in-Some.last c.in-Some.ensures.items c.args.w c.args.index Marked

pub returns-then-last-w-clause-marks : goal.returns-then-last-w-clause-marks
returns-then-last-w-clause-marks c = marks-off c.args.states.now.items _ c.args.w c.args.index c.requires.state (returns-then-last-w-clause-rests c)

pub returns-clause-marks : goal.returns-clause-marks
returns-clause-marks c = marks-off c.args.states.now.items _ c.args.w c.args.index c.requires.state (returns-clause-rests c)
