use Rattle.std.proofs.Common.{◌≡◌, arith}
use Rattle.std.specs.Prelude.{length}
use Rattle.tp_waking.specs.declared.states.SleepState.TheVariants.{Listed}
use Rattle.tp_waking.proofs.Ties.{room, tied-put, rests-set}
use Rattle.tp_waking.proofs.Marks.{marks-put}
use Rattle.tp_waking.proofs.states.put_on.Goals as goal

pub push_reserved-requires : goal.push_reserved-requires
push_reserved-requires c =
    let r = room c.args.states.now.items c.args.listed.now.items c.requires.tied c.args.w c.requires.state c.requires.away in
    let h = c.requires.room in
    omega (arith, r, h)

pub returns-clause-tied : goal.returns-clause-tied
returns-clause-tied c =
    let last : c.len.result ≡ length c.args.listed.now.items = omega (arith, c.len.ensures) in
    rw c.push_reserved.ensures.items (rw last
    (tied-put c.args.states.now.items c.args.listed.now.items c.requires.tied c.args.w c.requires.state c.requires.away))

pub returns-clause-rests : goal.returns-clause-rests
returns-clause-rests c = rests-set c.args.states.now.items c.args.w (Listed c.len.result)

pub returns-clause-marks : goal.returns-clause-marks
returns-clause-marks c = marks-put c.args.states.now.items c.args.w c.len.result c.requires.state c.requires.away
