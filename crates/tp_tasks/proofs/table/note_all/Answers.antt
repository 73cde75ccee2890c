use Rattle.std.proofs.Common.{arith}
use Rattle.tp_tasks.proofs.Noted.{all_named}
use Rattle.tp_tasks.proofs.table.note_all.Goals as goal

pub returns-clause-named : goal.returns-clause-named
returns-clause-named g c =
    all_named c.args.homes.now.items c.args.beside.now c.loop-i.noted.items c.loop-i.i (omega (arith, c.loop-i-test.false, c.loop-i.auto.i-end, c.len-i-end.ensures.len)) c.loop-i.invariant.0
