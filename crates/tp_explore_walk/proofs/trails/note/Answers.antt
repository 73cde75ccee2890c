use Rattle.std.proofs.Common.{rules, ◌<◌, length, arith}
use Rattle.tp_explore_walk.proofs.Firsts.{is_none_at, is_some_at, notes_new, notes_old}
use Rattle.tp_explore_walk.proofs.trails.note.Goals as goal
use Rattle.tp_explore_walk.proofs.trails.note.Goals.{else-to-len-via-then-to-len+else-is_none, else-to-len-via-else-to-len}

pub returns-then-is_none : goal.returns-then-is_none
returns-then-is_none c =
    let fs = c.args.firsts.now.items in
    let lt : c.args.to < length fs = omega (arith, c.if-to-len.true, c.len.ensures) in
    notes_new fs c.args.to c.args.leg (is_none_at fs c.args.to c.index.result.now lt c.index.ensures (search rules))

pub returns-else-to-len : goal.returns-else-to-len
returns-else-to-len c =
    let fs = c.args.firsts.now.items in
    notes_old fs c.args.to c.args.leg (elim c.else-to-len.branch [
      | else-to-len-via-then-to-len+else-is_none w ↦ λ lt. is_some_at fs c.args.to w.index.result.now lt w.index.ensures (search rules)
      | else-to-len-via-else-to-len w ↦ λ lt. absurd (omega (arith, lt, w.if-to-len.false, c.len.ensures))
    ])
