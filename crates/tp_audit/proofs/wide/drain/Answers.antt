use Rattle.std.proofs.Common.{◌^◌, ◌-◌, arith, subst}
use Rattle.tp_record.specs.State.{row_after, no_row}
use Rattle.tp_audit.specs.Queued.{tasks_of}
use Rattle.tp_audit.proofs.Entries.{keeps_few}
use Rattle.tp_audit.proofs.Ranking.{keeps_both}
use Rattle.tp_audit.proofs.Sweeping.{Swept, swept_step, swept_end, head_among, length-without_head, among-without, no_head}
use Rattle.tp_audit.proofs.wide.drain.Goals as goal

pub loop-t-smaller : goal.loop-t-smaller
loop-t-smaller c =
    let less = length-without_head (tasks_of c.loop-t.queue) c.in-Some.t c.in-Some.ensures in
    rw c.remove.ensures.tasks less

pub loop-t-preserved : goal.loop-t-preserved
loop-t-preserved c =
    let d = c.args.did in
    let t = c.in-Some.t in
    let number = c.change_row.ensures.number in
    let before = c.loop-t.invariant.number in
    let step = swept_step (row_after d) no_row c.requires.none c.args.tasks.now.items c.loop-t.tasks.items (tasks_of c.args.queue.now) (tasks_of c.loop-t.queue) (tasks_of c.remove.new.self) t
    (head_among (tasks_of c.loop-t.queue) t c.in-Some.ensures) (λ x. rw c.remove.ensures.tasks (among-without t (tasks_of c.loop-t.queue) x)) c.loop-t.invariant.swept in
    record {
      number = omega (arith, number, before);
      few = λ u. rw c.change_row.ensures.row (keeps_few d c.loop-t.tasks.items t (2 ^ 32 - 1) c.requires.tries c.loop-t.invariant.few u);
      swept = rw c.change_row.ensures.row step;
      kept = keeps_both c.args.queue.now c.loop-t.queue c.remove.new.self c.loop-t.invariant.kept c.remove.ensures.kept;
    }

pub returns-clause-tasks : goal.returns-clause-tasks
returns-clause-tasks c =
    let d = c.args.did in
    swept_end (row_after d) no_row c.requires.none c.args.tasks.now.items c.loop-t.tasks.items (tasks_of c.args.queue.now) c.requires.others
    (subst (λ xs. Swept (row_after d) no_row c.args.tasks.now.items (tasks_of c.args.queue.now) xs c.loop-t.tasks.items) (no_head (tasks_of c.loop-t.queue) c.in_default.ensures) c.loop-t.invariant.swept)

pub returns-clause-queue : goal.returns-clause-queue
returns-clause-queue c = no_head (tasks_of c.loop-t.queue) c.in_default.ensures
