use Rattle.std.proofs.Common.{ap, ◌∙◌, arith}
use Rattle.tp_tasks.specs.Homes.{is_purgeable, passes, row_of_task}
use Rattle.tp_tasks.specs.Table.{task_in}
use Rattle.tp_tasks.proofs.AtHome.{one, apart_other, task_other, others_other, long_more, count_more, kept_more}
use Rattle.tp_tasks.proofs.Noted.{named_off}
use Rattle.tp_tasks.proofs.table.put_beside.Goals as goal

pub overflow_add-tasks : goal.overflow_add-tasks
overflow_add-tasks g c =
    let all = c.args.tasks.now.counted in
    let few = c.requires.few in
    omega (arith, all, few)

pub invariant_of-tasks : goal.invariant_of-tasks
unfolding task_in
invariant_of-tasks g c =
    let m = c.args.tasks.now in
    let all = m.counted in
    let few = c.requires.few in
    let sum = count_more m c.args.t c.requires.away c.insert.new.self c.args.task c.in-Ok.ensures.entries c.requires.absent is_purgeable in
    let taken = m.purged in
    let stays = ap one c.requires.stays in
    record {
      sized = m.sized;
      placed = m.placed;
      apart = apart_other m c.args.t c.requires.away c.insert.new.self _ c.in-Ok.ensures.updates;
      unique = c.in-Ok.ensures.unique;
      counted = kept_more m c.args.t c.requires.away c.insert.new.self c.args.task c.in-Ok.ensures.entries c.requires.absent;
      small = omega (arith, all, few);
      purged = omega (arith, sum, taken, stays);
      named = named_off m c.args.t m.homes.items c.insert.new.self (others_other m c.args.t c.requires.away c.insert.new.self _ c.in-Ok.ensures.updates)
          (ap (λ o. passes is_purgeable (row_of_task o)) (task_other m c.args.t c.requires.away c.insert.new.self _ c.in-Ok.ensures.updates) ∙ c.requires.stays);
      roomy =
          let more = long_more m c.args.t c.requires.away c.insert.new.self c.args.task c.in-Ok.ensures.entries c.requires.absent in
          let room = c.requires.room in
          omega (arith, more, room);
    }

pub returns-clause-task : goal.returns-clause-task
unfolding task_in
returns-clause-task g c = task_other c.args.tasks.now c.args.t c.requires.away c.insert.new.self _ c.in-Ok.ensures.updates

pub returns-clause-count : goal.returns-clause-count
unfolding task_in
returns-clause-count g c = count_more c.args.tasks.now c.args.t c.requires.away c.insert.new.self c.args.task c.in-Ok.ensures.entries c.requires.absent
