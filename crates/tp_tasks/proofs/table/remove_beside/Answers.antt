use Rattle.std.proofs.Common.{sym, ap, ◌∙◌, arith}
use Rattle.tp_tasks.specs.Homes.{is_purgeable, passes, row_of_task}
use Rattle.tp_tasks.specs.Table.{task_in}
use Rattle.tp_tasks.proofs.AtHome.{one, purged_few, apart_other, task_other, others_other, count_out, count_less, some_beside, kept_less}
use Rattle.tp_tasks.proofs.Noted.{named_off}
use Rattle.tp_tasks.proofs.table.remove_beside.Goals as goal

pub overflow_sub-tasks : goal.overflow_sub-tasks
overflow_sub-tasks g c = some_beside c.args.tasks.now c.args.t c.requires c.swap_remove.new.self c.swap_remove.ensures.entries c.in-Some.task (sym c.swap_remove.ensures.value ∙ c.in-Some.is)

pub recount-tasks-requires-clause-counted : goal.recount-tasks-requires-clause-counted
recount-tasks-requires-clause-counted g c =
    let m = c.args.tasks.now in
    let there = sym c.swap_remove.ensures.value ∙ c.in-Some.is in
    let sum = count_out m c.args.t c.requires c.swap_remove.new.self c.swap_remove.ensures.entries is_purgeable c.in-Some.task.row (ap row_of_task there) in
    let taken = m.purged in
    let before = ap one c.is_purged.ensures in
    omega (arith, sum, taken, before)

pub recount-tasks-requires-clause-few : goal.recount-tasks-requires-clause-few
recount-tasks-requires-clause-few g c = let few = purged_few c.args.tasks.now in omega (arith, few)

pub invariant_of-tasks : goal.invariant_of-tasks
unfolding task_in
invariant_of-tasks g c =
    let m = c.args.tasks.now in
    let there = sym c.swap_remove.ensures.value ∙ c.in-Some.is in
    let sum = count_out m c.args.t c.requires c.swap_remove.new.self c.swap_remove.ensures.entries is_purgeable c.in-Some.task.row (ap row_of_task there) in
    let taken = m.purged in
    let before = ap one c.is_purged.ensures in
    let now = c.recount-tasks.ensures in
    let small = m.small in
    record {
      sized = m.sized;
      placed = m.placed;
      apart = apart_other m c.args.t c.requires c.swap_remove.new.self _ c.swap_remove.ensures.updates;
      unique = c.swap_remove.ensures.unique;
      counted = kept_less m c.args.t c.requires c.swap_remove.new.self c.swap_remove.ensures.entries c.in-Some.task there;
      small = omega (arith, small);
      purged = omega (arith, sum, taken, before, now);
      named = named_off m c.args.t m.homes.items c.swap_remove.new.self (others_other m c.args.t c.requires c.swap_remove.new.self _ c.swap_remove.ensures.updates)
          (ap (λ o. passes is_purgeable (row_of_task o)) (task_other m c.args.t c.requires c.swap_remove.new.self _ c.swap_remove.ensures.updates));
      roomy = let less = c.swap_remove.ensures.len in let roomy = m.roomy in omega (arith, less, roomy);
    }

pub returns-in-Some-clause-task : goal.returns-in-Some-clause-task
unfolding task_in
returns-in-Some-clause-task g c = task_other c.args.tasks.now c.args.t c.requires c.swap_remove.new.self _ c.swap_remove.ensures.updates

pub returns-in-Some-clause-count : goal.returns-in-Some-clause-count
unfolding task_in
returns-in-Some-clause-count g c = count_less c.args.tasks.now c.args.t c.requires c.swap_remove.new.self c.swap_remove.ensures.entries

pub returns-in_default-clause-task : goal.returns-in_default-clause-task
unfolding task_in
returns-in_default-clause-task g c = task_other c.args.tasks.now c.args.t c.requires c.swap_remove.new.self _ c.swap_remove.ensures.updates

pub returns-in_default-clause-count : goal.returns-in_default-clause-count
unfolding task_in
returns-in_default-clause-count g c = count_less c.args.tasks.now c.args.t c.requires c.swap_remove.new.self c.swap_remove.ensures.entries
