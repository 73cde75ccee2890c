use Rattle.std.proofs.Common.{true, Some, ap, sym, ◌∙◌, arith}
use Rattle.tp_tasks.specs.Homes.{is_purgeable, passes, row_of_task, home_passes}
use Rattle.tp_tasks.specs.Table.{task_in}
use Rattle.tp_tasks.proofs.AtHome.{one, here, purged_few, is_taken, is_nothing, alone, remove_home, row_home}
use Rattle.tp_tasks.proofs.Noted.{named_off}
use Rattle.tp_tasks.proofs.table.remove.Goals as goal

pub overflow_sub-tasks : goal.overflow_sub-tasks
overflow_sub-tasks g c =
    let m = c.args.tasks.now in
    let h = is_taken c.args.t _ (sym c.is_at.ensures ∙ c.if-is_at.true) in
    let x = remove_home m c.args.t c.place_of-place.result c.place_of-place.ensures h.0 h.1 h.2 in
    let less = x.count (λ _. true) in
    let all = m.counted in
    omega (arith, less, all)

pub recount-tasks-requires-clause-counted : goal.recount-tasks-requires-clause-counted
recount-tasks-requires-clause-counted g c =
    let m = c.args.tasks.now in
    let h = is_taken c.args.t _ (sym c.is_at.ensures ∙ c.if-is_at.true) in
    let x = remove_home m c.args.t c.place_of-place.result c.place_of-place.ensures h.0 h.1 h.2 in
    let sum = x.count is_purgeable in
    let taken = m.purged in
    let before = ap one (c.is_purged_at-before.ensures ∙ ap (home_passes is_purgeable) (here m.homes.items c.place_of-place.result (Some h.0) h.1)) in
    omega (arith, sum, taken, before)

pub recount-tasks-requires-clause-few : goal.recount-tasks-requires-clause-few
recount-tasks-requires-clause-few g c = let few = purged_few c.args.tasks.now in omega (arith, few)

pub invariant_of-tasks : goal.invariant_of-tasks
unfolding task_in
invariant_of-tasks g c =
    let m = c.args.tasks.now in
    let h = is_taken c.args.t _ (sym c.is_at.ensures ∙ c.if-is_at.true) in
    let x = remove_home m c.args.t c.place_of-place.result c.place_of-place.ensures h.0 h.1 h.2 in
    let less = x.count (λ _. true) in
    let all = m.counted in
    let small = m.small in
    let sum = x.count is_purgeable in
    let taken = m.purged in
    let before = ap one (c.is_purged_at-before.ensures ∙ ap (home_passes is_purgeable) (here m.homes.items c.place_of-place.result (Some h.0) h.1)) in
    let now = c.recount-tasks.ensures in
    record {
      sized = x.sized;
      placed = x.placed;
      apart = x.apart;
      unique = m.unique;
      counted = omega (arith, less, all);
      small = omega (arith, less, all, small);
      purged = omega (arith, sum, taken, before, now);
      named = named_off m c.args.t _ m.beside x.others
          (ap (λ o. passes is_purgeable (row_of_task o)) (x.task ∙ is_nothing _ (alone m c.args.t c.place_of-place.result c.place_of-place.ensures h.0 h.1 h.2)));
      roomy = let len = x.len in let roomy = m.roomy in omega (arith, len, roomy);
    }

pub returns-then-is_at-clause-task : goal.returns-then-is_at-clause-task
unfolding task_in
returns-then-is_at-clause-task g c =
    let m = c.args.tasks.now in
    let h = is_taken c.args.t _ (sym c.is_at.ensures ∙ c.if-is_at.true) in
    let x = remove_home m c.args.t c.place_of-place.result c.place_of-place.ensures h.0 h.1 h.2 in
    x.task ∙ is_nothing _ (alone m c.args.t c.place_of-place.result c.place_of-place.ensures h.0 h.1 h.2)

pub returns-then-is_at-clause-others : goal.returns-then-is_at-clause-others
unfolding task_in
returns-then-is_at-clause-others g c =
    let h = is_taken c.args.t _ (sym c.is_at.ensures ∙ c.if-is_at.true) in
    let x = remove_home c.args.tasks.now c.args.t c.place_of-place.result c.place_of-place.ensures h.0 h.1 h.2 in
    x.others

pub returns-then-is_at-clause-count : goal.returns-then-is_at-clause-count
unfolding task_in
returns-then-is_at-clause-count g c = λ p r is.
    let m = c.args.tasks.now in
    let h = is_taken c.args.t _ (sym c.is_at.ensures ∙ c.if-is_at.true) in
    let x = remove_home m c.args.t c.place_of-place.result c.place_of-place.ensures h.0 h.1 h.2 in
    let same = ap (λ k. one (p k)) (row_home m c.args.t c.place_of-place.result c.place_of-place.ensures h.0 h.1 h.2 r is) in
    let sum = x.count p in
    omega (arith, same, sum)
