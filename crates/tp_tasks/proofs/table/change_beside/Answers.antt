use Rattle.std.proofs.Common.{true, ap, sym, refl, ◌∙◌, arith}
use Rattle.std.proofs.lemmas.Option.{none-some, same_Some}
use Rattle.tp_tasks.specs.Homes.{is_purgeable, passes, row_of_task}
use Rattle.tp_tasks.specs.Table.{task_in}
use Rattle.tp_tasks.proofs.AtHome.{one, recounted_few, kept_beside, updates_through, count_through, apart_other, task_other, others_other}
use Rattle.tp_tasks.proofs.Noted.{others_noted, was_noted}
use Rattle.tp_tasks.proofs.table.change_beside.Goals as goal

pub renote-requires-clause-others : goal.renote-requires-clause-others
unfolding task_in
renote-requires-clause-others g c =
    let m = c.args.tasks.now in
    let w = c.write-done.new.arg2 in
    let beside = c.get_mut.follows.lender w in
    let updates = updates_through m c.args.t c.requires.away beside c.in-Some.task.now w (sym c.in-Some.ensures.value) (c.get_mut.follows.holds w) in
    others_noted m c.args.t m.homes.items beside (others_other m c.args.t c.requires.away beside _ updates)

pub renote-requires-clause-before : goal.renote-requires-clause-before
renote-requires-clause-before g c = λ is.
    let m = c.args.tasks.now in
    was_noted m c.args.t (ap (λ o. passes is_purgeable (row_of_task o)) (kept_beside m c.args.t c.requires.away m.beside ∙ sym c.in-Some.ensures.value) ∙ sym c.is_purged-before.ensures ∙ is)

pub renote-requires-clause-after : goal.renote-requires-clause-after
unfolding task_in
renote-requires-clause-after g c =
    let m = c.args.tasks.now in
    let w = c.write-done.new.arg2 in
    let beside = c.get_mut.follows.lender w in
    let updates = updates_through m c.args.t c.requires.away beside c.in-Some.task.now w (sym c.in-Some.ensures.value) (c.get_mut.follows.holds w) in
    ap (λ o. passes is_purgeable (row_of_task o)) (task_other m c.args.t c.requires.away beside _ updates) ∙ sym c.is_purged-after.ensures

pub renote-requires-clause-room : goal.renote-requires-clause-room
renote-requires-clause-room g c =
    let same = (c.get_mut.follows.holds c.write-done.new.arg2).2 in
    let roomy = c.args.tasks.now.roomy in
    omega (arith, same, roomy)

pub recount-tasks-requires-clause-few : goal.recount-tasks-requires-clause-few
unfolding task_in
recount-tasks-requires-clause-few g c =
    let m = c.args.tasks.now in
    let w = c.write-done.new.arg2 in
    let beside = c.get_mut.follows.lender w in
    let there = sym c.in-Some.ensures.value in
    let count = count_through m c.args.t c.requires.away beside c.in-Some.task.now w there (c.get_mut.follows.holds w) in
    let same = count (λ _. true) in
    let all = m.counted in
    let sum = count is_purgeable in
    let taken = m.purged in
    let before = ap one c.is_purged-before.ensures in
    let after = ap one c.is_purged-after.ensures in
    recounted_few m m.homes.items beside c.is_purged-before.result c.is_purged-after.result (omega (arith, sum, taken, before, after)) (omega (arith, same, all))

pub invariant_of-tasks : goal.invariant_of-tasks
unfolding task_in
invariant_of-tasks g c =
    let m = c.args.tasks.now in
    let w = c.write-done.new.arg2 in
    let beside = c.get_mut.follows.lender w in
    let there = sym c.in-Some.ensures.value in
    let updates = updates_through m c.args.t c.requires.away beside c.in-Some.task.now w there (c.get_mut.follows.holds w) in
    let same = count_through m c.args.t c.requires.away beside c.in-Some.task.now w there (c.get_mut.follows.holds w) (λ _. true) in
    let all = m.counted in
    let sum = count_through m c.args.t c.requires.away beside c.in-Some.task.now w there (c.get_mut.follows.holds w) is_purgeable in
    let taken = m.purged in
    let before = ap one c.is_purged-before.ensures in
    let after = ap one c.is_purged-after.ensures in
    let now = c.recount-tasks.ensures in
    record {
      sized = m.sized;
      placed = m.placed;
      apart = apart_other m c.args.t c.requires.away beside _ updates;
      unique = (c.get_mut.follows.holds w).4;
      counted = omega (arith, same, all);
      small = m.small;
      purged = omega (arith, sum, taken, before, after, now);
      named = c.renote.ensures.named;
      roomy = let same = (c.get_mut.follows.holds w).2 in let roomy = m.roomy in let kept = c.renote.ensures.room in omega (arith, same, roomy, kept);
    }

pub returns-in-Some-clause-found : goal.returns-in-Some-clause-found
unfolding task_in
returns-in-Some-clause-found g c = λ v is.
    let m = c.args.tasks.now in
    let k = c.in-Some.task.now in
    let w = c.write-done.new.arg2 in
    let beside = c.get_mut.follows.lender w in
    let there = sym c.in-Some.ensures.value in
    let through = c.get_mut.follows.holds w in
    let updates = updates_through m c.args.t c.requires.away beside k w there through in
    let same = same_Some k v (sym (kept_beside m c.args.t c.requires.away beside ∙ there) ∙ is) in (
      _,
      w,
      refl,
      record { shown = _; shows = same; left = _; met = c.write-done.ensures; leaves = refl },
      rw (sym same) record {
        task = task_other m c.args.t c.requires.away beside _ updates;
        others = others_other m c.args.t c.requires.away beside _ updates;
        count = λ p. let sum = count_through m c.args.t c.requires.away beside k w there through p in omega (arith, sum);
      },
    )

pub returns-in-None-clause-found : goal.returns-in-None-clause-found
unfolding task_in
returns-in-None-clause-found g c = λ v is.
    let m = c.args.tasks.now in
    absurd (none-some v (c.in-None.ensures.value ∙ sym (kept_beside m c.args.t c.requires.away m.beside) ∙ is))
