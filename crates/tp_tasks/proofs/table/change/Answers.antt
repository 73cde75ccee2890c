use Rattle.std.proofs.Common.{true, Some, set, ap, sym, refl, ◌∙◌, arith}
use Rattle.std.specs.Prelude.{nat_eq}
use Rattle.std.proofs.lemmas.Option.{none-some, same_Some}
use Rattle.indexmap.specs.IndexMap.{get}
use Rattle.tp_tasks.specs.Homes.{is_purgeable, passes, row_of_task, or_beside}
use Rattle.tp_tasks.specs.Table.{task_in}
use Rattle.tp_tasks.proofs.AtHome.{one, recounted_few, lent, lent_home, held_same, found_home, change_home}
use Rattle.tp_tasks.proofs.Noted.{others_noted, was_noted}
use Rattle.tp_tasks.proofs.table.change.Goals as goal

pub renote-requires-clause-others : goal.renote-requires-clause-others
unfolding task_in
renote-requires-clause-others g c =
    let m = c.args.tasks.now in
    let h = c.in-Some.home in
    let at = lent_home m.homes.items c.place_of-place.result c.args.t c.index_mut.result.now (sym c.is_at.ensures ∙ c.if-is_at.true) c.index_mut.ensures.value h c.in-Some.is in
    let x = change_home m c.args.t c.place_of-place.result c.place_of-place.ensures h at.0 at.1 c.write-done.new.arg2 in
    others_noted m c.args.t _ m.beside x.others

pub renote-requires-clause-before : goal.renote-requires-clause-before
renote-requires-clause-before g c = λ is.
    let m = c.args.tasks.now in
    let h = c.in-Some.home in
    let at = lent_home m.homes.items c.place_of-place.result c.args.t c.index_mut.result.now (sym c.is_at.ensures ∙ c.if-is_at.true) c.index_mut.ensures.value h c.in-Some.is in
    was_noted m c.args.t (ap (λ o. passes is_purgeable (row_of_task o)) (found_home m c.args.t c.place_of-place.result c.place_of-place.ensures h at.0 at.1) ∙ sym c.is_purged-before.ensures ∙ is)

pub renote-requires-clause-after : goal.renote-requires-clause-after
unfolding task_in
renote-requires-clause-after g c =
    let m = c.args.tasks.now in
    let h = c.in-Some.home in
    let at = lent_home m.homes.items c.place_of-place.result c.args.t c.index_mut.result.now (sym c.is_at.ensures ∙ c.if-is_at.true) c.index_mut.ensures.value h c.in-Some.is in
    let w = c.write-done.new.arg2 in
    let x = change_home m c.args.t c.place_of-place.result c.place_of-place.ensures h at.0 at.1 w in
    ap (λ o. passes is_purgeable (row_of_task o)) (x.task ∙ ap (λ o. or_beside o (get nat_eq m.beside c.args.t)) (held_same (record { number = h.number; task = w }) c.args.t at.1)) ∙ sym c.is_purged-after.ensures

pub renote-requires-clause-room : goal.renote-requires-clause-room
unfolding task_in
renote-requires-clause-room g c =
    let m = c.args.tasks.now in
    let h = c.in-Some.home in
    let at = lent_home m.homes.items c.place_of-place.result c.args.t c.index_mut.result.now (sym c.is_at.ensures ∙ c.if-is_at.true) c.index_mut.ensures.value h c.in-Some.is in
    let x = change_home m c.args.t c.place_of-place.result c.place_of-place.ensures h at.0 at.1 c.write-done.new.arg2 in
    let len = x.len in
    let roomy = m.roomy in
    omega (arith, len, roomy)

pub recount-tasks-requires-clause-few : goal.recount-tasks-requires-clause-few
unfolding task_in
recount-tasks-requires-clause-few g c =
    let m = c.args.tasks.now in
    let i = c.place_of-place.result in
    let h = c.in-Some.home in
    let at = lent_home m.homes.items i c.args.t c.index_mut.result.now (sym c.is_at.ensures ∙ c.if-is_at.true) c.index_mut.ensures.value h c.in-Some.is in
    let w = c.write-done.new.arg2 in
    let x = change_home m c.args.t i c.place_of-place.ensures h at.0 at.1 w in
    let same = x.count (λ _. true) in
    let all = m.counted in
    let sum = x.count is_purgeable in
    let taken = m.purged in
    let before = ap one c.is_purged-before.ensures in
    let after = ap one c.is_purged-after.ensures in
    recounted_few m (set m.homes.items i (Some (record { number = h.number; task = w }))) m.beside c.is_purged-before.result c.is_purged-after.result
    (omega (arith, sum, taken, before, after)) (omega (arith, same, all))

pub invariant_of-tasks : goal.invariant_of-tasks
unfolding task_in
invariant_of-tasks g c =
    let m = c.args.tasks.now in
    let h = c.in-Some.home in
    let at = lent_home m.homes.items c.place_of-place.result c.args.t c.index_mut.result.now (sym c.is_at.ensures ∙ c.if-is_at.true) c.index_mut.ensures.value h c.in-Some.is in
    let x = change_home m c.args.t c.place_of-place.result c.place_of-place.ensures h at.0 at.1 c.write-done.new.arg2 in
    let same = x.count (λ _. true) in
    let all = m.counted in
    let sum = x.count is_purgeable in
    let taken = m.purged in
    let before = ap one c.is_purged-before.ensures in
    let after = ap one c.is_purged-after.ensures in
    let now = c.recount-tasks.ensures in
    record {
      sized = x.sized;
      placed = x.placed;
      apart = x.apart;
      unique = m.unique;
      counted = omega (arith, same, all);
      small = m.small;
      purged = omega (arith, sum, taken, before, after, now);
      named = c.renote.ensures.named;
      roomy = let len = x.len in let roomy = m.roomy in let kept = c.renote.ensures.room in omega (arith, len, roomy, kept);
    }

pub invariant_of-tasks-in-None : goal.invariant_of-tasks-in-None
invariant_of-tasks-in-None g c =
    let x = lent c.args.tasks.now.homes.items c.place_of-place.result c.args.t c.index_mut.result.now (sym c.is_at.ensures ∙ c.if-is_at.true) c.index_mut.ensures.value in
    absurd (none-some x.0 (sym c.in-None.is ∙ x.1))

pub returns-in-Some-clause-found : goal.returns-in-Some-clause-found
unfolding task_in
returns-in-Some-clause-found g c = λ v is.
    let m = c.args.tasks.now in
    let i = c.place_of-place.result in
    let h = c.in-Some.home in
    let at = lent_home m.homes.items i c.args.t c.index_mut.result.now (sym c.is_at.ensures ∙ c.if-is_at.true) c.index_mut.ensures.value h c.in-Some.is in
    let same = same_Some h.task v (sym (found_home m c.args.t i c.place_of-place.ensures h at.0 at.1) ∙ is) in
    let w = c.write-done.new.arg2 in
    let x = change_home m c.args.t i c.place_of-place.ensures h at.0 at.1 w in (
      _,
      w,
      refl,
      record { shown = _; shows = same; left = _; met = c.write-done.ensures; leaves = refl },
      rw (sym same) record {
        task = x.task ∙ ap (λ o. or_beside o (get nat_eq m.beside c.args.t)) (held_same (record { number = h.number; task = w }) c.args.t at.1);
        others = x.others;
        count = λ p. let sum = x.count p in omega (arith, sum);
      },
    )

pub returns-in-Some-clause-absent : goal.returns-in-Some-clause-absent
unfolding task_in
returns-in-Some-clause-absent g c = λ none.
    let m = c.args.tasks.now in
    let i = c.place_of-place.result in
    let h = c.in-Some.home in
    let at = lent_home m.homes.items i c.args.t c.index_mut.result.now (sym c.is_at.ensures ∙ c.if-is_at.true) c.index_mut.ensures.value h c.in-Some.is in
    absurd (none-some h.task (sym none ∙ found_home m c.args.t i c.place_of-place.ensures h at.0 at.1))

pub returns-in-None-clause-found : goal.returns-in-None-clause-found
unfolding task_in
returns-in-None-clause-found g c =
    let x = lent c.args.tasks.now.homes.items c.place_of-place.result c.args.t c.index_mut.result.now (sym c.is_at.ensures ∙ c.if-is_at.true) c.index_mut.ensures.value in
    absurd (none-some x.0 (sym c.in-None.is ∙ x.1))
