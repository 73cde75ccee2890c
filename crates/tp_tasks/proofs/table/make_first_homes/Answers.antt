use Rattle.std.proofs.Common.{true, inr, None, ap, sym, ◌∙◌, length, arith}
use Rattle.std.proofs.lemmas.List.{length-replicate}
use Rattle.tp_record.specs.Lists.{is_among}
use Rattle.tp_tasks.specs.Homes.{is_purgeable, passes, row_of_task}
use Rattle.tp_tasks.proofs.AtHome.{is_nil, made_free, sized_free, placed_free, apart_free, found_free, count_free}
use Rattle.tp_tasks.proofs.table.make_first_homes.Goals as goal

pub invariant_of-tasks : goal.invariant_of-tasks
invariant_of-tasks g c =
    let m = c.args.tasks.now in
    let kept = c.make_room.ensures.kept in
    let roomy = m.roomy in
    record {
      sized = m.sized;
      placed = m.placed;
      apart = m.apart;
      unique = m.unique;
      counted = m.counted;
      small = m.small;
      purged = m.purged;
      named = λ u pass. ap (is_among u) c.make_room.ensures.same ∙ m.named u pass;
      roomy = omega (arith, kept, roomy);
    }

pub invariant_of-tasks-2 : goal.invariant_of-tasks-2
invariant_of-tasks-2 g c =
    let m = c.args.tasks.now in
    let homes = c.add_free.new.homes.items in
    let none = is_nil m.homes.items c.requires.none in
    let made = made_free m.homes.items homes c.args.homes c.add_free.result none ∣ inr c.requires.power ∣₁ c.add_free.ensures.added c.add_free.ensures.same in
    let before = count_free (λ _. true) 0 m.homes.items none in
    let now = count_free (λ _. true) made.0 homes made.2 in
    let all = m.counted in
    let purged_before = count_free is_purgeable 0 m.homes.items none in
    let purged_now = count_free is_purgeable made.0 homes made.2 in
    let taken = m.purged in
    let long = ap length made.2 ∙ length-replicate made.0 None in
    let room = c.in_ok-make_room.ensures.room in
    let beside = c.len.ensures.len in
    let few = made.3 in
    record {
      sized = sized_free homes made.0 made.2 m.beside made.1;
      placed = placed_free homes made.0 made.2 m.beside;
      apart = apart_free homes made.0 made.2 m.beside;
      unique = m.unique;
      counted = omega (arith, all, before, now);
      small = m.small;
      purged = omega (arith, taken, purged_before, purged_now);
      named = λ u pass.
          ap (is_among u) c.make_room.ensures.same
          ∙ m.named u (ap (λ o. passes is_purgeable (row_of_task o)) (found_free m.homes.items 0 none m.beside u ∙ sym (found_free homes made.0 made.2 m.beside u)) ∙ pass);
      roomy = omega (arith, long, few, room, beside);
    }
