use Rattle.std.proofs.Common.{◌+◌, true, length, sym, ap, subst, ◌∙◌, arith}
use Rattle.tp_record.specs.Lists.{is_among}
use Rattle.tp_tasks.specs.Homes.{IsSize, ArePlaced, AreApart, AreKept, ArePurgeable, is_purgeable, passes, row_of_task, found, beside_count}
use Rattle.tp_tasks.specs.Table.{task_in}
use Rattle.tp_tasks.proofs.Doubled.{wide_size, all_spread, doubled, sized_doubled, placed_doubled, apart_doubled, found_doubled, count_doubled}
use Rattle.tp_tasks.proofs.table.double.Goals as goal

pub spread-requires-clause-size : goal.spread-requires-clause-size
spread-requires-clause-size g c =
    let m = c.args.tasks.now in
    wide_size m.homes.items _ c.len-old.result (c.len-old.ensures ∙ m.homes.ok.0) c.in_ok-add_free.ensures.added m.sized

pub invariant_of-tasks : goal.invariant_of-tasks
invariant_of-tasks g c =
    let m = c.args.tasks.now in
    let kept = c.make_room.ensures.kept in
    let roomy = m.roomy in
    record {
      sized = m.sized;
      placed = m.placed;
      apart = m.apart;
      unique = m.unique;
      counted = m.counted;
      small = m.small;
      purged = m.purged;
      named = λ u pass. ap (is_among u) c.make_room.ensures.same ∙ m.named u pass;
      roomy = omega (arith, kept, roomy);
    }

pub invariant_of-tasks-in-Break-branch-2 : goal.invariant_of-tasks-in-Break-branch-2
invariant_of-tasks-in-Break-branch-2 g c =
    let m = c.args.tasks.now in
    let same = sym c.in_err-add_free.ensures.same in
    record {
      sized = subst (λ hs. IsSize (length hs)) same m.sized;
      placed = subst ArePlaced same m.placed;
      apart = subst (λ hs. AreApart hs m.beside) same m.apart;
      unique = m.unique;
      counted = subst (λ hs. AreKept m.count hs m.beside) same m.counted;
      small = m.small;
      purged = subst (λ hs. ArePurgeable m.purgeable hs m.beside) same m.purged;
      named = λ u pass. ap (is_among u) c.make_room.ensures.same ∙ m.named u (ap (λ hs. passes is_purgeable (row_of_task (found hs m.beside u))) same ∙ pass);
      roomy = let len = ap length same in let kept = c.make_room.ensures.kept in let roomy = m.roomy in omega (arith, len, kept, roomy);
    }

pub invariant_of-tasks-2 : goal.invariant_of-tasks-2
unfolding task_in
invariant_of-tasks-2 g c =
    let m = c.args.tasks.now in
    let homes = m.homes.items in
    let now = c.spread.new.homes.items in
    let spread = all_spread homes _ now c.len-old.result (c.len-old.ensures ∙ m.homes.ok.0) c.in_ok-add_free.ensures.added c.spread.ensures in
    let same = count_doubled homes now m.beside c.requires spread (λ _. true) in
    let all = m.counted in
    let sum = count_doubled homes now m.beside c.requires spread is_purgeable in
    let taken = m.purged in
    record {
      sized = sized_doubled homes now m.beside c.requires spread m.sized;
      placed = placed_doubled homes now m.beside c.requires spread m.placed;
      apart = apart_doubled homes now m.beside c.requires spread m.placed m.apart;
      unique = m.unique;
      counted = omega (arith, same, all);
      small = m.small;
      purged = omega (arith, sum, taken);
      named = λ u pass. ap (is_among u) c.make_room.ensures.same ∙ m.named u (ap (λ o. passes is_purgeable (row_of_task o)) (sym (found_doubled homes now m.beside c.requires spread u)) ∙ pass);
      roomy =
          let long = doubled homes now m.beside c.requires spread in
          let fits = c.spread.new.homes.ok.0 in
          let short = c.spread.new.homes.ok.1 in
          let small = c.spread.new.homes.small in
          let old = c.len-old.ensures in
          let len = m.homes.ok.0 in
          let twice = c.saturating_mul.ensures in
          let beside = c.len.ensures.len in
          let room = c.in_ok-make_room.ensures.room in
          omega (arith, long, fits, short, small, old, len, twice, beside, room);
    }

pub returns : goal.returns
unfolding task_in
returns g c =
    let m = c.args.tasks.now in
    let homes = m.homes.items in
    let now = c.spread.new.homes.items in
    let spread = all_spread homes _ now c.len-old.result (c.len-old.ensures ∙ m.homes.ok.0) c.in_ok-add_free.ensures.added c.spread.ensures in
    record {
      task = found_doubled homes now m.beside c.requires spread;
      count = λ p. ap (λ n. n + beside_count p m.beside) (count_doubled homes now m.beside c.requires spread p);
    }
