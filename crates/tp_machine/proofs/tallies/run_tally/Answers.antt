use Rattle.std.proofs.Common.{[], arith, sym, subst}
use Rattle.tp_types.specs.declared.tasks.TheConstants.{WIDEST}
use Rattle.tp_record.specs.Terms.{without_end}
use Rattle.tp_machine.proofs.Running.{none_promised}
use Rattle.tp_machine.proofs.Tallying.{counted_by, HasTallied, has_tallied_next, none_tallied, tallied_all}
use Rattle.tp_machine.proofs.tallies.run_tally.Goals as goal

pub loop-ask-init : goal.loop-ask-init
loop-ask-init c =
    let m = c.in-Ok.machine in
    let made = c.in-Ok.ensures in
    let room = c.in-Ok-with_capacity.ensures.capacity in
    let len = c.in-Ok-with_capacity.ensures.len in
    record {
      run = subst (λ xs. HasTallied counted_by (without_end c.args.config) [] xs m) (sym c.in-Ok-with_capacity.ensures.items) (none_tallied counted_by (without_end c.args.config) m made.stands made.config);
      promises = none_promised WIDEST m made.promises;
      places = omega (arith, room);
      count = omega (arith, len);
    }

pub answered-requires : goal.answered-requires
answered-requires c = c.loop-ask.invariant.promises

pub push_reserved-requires : goal.push_reserved-requires
push_reserved-requires c = let i = c.loop-ask.invariant in let n = i.count in let m = i.places in let t = c.loop-ask-test.true in omega (arith, n, m, t)

pub loop-ask-preserved : goal.loop-ask-preserved
loop-ask-preserved c =
    let i = c.loop-ask.invariant in
    let n = i.count in
    let m = i.places in
    let room = c.push_reserved.ensures.capacity in
    let len = c.push_reserved.ensures.len in
    record {
      run = has_tallied_next counted_by (without_end c.args.config) c.args.asks.now c.loop-ask.ask-index _ c.loop-ask.answers.items c.push_reserved.new.self.items c.loop-ask.machine c.answered.new.machine c.answered.result
          i.run c.loop-ask-test.true c.push_reserved.ensures.items c.answered.ensures.answer c.answered.ensures.config;
      promises = c.answered.ensures.promises;
      places = omega (arith, m, room);
      count = omega (arith, n, len);
    }

pub returns-clause-tallied : goal.returns-clause-tallied
returns-clause-tallied c =
    tallied_all counted_by c.args.config c.args.asks.now c.loop-ask.ask-index c.loop-ask.machine (record { answers = c.loop-ask.answers; counts = c.counts.result; state = c.state.result }) c.loop-ask.invariant.run c.loop-ask-test.false c.counts.ensures c.state.ensures
