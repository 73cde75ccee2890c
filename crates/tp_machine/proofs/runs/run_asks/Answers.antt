use Rattle.std.proofs.Common.{[], ◌∙◌, arith, sym, subst}
use Rattle.tp_types.specs.declared.tasks.TheConstants.{WIDEST}
use Rattle.tp_machine.proofs.Running.{HasRun, has_run_next, none_run, none_promised, ran_all, ran_lawful}
use Rattle.tp_machine.proofs.runs.run_asks.Goals as goal

pub loop-by-init : goal.loop-by-init
loop-by-init c =
    let m = c.in-Ok.machine in
    let made = c.in-Ok.ensures in
    let room = c.in-Ok-with_capacity.ensures.capacity in
    let len = c.in-Ok-with_capacity.ensures.len in
    record {
      run = subst (λ xs. HasRun c.args.config [] xs m) (sym c.in-Ok-with_capacity.ensures.items) (none_run c.args.config m made.stands made.config);
      promises = none_promised WIDEST m made.promises;
      places = omega (arith, room);
      count = omega (arith, len);
    }

pub answer-requires : goal.answer-requires
answer-requires c = c.loop-by.invariant.promises

pub push_reserved-requires : goal.push_reserved-requires
push_reserved-requires c = let i = c.loop-by.invariant in let n = i.count in let m = i.places in let t = c.loop-by-test.true in omega (arith, n, m, t)

pub loop-by-preserved : goal.loop-by-preserved
loop-by-preserved c =
    let i = c.loop-by.invariant in
    let n = i.count in
    let m = i.places in
    let room = c.push_reserved.ensures.capacity in
    let len = c.push_reserved.ensures.len in
    record {
      run = has_run_next c.args.config c.args.asks.now c.loop-by.by-index _ c.loop-by.answers.items c.push_reserved.new.self.items c.loop-by.machine c.answer.new.machine c.answer.result
          i.run c.loop-by-test.true c.push_reserved.ensures.items c.answer.ensures.step c.answer.ensures.refused c.answer.ensures.unchanged;
      promises = c.answer.ensures.promises;
      places = omega (arith, m, room);
      count = omega (arith, n, len);
    }

pub returns-clause-run : goal.returns-clause-run
returns-clause-run c =
    ran_all c.args.config c.args.asks.now c.loop-by.by-index c.loop-by.answers.items c.loop-by.machine c.loop-by.invariant.run c.in-Ok-unpacked.entries.items (c.in-Ok-unpacked.ensures ∙ c.entries.ensures) c.loop-by-test.false

pub returns-clause-lawful : goal.returns-clause-lawful
returns-clause-lawful c =
    ran_lawful c.args.config c.args.asks.now c.loop-by.by-index c.loop-by.answers.items c.loop-by.machine c.loop-by.invariant.run c.in-Ok-unpacked.entries.items (c.in-Ok-unpacked.ensures ∙ c.entries.ensures) c.in-Ok.ensures.good
