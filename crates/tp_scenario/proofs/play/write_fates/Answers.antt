use Rattle.std.proofs.Common.{◌<◌, arith, length}
use Rattle.tp_record.specs.State.{state}
use Rattle.tp_scenario.proofs.EndLaws.{fates_on}
use Rattle.tp_scenario.proofs.play.write_fates.Goals as goal

pub loop-task-preserved : goal.loop-task-preserved
loop-task-preserved c = record {
  all = c.loop-task.invariant.all;
  fates = λ p is.
      let rows = (state p.config p.history).tasks in
      let below : c.loop-task.task < length rows = omega (arith, c.loop-task-test.true, c.loop-task.invariant.all p is) in
      fates_on c.args.output.now.written.items c.loop-task.output.written.items c.fate.new.self.written.items rows c.loop-task.task c.fate-fate.result
      (c.loop-task.invariant.fates p is) c.in_ok-fate.ensures.ok (c.fate-fate.ensures p is below) below;
}
