use Rattle.std.proofs.Common.{◌≡◌, ◌++◌, take, length}
use Rattle.tp_record.specs.State.{state}
use Rattle.tp_text.specs.RunText.{fate_lines}
use Rattle.tp_scenario.specs.Answered.{IsAt, Playing}
use Rattle.tp_scenario.proofs.play.write_fates.Given as goal

abbrev pub invariant-loop-task : goal.invariant-loop-task
invariant-loop-task l = record {
  all : (p : Playing) → IsAt l.runner p → l.task-end ≡ length (state p.config p.history).tasks;
  fates : (p : Playing) → IsAt l.runner p → l.output.written.items ≡ l.fn.output.written.items ++ fate_lines 0 (take l.task (state p.config p.history).tasks);
}
