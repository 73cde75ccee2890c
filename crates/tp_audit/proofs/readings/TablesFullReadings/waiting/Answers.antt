use Rattle.std.proofs.Common.{length, arith, ap, ◌∙◌}
use Rattle.tp_record.specs.State.{State}
use Rattle.tp_audit.proofs.Standing.{queue_shown}
use Rattle.tp_audit.proofs.readings.TablesFullReadings.waiting.Goals as goal

pub overflow_cast-result : goal.overflow_cast-result
overflow_cast-result c =
    let few = queue_shown c.args._config.now c.requires.0 c.args.self.now c.requires.1 in
    let n = c.len.ensures in
    omega (arith, few, n)

pub returns : goal.returns
returns c = λ s sh. c.len.ensures ∙ ap (λ (x : State). length x.queue) sh.kept
