use Rattle.std.proofs.Common.{reverse}
use Rattle.tp_record.specs.State.{state}
use Rattle.tp_rules.specs.PlainState.{shown}
use Rattle.tp_rules.proofs.Numbers.{answer_at_least, answer_gives}
use Rattle.tp_rules.proofs.answer.answer.Goals as goal

pub returns-in-Ok-clause-answer : goal.returns-in-Ok-clause-answer
returns-in-Ok-clause-answer c =
    answer_at_least c.args.config.now c.step.result (shown c.in-Ok.now) (state c.args.config.now (reverse c.args.entries.now))
    c.free_slot.result.0 c.args.ask c.in-Ok.ensures.state c.free_slot.ensures c.step.ensures

pub returns-in-Ok-clause-gives : goal.returns-in-Ok-clause-gives
returns-in-Ok-clause-gives c =
    let s = state c.args.config.now (reverse c.args.entries.now) in
    answer_gives c.args.config.now c.step.result s c.args.ask
    (answer_at_least c.args.config.now c.step.result (shown c.in-Ok.now) s
    c.free_slot.result.0 c.args.ask c.in-Ok.ensures.state c.free_slot.ensures c.step.ensures)
