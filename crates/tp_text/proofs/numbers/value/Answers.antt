use Rattle.tp_text.proofs.NumberTexts.{value_read, not_plain_value}
use Rattle.tp_text.proofs.numbers.value.Goals as goal

pub returns-then-is_plain_value : goal.returns-then-is_plain_value
returns-then-is_plain_value c = rw c.ok.ensures.value (value_read c.args.text.now c.parse.result (c.is_plain_value.ensures.0 c.if-is_plain_value.true) c.parse.ensures.value.0)

pub returns-else-is_plain_value : goal.returns-else-is_plain_value
returns-else-is_plain_value c = not_plain_value c.args.text.now c.is_plain_value.result c.is_plain_value.ensures.1 c.if-is_plain_value.false
