use Rattle.std.proofs.Common.{arith}
use Rattle.tp_text.proofs.NumberTexts.{plain_read, not_plain}
use Rattle.tp_text.proofs.numbers.long_number.Goals as goal

pub returns-then-is_plain : goal.returns-then-is_plain
returns-then-is_plain c = rw c.ok.ensures.value (plain_read 64 c.args.text.now c.parse.result (omega arith) (c.is_plain.ensures.0 c.if-is_plain.true) c.parse.ensures.value.0)

pub returns-else-is_plain : goal.returns-else-is_plain
returns-else-is_plain c v fits = not_plain c.args.text.now c.is_plain.result c.is_plain.ensures.1 c.if-is_plain.false v (omega arith)
