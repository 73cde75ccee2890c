use Rattle.std.proofs.Common.{◌∙◌, ap, sym}
use Rattle.tp_c.specs.Numbers.{answer_of}
use Rattle.tp_c.proofs.numbers.answer_of.Goals as goal

pub returns-in-Verdict : goal.returns-in-Verdict
returns-in-Verdict c = c.ruled.ensures c.in-Verdict.field-1 ∙ ap answer_of (sym c.in-Verdict.is)
