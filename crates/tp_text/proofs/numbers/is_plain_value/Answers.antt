use Rattle.std.proofs.Common.{arith}
use Rattle.std.proofs.lemmas.Str.Pattern.{strip_prefix_char}
use Rattle.tp_text.proofs.NumberTexts.{minus_first}
use Rattle.tp_text.proofs.numbers.is_plain_value.Goals as goal

pub returns-in-None : goal.returns-in-None
returns-in-None c =
    let none = minus_first c.args.text.now (rw c.in-None.is at (strip_prefix_char 45 c.args.text.now c.strip_prefix.result c.strip_prefix.ensures.cases (omega arith))) in
    ((λ yes. ((λ e. absurd (none e)), (λ e. c.is_plain.ensures.0 yes))), (λ plain. c.is_plain.ensures.1 (plain.1 none)))
