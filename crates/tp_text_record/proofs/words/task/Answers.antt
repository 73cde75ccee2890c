use Rattle.std.proofs.Common.{None, arith}
use Rattle.std.specs.Fmt.{decimal}
use Rattle.std.proofs.lemmas.Str.Pattern.{strip_prefix_char}
use Rattle.tp_text_record.proofs.words.task.Goals as goal

pub returns-in_err-strip_prefix : goal.returns-in_err-strip_prefix
returns-in_err-strip_prefix c =
    let none = strip_prefix_char 116 c.args.word.now None c.in_err-strip_prefix.ensures.cases (omega arith) in
    rw c.from_residual.ensures (λ v fits. none (decimal v.0))
