use Rattle.std.proofs.Common.{sym, ◌∙◌, ap, ◌++◌, arith}
use Rattle.std.proofs.lemmas.Str.Pattern.{strip_prefix_char}
use Rattle.tp_text.proofs.PoolLaws.{behind_space}
use Rattle.tp_text.proofs.words.behind.Goals as goal

pub returns : goal.returns
returns c =
    let cut = c.in_ok-strip_prefix.ensures.cases in
    behind_space c.args.text.now c.args.word.now c.in_ok-strip_prefix.field-0.now c.strip_prefix-2.result (cut.1.1 ∙ ap (λ v. c.args.word.now ++ v) (sym cut.2))
    (strip_prefix_char 32 c.in_ok-strip_prefix.field-0.now c.strip_prefix-2.result c.strip_prefix-2.ensures.cases (omega arith))
