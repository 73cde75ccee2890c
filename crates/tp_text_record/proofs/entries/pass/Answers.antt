use Rattle.std.proofs.Common.{None, Some, arith, ap, ◌∙◌, ◌∷◌}
use Rattle.std.specs.Fmt.{decimal}
use Rattle.std.proofs.lemmas.Str.Pattern.{strip_prefix_char}
use Rattle.tp_text_record.proofs.EntryLaws.{no_pass}
use Rattle.tp_text_record.proofs.entries.pass.Goals as goal

pub returns-in_err-strip_prefix : goal.returns-in_err-strip_prefix
returns-in_err-strip_prefix c =
    let none = strip_prefix_char 112 c.args.word.now None c.in_err-strip_prefix.ensures.cases (omega arith) in
    rw c.from_residual.ensures (λ v fits. none (decimal v))

pub returns-then-by-eq0 : goal.returns-then-by-eq0
returns-then-by-eq0 c =
    let begins = strip_prefix_char 112 c.args.word.now (Some c.in_ok-strip_prefix.field-0) c.in_ok-strip_prefix.ensures.cases (omega arith) in
    no_pass c.args.word.now c.in_ok-by.by (begins ∙ ap (λ x. 112 ∷ x) c.in_ok-by.ensures.1) c.in_ok-by.ensures.0 c.if-by-eq0.true
