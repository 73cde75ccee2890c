use Rattle.std.proofs.Common.{Some, arith}
use Rattle.std.proofs.lemmas.Str.Pattern.{strip_prefix_char}
use Rattle.tp_scenario.proofs.OutcomeTexts.{no_outcome, marked, marked_fault}
use Rattle.tp_scenario.proofs.reading.outcome.Goals as goal

pub returns-in_err-value-in-None : goal.returns-in_err-value-in-None
returns-in_err-value-in-None c =
    let none = rw c.in-None.is at (strip_prefix_char 33 c.args.text.now c.strip_prefix.result c.strip_prefix.ensures.cases (omega arith)) in
    rw c.from_residual.ensures (no_outcome c.args.text.now c.in_err-value-in-None.ensures (λ n fits. none _))

pub returns-in_err-number-in-Some : goal.returns-in_err-number-in-Some
returns-in_err-number-in-Some c =
    let begins = strip_prefix_char 33 c.args.text.now (Some c.in-Some.code) c.in-Some.ensures.cases (omega arith) in
    rw c.from_residual-in_err-number-in-Some.ensures (no_outcome c.args.text.now (marked _ _ begins) (marked_fault _ _ begins c.in_err-number-in-Some.ensures))
