use Rattle.std.proofs.lemmas.Option.{none-some, same_Some}
use Rattle.tp_types.specs.Verdict.{verdict_name}
use Rattle.tp_scenario.proofs.SubmissionLaws.{no_numbered}
use Rattle.tp_scenario.proofs.reading.ruling.Goals as goal

pub returns-in_err-number : goal.returns-in_err-number
returns-in_err-number c = rw c.from_residual.ensures (λ p fits. no_numbered verdict_name _ _ _ c.first_word.ensures p.0 p.1 (λ h f e s. c.in_err-number.ensures h f e) fits)

pub returns-in_err-rest : goal.returns-in_err-rest
returns-in_err-rest c = rw c.from_residual-in_err-rest.ensures (λ p fits. no_numbered verdict_name _ _ _ c.first_word.ensures p.0 p.1 (λ h f e s. let x = rw c.in_err-rest.was at s in none-some _ x) fits)

pub returns-in_err-verdict : goal.returns-in_err-verdict
returns-in_err-verdict c = rw c.from_residual-in_err-verdict.ensures (λ p fits. no_numbered verdict_name _ _ _ c.first_word.ensures p.0 p.1 (λ h f e s. let x = rw c.in_ok-rest.was at s in c.in_err-verdict.ensures p.1 tt (same_Some _ _ x)) fits)
