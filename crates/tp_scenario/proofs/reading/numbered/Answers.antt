use Rattle.std.proofs.lemmas.Option.{none-some, same_Some}
use Rattle.tp_scenario.specs.Lines.{given_text}
use Rattle.tp_scenario.proofs.SubmissionLaws.{no_numbered}
use Rattle.tp_scenario.proofs.reading.numbered.Goals as goal

pub returns-in_err-number : goal.returns-in_err-number
returns-in_err-number c = rw c.from_residual.ensures (λ p fits. no_numbered given_text _ _ _ c.first_word.ensures p.0 p.1 (λ h f e s. c.in_err-number.ensures h f e) fits.0)

pub returns-in_err-rest : goal.returns-in_err-rest
returns-in_err-rest c = rw c.from_residual-in_err-rest.ensures (λ p fits. no_numbered given_text _ _ _ c.first_word.ensures p.0 p.1 (λ h f e s. let x = rw c.in_err-rest.was at s in none-some _ x) fits.0)

pub returns-in_err-given : goal.returns-in_err-given
returns-in_err-given c = rw c.from_residual-in_err-given.ensures (λ p fits. no_numbered given_text _ _ _ c.first_word.ensures p.0 p.1 (λ h f e s. let x = rw c.in_ok-rest.was at s in c.in_err-given.ensures p.1 fits.1 (same_Some _ _ x)) fits.0)
