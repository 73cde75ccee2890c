use Rattle.tp_scenario.proofs.OutcomeTexts.{given_read, no_given, no_given_on}
use Rattle.tp_scenario.proofs.reading.given.Goals as goal

pub returns-in_err-outcome : goal.returns-in_err-outcome
returns-in_err-outcome c = rw c.from_residual.ensures (no_given _ _ _ c.first_word.ensures c.in_err-outcome.ensures)

pub returns-in_err-priority_said : goal.returns-in_err-priority_said
returns-in_err-priority_said c = rw c.from_residual-in_err-priority_said.ensures (no_given_on _ _ _ c.first_word.ensures c.in_err-priority_said.ensures)

pub returns : goal.returns
returns c = (
  (c.in_ok-outcome.ensures.0, c.in_ok-priority_said.ensures.0),
  given_read _ _ _ c.in_ok-outcome.field-0 c.in_ok-priority_said.field-0 c.first_word.ensures c.in_ok-outcome.ensures.1 c.in_ok-priority_said.ensures.1,
)
