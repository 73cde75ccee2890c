use Rattle.std.proofs.Common.{Some, Ok, Err, sym, subst}
use Rattle.tp_machine.specs.Tallies.{Answers}
use Rattle.tp_machine.proofs.Tallying.{counted_by, step_answered, step_refused}
use Rattle.tp_machine.proofs.tallies.answered.Goals as goal

pub returns-in-Ok-clause-answer : goal.returns-in-Ok-clause-answer
returns-in-Ok-clause-answer c =
    let old = c.args.machine.now in
    let new = c.answer.new.machine in
    subst (λ a. Answers counted_by old new a (Ok (Some c.in-Ok.did))) (sym c.in-Step.is) (step_answered counted_by old new c.in-Step.by c.in-Step.ask c.in-Ok.did c.in-Ok.ensures.step)

pub returns-in-Err-clause-answer : goal.returns-in-Err-clause-answer
returns-in-Err-clause-answer c =
    let old = c.args.machine.now in
    let new = c.answer.new.machine in
    subst (λ a. Answers counted_by old new a (Err c.in-Err.error)) (sym c.in-Step.is)
    (step_refused counted_by old new c.in-Step.by c.in-Step.ask c.in-Err.error c.in-Err.ensures.refused c.in-Err.ensures.unchanged)
