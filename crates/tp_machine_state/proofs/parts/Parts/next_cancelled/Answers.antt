use Rattle.std.proofs.Common.{ap}
use Rattle.tp_tasks.specs.Table.{row_of_task, promise_of_task, number_of_task, payload_of_task}
use Rattle.tp_machine_state.proofs.Removals.{tied_same}
use Rattle.tp_machine_state.proofs.parts.Parts.next_cancelled.Goals as goal

pub returns-clause-tied : goal.returns-clause-tied
returns-clause-tied g c = λ config n tied.
    let same = c.next_purgeable.ensures.unchanged in
    tied_same config n c.args.self.now tied c.next_purgeable.new.self (λ t. ap row_of_task (same.tasks t)) (λ t. ap promise_of_task (same.tasks t)) (λ t. ap number_of_task (same.tasks t)) (λ t. ap payload_of_task (same.tasks t))
