use Rattle.std.proofs.Common.{refl, arith, ap}
use Rattle.std.specs.Prelude.{is_some, true, ◌&&◌}
use Rattle.tp_machine_state.proofs.Rows.{views_new}
use Rattle.tp_machine_state.proofs.Ties.{unqueued, tied_new}
use Rattle.tp_machine_state.proofs.parts.Parts.put_task.Goals as goal

pub returns-clause-tied : goal.returns-clause-tied
returns-clause-tied g c = λ config n tied.
    let p = c.put.ensures in
    let number = p.number in
    tied_new config n c.args.self.now tied c.put.new.self c.put.result.0 _ p.row (ap (λ b. b && true) c.requires.before) refl (ap (λ o. is_some o) p.payload) (unqueued _ (c.args.self.now.tasks.below c.put.result.0 (omega (arith, number)))) p.others
    c.requires.memory.place

pub returns-clause-views : goal.returns-clause-views
returns-clause-views g c = λ v views.
    let p = c.put.ensures in
    let one = p.submitted in
    views_new c.args.self.now c.put.new.self v views c.put.result.0 p.others _ p.number p.row (omega (arith, one)) p.fates p.done
