use Rattle.std.proofs.Common.{◌-◌, sym, ap, ◌∙◌}
use Rattle.tp_tasks.specs.Groups.{done_of_group, pending_of_group}
use Rattle.tp_tasks.proofs.Places.{written, still_there}
use Rattle.tp_tasks.proofs.groups.leave.Goals as goal

pub returns-in-Some-clause-done : goal.returns-in-Some-clause-done
returns-in-Some-clause-done c =
    let e = c.in-Some.ensures in
    let is = written c.args.groups.now c.in-Some.place c.args.g (sym e.index) c.index_mut.result.now _ e.unique c.index_mut.ensures.value e.within in
    c.drop_empty.ensures.done c.args.g ∙ ap done_of_group is.1 ∙ sym (ap done_of_group (sym e.value ∙ c.index_mut.ensures.value))

pub returns-in-Some-clause-pending : goal.returns-in-Some-clause-pending
returns-in-Some-clause-pending c =
    let e = c.in-Some.ensures in
    let is = written c.args.groups.now c.in-Some.place c.args.g (sym e.index) c.index_mut.result.now _ e.unique c.index_mut.ensures.value e.within in
    c.drop_empty.ensures.pending c.args.g ∙ ap pending_of_group is.1 ∙ sym (ap (λ o. pending_of_group o - 1) (sym e.value ∙ c.index_mut.ensures.value))

pub returns-in-Some-clause-others : goal.returns-in-Some-clause-others
returns-in-Some-clause-others c = λ h ne.
    let e = c.in-Some.ensures in
    let is = written c.args.groups.now c.in-Some.place c.args.g (sym e.index) c.index_mut.result.now _ e.unique c.index_mut.ensures.value e.within in
    c.drop_empty.ensures.others c.args.g (still_there c.args.groups.now c.in-Some.place c.args.g (sym e.index) _) h ne ∙ is.2 h ne
