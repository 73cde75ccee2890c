use Rattle.std.proofs.Common.{rules, sym, ap, ◌∙◌}
use Rattle.tp_tasks.specs.Groups.{done_of_group, pending_of_group}
use Rattle.tp_tasks.proofs.Places.{written, still_there}
use Rattle.tp_tasks.proofs.groups.take_done.Goals as goal

pub returns-clause-done : goal.returns-clause-done
returns-clause-done c =
    let e = c.in_ok-place.ensures in
    let is = written c.args.groups.now c.in_ok-place.place c.args.g (sym e.index) c.index_mut-group.result.now _ e.unique c.index_mut-group.ensures.value e.within in
    c.drop_empty.ensures.done c.args.g ∙ ap done_of_group is.1 ∙ search rules

pub returns-clause-pending : goal.returns-clause-pending
returns-clause-pending c =
    let e = c.in_ok-place.ensures in
    let is = written c.args.groups.now c.in_ok-place.place c.args.g (sym e.index) c.index_mut-group.result.now _ e.unique c.index_mut-group.ensures.value e.within in
    c.drop_empty.ensures.pending c.args.g ∙ ap pending_of_group is.1 ∙ sym (ap pending_of_group (sym e.value ∙ c.index_mut-group.ensures.value))

pub returns-clause-others : goal.returns-clause-others
returns-clause-others c = λ h ne.
    let e = c.in_ok-place.ensures in
    let is = written c.args.groups.now c.in_ok-place.place c.args.g (sym e.index) c.index_mut-group.result.now _ e.unique c.index_mut-group.ensures.value e.within in
    c.drop_empty.ensures.others c.args.g (still_there c.args.groups.now c.in_ok-place.place c.args.g (sym e.index) _) h ne ∙ is.2 h ne
