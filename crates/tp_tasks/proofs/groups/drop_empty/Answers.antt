use Rattle.std.proofs.Common.{sym}
use Rattle.tp_tasks.proofs.Places.{others_stay}
use Rattle.tp_tasks.proofs.groups.drop_empty.Goals as goal

pub returns-then-is_empty-clause-others : goal.returns-then-is_empty-clause-others
returns-then-is_empty-clause-others c = λ g place.
    others_stay c.args.groups.now c.args.place g place c.swap_remove_index.new.self c.swap_remove_index.result c.in-Some.field-0-0.now c.in-Some.group.now (sym c.in-Some.ensures.entry) c.swap_remove_index.ensures.entry c.swap_remove_index.ensures.updates
