use Rattle.std.proofs.Common.{refl}
use Rattle.std.specs.Prelude.{false}
use Rattle.tp_tasks.specs.Table.{task_in}
use Rattle.tp_tasks.proofs.Rows.{kept_task, submitted_stays, counted_stays, grouped_stays, sets_row}
use Rattle.tp_tasks.proofs.Listed.{listed_stays}
use Rattle.tp_tasks.proofs.tasks.Tasks.clear_second.Goals as goal

pub invariant_of-self : goal.invariant_of-self
invariant_of-self g c =
    let old = c.args.self.now in
    let kept = kept_task (task_in old.tasks c.args.t.0) c.requires in
    let set = c.clear_second.ensures kept.0 kept.1 in
    record {
      small = old.small;
      below = submitted_stays old.tasks c.clear_second.new.tasks c.args.t.0 kept.0 _ kept.1 set old.submitted old.below;
      counted = counted_stays old.tasks c.clear_second.new.tasks c.args.t.0 kept.0 _ kept.1 set refl refl old.fates old.submitted old.counted;
      listed = listed_stays old.tasks c.clear_second.new.tasks c.args.t.0 kept.0 _ kept.1 set refl refl refl old.groups old.listed;
      grouped = grouped_stays old.tasks c.clear_second.new.tasks c.args.t.0 kept.0 _ kept.1 set refl refl old.groups old.grouped;
    }

pub returns-clause-set : goal.returns-clause-set
returns-clause-set g c =
    let old = c.args.self.now in
    let kept = kept_task (task_in old.tasks c.args.t.0) c.requires in
    sets_row old _ c.args.t.0 (λ r. record r { second = false }) kept.0 kept.0.listed kept.1 (c.clear_second.ensures kept.0 kept.1) refl
