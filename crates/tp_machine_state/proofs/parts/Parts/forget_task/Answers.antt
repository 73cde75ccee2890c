use Rattle.std.proofs.Common.{◌<◌, not, ap}
use Rattle.std.specs.Prelude.{nat_lt}
use Rattle.std.proofs.lemmas.Bool.{ltb-true, and_parts}
use Rattle.tp_record.specs.Lists.{is_among}
use Rattle.tp_tasks.specs.Table.{row_of_task}
use Rattle.tp_machine_state.proofs.Rows.{held_row, views_less, tied_forgets}
use Rattle.tp_machine_state.proofs.parts.Parts.forget_task.Goals as goal

pub returns-clause-views : goal.returns-clause-views
returns-clause-views g c = λ v views.
    let old = c.args.self.now in
    let new = c.release.new.self in
    let s = c.release.ensures in
    let held = (held_row old new v views c.args.t.0 c.requires.ended.0 c.requires.ended.1).0 in
    let known : c.args.t.0 < v.submitted = ltb-true c.args.t.0 v.submitted (and_parts (not (is_among c.args.t.0 v.left_out)) (nat_lt c.args.t.0 v.submitted) held).1 in
    views_less old new v views c.args.t.0 s.others known (ap row_of_task s.gone) s.submitted s.fates s.done

pub returns-clause-tied : goal.returns-clause-tied
returns-clause-tied g c = λ config n tied.
    let s = c.release.ensures in
    tied_forgets config n c.args.self.now tied c.release.new.self c.args.t c.requires.unqueued s.gone s.others
