use Rattle.std.proofs.Common.{ap, ◌∙◌}
use Rattle.tp_types.specs.declared.configs.Verdict.TheVariants as verdict
use Rattle.tp_record.specs.declared.entries.Did.TheVariants as did
use Rattle.tp_record.specs.State.{State, state}
use Rattle.tp_record.specs.Step.{leaves_room, retry_of}
use Rattle.tp_audit.specs.Owed.{room_by}
use Rattle.tp_audit.specs.Queued.{tasks_of}
use Rattle.tp_audit.specs.Tables.{shown}
use Rattle.tp_audit.proofs.Standing.{few_shown, due_shown, retry_shown}
use Rattle.tp_audit.proofs.readings.TablesFullReadings.may_retry.Goals as goal

pub has_room-requires-clause-sizes : goal.has_room-requires-clause-sizes
has_room-requires-clause-sizes c = few_shown c.args.config.now c.requires.stands.0 c.args.self.now c.requires.stands.1

pub has_room-requires-clause-due : goal.has_room-requires-clause-due
has_room-requires-clause-due c = due_shown c.args.config.now c.requires.stands.0 c.args.self.now c.requires.stands.1

pub returns-clause-leaves : goal.returns-clause-leaves
returns-clause-leaves c = λ s sh.
    let config = c.args.config.now in
    let self = c.args.self.now in
    let h = c.requires.stands.0 in
    let at = c.requires.stands.1 in
    c.has_room.ensures
    ∙ ap (λ r. room_by config (did.Verdict c.args.t verdict.DiscardOldest r) (shown self) self.due) (c.retry_of-retry.ensures (tasks_of self.queue) c.first.ensures)
    ∙ retry_shown config h self at c.args.t (c.requires.may (state config h) at.shows)
    ∙ ap (λ (x : State). leaves_room config x (did.Verdict c.args.t verdict.DiscardOldest (retry_of x.queue))) sh.kept
