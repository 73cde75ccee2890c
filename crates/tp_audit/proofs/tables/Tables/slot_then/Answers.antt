use Rattle.std.proofs.Common.{[], ap, ◌∙◌}
use Rattle.tp_record.specs.State.{slot_after}
use Rattle.tp_audit.specs.Readings.{read}
use Rattle.tp_audit.specs.Tables.{shown}
use Rattle.tp_audit.proofs.tables.Tables.slot_then.Goals as goal

pub returns : goal.returns
returns c =
    let old = c.args.self.now in
    c.slot_after.ensures []
    ∙ ap (λ rows. slot_after c.args.did (read old.moment rows []) c.args.w.0 c.get.result) c.deref.ensures.value
    ∙ ap (slot_after c.args.did (shown old) c.args.w.0) c.get.ensures
