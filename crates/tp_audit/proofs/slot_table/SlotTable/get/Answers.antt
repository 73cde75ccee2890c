use Rattle.std.proofs.Common.{◌∙◌, sym, ap}
use Rattle.tp_record.specs.State.{slot_at}
use Rattle.tp_audit.proofs.Kept.{read}
use Rattle.tp_audit.proofs.slot_table.SlotTable.get.Goals as goal

pub returns : goal.returns
returns c =
    c.copied.ensures ∙ c.get.ensures.value ∙ sym (read c.self.inside.greatest c.self.inside.rows c.args.w.0 c.self.invariant.0)
    ∙ ap (λ s. slot_at s c.args.w.0) c.self.view_is
