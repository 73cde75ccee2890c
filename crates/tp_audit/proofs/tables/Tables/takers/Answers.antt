use Rattle.std.proofs.Common.{refl, arith}
use Rattle.tp_audit.specs.SlotTable.{is_at_take}
use Rattle.tp_audit.proofs.Kept.{few}
use Rattle.tp_audit.proofs.tables.Tables.takers.Goals as goal

pub returns-then-self-eq0-clause-few : goal.returns-then-self-eq0-clause-few
returns-then-self-eq0-clause-few c =
    let most = few is_at_take refl c.args.self.now.slots in
    omega (arith, most, c.requires.slots, c.at_take.ensures)
