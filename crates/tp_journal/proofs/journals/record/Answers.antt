use Rattle.std.proofs.Common.{◌∙◌}
use Rattle.tp_journal.proofs.Fronts.{begun, failed_so}
use Rattle.tp_journal.proofs.journals.record.Goals as goal

pub returns-in-Ok : goal.returns-in-Ok
returns-in-Ok g c =
    let before = g.W.Write.contents c.args.writer.now.writer in
    let config = g.G.PoolNaming.config in
    c.keep.ensures before (begun g.W.Write.contents before config c.args.sight.now c.begin.new.self (c.in-Ok.ensures.begun config (c.as_slice.ensures.value ∙ c.args.first.now.is_head)))

pub returns-in-Err : goal.returns-in-Err
returns-in-Err g c none = absurd (failed_so c.begin.new.self.failure c.in-Err.ensures.refused.1 none)
