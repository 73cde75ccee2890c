use Rattle.std.proofs.Common.{◌≡◌, ap, arith, reverse}
use Rattle.tp_record.specs.Fields.{rank}
use Rattle.tp_record.specs.State.{State}
use Rattle.tp_audit_plain.proofs.Judged.{rank-le}
use Rattle.tp_audit_plain.proofs.plain.summary_of.Goals as goal

pub from_rank-requires : goal.from_rank-requires
from_rank-requires c =
    let history = reverse c.args.entries.now in
    let same : c.in_ok-state.state.rank ≡ rank history = ap (λ (s : State). s.rank) c.in_ok-state.ensures.state in
    omega (arith, same, rank-le history)
