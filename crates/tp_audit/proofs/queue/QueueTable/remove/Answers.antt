use Rattle.std.proofs.Common.{refl}
use Rattle.tp_audit.proofs.queue.QueueTable.remove.Goals as goal

pub returns-in-ByRank-clause-kept : goal.returns-in-ByRank-clause-kept
returns-in-ByRank-clause-kept c = rw c.in-ByRank.is (record { kind = refl; ranks = c.remove-in-ByRank.ensures.ranks })
