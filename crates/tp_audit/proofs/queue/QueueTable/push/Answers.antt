use Rattle.tp_audit.proofs.queue.QueueTable.push.Goals as goal

pub returns-in-ByRank-clause-ok : goal.returns-in-ByRank-clause-ok
returns-in-ByRank-clause-ok c = rw c.in-ByRank.is c.push-in-ByRank.ensures.ok
