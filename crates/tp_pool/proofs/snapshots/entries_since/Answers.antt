use Rattle.std.proofs.Common.{◌≡◌, drop, reverse}
use Rattle.tp_pool.proofs.Watched.{read_some}
use Rattle.tp_pool.proofs.snapshots.entries_since.Goals as goal

pub returns-clause-entries : goal.returns-clause-entries
returns-clause-entries g c =
    read_some _ g.G.PoolNaming.config c.law_is_book.ensures c.record_since.result (λ v b. v.items ≡ drop c.args.n (reverse b.history)) c.record_since.ensures.entries
