use Rattle.tp_record.specs.State.{row_at}
use Rattle.tp_audit.proofs.auditor.no_entries.Goals as goal

pub returns-clause-ranks : goal.returns-clause-ranks
returns-clause-ranks c = c.in-Ok.ensures.ranks (λ u. (row_at c.new-3.result.items u).priority)
