use Rattle.std.proofs.Common.{List, ℕ, Option}
use Rattle.tp_journal.specs.Journals.{IsJournalOf}
use Rattle.tp_journal.proofs.following.keep.Given as goal

abbrev pub invariant-loop : goal.invariant-loop
invariant-loop g l =
    (goal.iterator-loop g).can_next l.iterator' × (goal.iterator-loop g).is_finite l.iterator'
    × ((before : Option (List ℕ)) → IsJournalOf g.W.Write.contents before g.G.PoolNaming.config l.fn.sight l.fn.writer
    → IsJournalOf g.W.Write.contents before g.G.PoolNaming.config l.sight l.writer)
