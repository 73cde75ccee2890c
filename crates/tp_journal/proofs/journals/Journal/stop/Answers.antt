use Rattle.std.proofs.Common.{subst}
use Rattle.tp_journal.specs.Journals.{IsJournalOf}
use Rattle.tp_journal.proofs.Fronts.{front_stays}
use Rattle.tp_journal.proofs.journals.Journal.stop.Goals as goal

pub returns-clause-front : goal.returns-clause-front
returns-clause-front g c =
    let contents = g.W.Write.contents in
    let before = contents c.args.self.thread.promise.writer.value in
    let config = g.G.PoolNaming.config in
    let writer = c.join-writer.result.writer in
    subst (λ h. IsJournalOf contents before config h writer) c.catch_up.ensures.same
    (front_stays contents before config c.join-writer.result.sight c.catch_up.new.sight writer c.catch_up.ensures.goes_on c.join-writer.ensures)
