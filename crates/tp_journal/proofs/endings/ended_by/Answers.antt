use Rattle.std.proofs.Common.{subst}
use Rattle.tp_journal.specs.Endings.{IfThrough}
use Rattle.tp_journal.specs.Journals.{IsJournalOf}
use Rattle.tp_journal.proofs.endings.ended_by.Goals as goal

pub returns-in-Ok : goal.returns-in-Ok
returns-in-Ok g c before c' known es is goes_on same =
    c.in-Ok.ensures.whole before c' known es (subst (λ s. IfThrough s (IsJournalOf g.W.Write.contents before c' known)) c.in-Through.is is) goes_on same
