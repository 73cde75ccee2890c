use Rattle.std.proofs.Common.{ap, sym, subst, ◌∙◌}
use Rattle.tp_record.specs.State.{State}
use Rattle.tp_audit.specs.Queued.{tasks_of}
use Rattle.tp_audit.specs.Tables.{shown, HasRanks}
use Rattle.tp_audit.proofs.Ranking.{ranks_after, wide_left}
use Rattle.tp_audit.proofs.tables.Tables.note_all.Goals as goal

pub returns-clause-ranks : goal.returns-clause-ranks
returns-clause-ranks c = λ are.
    let old = c.args.self.now in
    let mid = c.sweep.new.self in
    let d = c.args.did in
    let rows = old.tasks.items in
    let left = ap (λ (s : State). s.queue) c.sweep.ensures.swept ∙ wide_left (shown old).ranked d rows (tasks_of old.queue) c.requires.wide in
    subst HasRanks (sym c.set.ensures)
    (ranks_after d rows mid.tasks.items old.queue mid.queue c.sweep.ensures.kept left (ap (λ (s : State). s.tasks) c.sweep.ensures.swept) are)
