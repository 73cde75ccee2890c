use Rattle.std.proofs.Common.{◌≡◌, List, ap, sym, ◌∙◌}
use Rattle.tp_record.specs.declared.rows.TaskRow.{TaskRow}
use Rattle.tp_record.specs.State.{row_at}
use Rattle.tp_audit.proofs.Ranking.{pushed_ranks}
use Rattle.tp_audit.proofs.tables.Tables.grow.Goals as goal

pub returns-in-Some-clause-ranks : goal.returns-in-Some-clause-ranks
returns-in-Some-clause-ranks c =
    let old = c.args.self.now in
    let t = c.in-Some.t in
    let row : c.row_at-rank.result ≡ row_at old.tasks.items t = c.row_at-rank.ensures ∙ ap (λ (rows : List TaskRow). row_at rows t) c.deref.ensures.value in
    pushed_ranks c.push.result t c.row_at-rank.result.priority old.queue c.push.new.self c.push.ensures.ok c.push.ensures.err
    (λ u. (row_at old.tasks.items u).priority) (ap (λ (r : TaskRow). r.priority) (sym row)) c.requires.ranks
