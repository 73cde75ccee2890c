use Rattle.std.proofs.Common.{List, sym, subst, ap, ◌∙◌}
use Rattle.tp_record.specs.declared.rows.TaskRow.{TaskRow}
use Rattle.tp_record.specs.State.{State, row_at}
use Rattle.tp_audit.specs.Named.{wakes}
use Rattle.tp_audit.specs.Queued.{AreRanked}
use Rattle.tp_audit.specs.Readings.{read}
use Rattle.tp_audit.specs.Tables.{shown, grown, applied}
use Rattle.tp_audit.proofs.Entries.{named_next}
use Rattle.tp_audit.proofs.Ranking.{ranks_after}
use Rattle.tp_audit.proofs.tables.Tables.note_named.Goals as goal

pub returns-clause-next : goal.returns-clause-next
returns-clause-next c =
    let d = c.args.did in
    let old = c.args.self.now in
    let s = shown old in
    let awake = c.woken_slot-awake.ensures ∙ ap (λ rows. wakes d (read old.moment rows old.slots)) c.deref.ensures.value in
    c.apply.ensures.applied
    ∙ ap (applied d c.woken_slot-awake.result) (c.in_ok-grow.ensures.grown ∙ ap (λ rows. grown d (record s { tasks = rows })) c.make_place.ensures.same)
    ∙ ap (λ o. applied d o (grown d s)) awake
    ∙ named_next s d c.requires.narrow c.requires.suits

pub grow-requires-clause-ranks : goal.grow-requires-clause-ranks
grow-requires-clause-ranks c = subst (λ (rows : List TaskRow). AreRanked (λ u. (row_at rows u).priority) c.args.self.now.queue) (sym c.make_place.ensures.same) c.requires.ranks

pub returns-in_err-make_place-clause-ranks : goal.returns-in_err-make_place-clause-ranks
returns-in_err-make_place-clause-ranks c = subst (λ (rows : List TaskRow). AreRanked (λ u. (row_at rows u).priority) c.args.self.now.queue) (sym c.make_place.ensures.same) c.requires.ranks

pub returns-clause-ranks : goal.returns-clause-ranks
returns-clause-ranks c =
    let mid = c.grow.new.self in
    let new = c.apply.new.self in
    ranks_after c.args.did mid.tasks.items new.tasks.items mid.queue new.queue c.apply.ensures.kept
    (ap (λ (s : State). s.queue) c.apply.ensures.applied) (ap (λ (s : State). s.tasks) c.apply.ensures.applied) c.grow.ensures.ranks
