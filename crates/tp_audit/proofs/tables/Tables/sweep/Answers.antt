use Rattle.std.proofs.Common.{[], refl, ap, ◌∙◌}
use Rattle.tp_record.specs.Lists.{change_each}
use Rattle.tp_record.specs.State.{slot_after}
use Rattle.tp_audit.specs.Readings.{read}
use Rattle.tp_audit.specs.Queued.{tasks_of}
use Rattle.tp_audit.specs.Tables.{shown}
use Rattle.tp_audit.proofs.Ranking.{keeps_same}
use Rattle.tp_audit.proofs.Swept.{shutdown_swept, stop_swept, purge_swept, rank_swept}
use Rattle.tp_audit.proofs.tables.Tables.sweep.Goals as goal

pub returns-in-Shutdown-clause-swept : goal.returns-in-Shutdown-clause-swept
returns-in-Shutdown-clause-swept c =
    let old = c.args.self.now in
    shutdown_swept (shown old) c.args.did c.wake_all.new.slots c.wake_all.new.idling c.in-Shutdown.is
    (c.wake_all.ensures.slots ∙ ap (λ rows. change_each (slot_after c.args.did (read old.moment rows [])) 0 old.slots) c.deref.ensures.value)
    c.wake_all.ensures.idling

pub returns-in-Stop-clause-swept : goal.returns-in-Stop-clause-swept
returns-in-Stop-clause-swept c =
    let old = c.args.self.now in
    ap (λ b. record (shown old) {
      tasks = c.drain.new.tasks.items;
      ranked = b;
      queue = tasks_of c.drain.new.queue;
      slots = c.wake_all-in-Stop.new.slots;
      idling = c.wake_all-in-Stop.new.idling;
    }) c.drain.ensures.kept.kind
    ∙ stop_swept (shown old) c.args.did c.in-Stop.field-0 c.drain.new.tasks.items (tasks_of c.drain.new.queue) c.wake_all-in-Stop.new.slots c.wake_all-in-Stop.new.idling c.in-Stop.is
    c.drain.ensures.tasks c.drain.ensures.queue
    (c.wake_all-in-Stop.ensures.slots ∙ ap (λ rows. change_each (slot_after c.args.did (read old.moment rows [])) 0 old.slots) c.deref-in-Stop.ensures.value)
    c.wake_all-in-Stop.ensures.idling

pub returns-in-Purge-clause-swept : goal.returns-in-Purge-clause-swept
returns-in-Purge-clause-swept c =
    ap (λ b. record (shown c.args.self.now) { tasks = c.purge.new.tasks.items; ranked = b; queue = tasks_of c.purge.new.queue }) c.purge.ensures.kept.kind
    ∙ purge_swept (shown c.args.self.now) c.args.did c.in-Purge.field-0 c.purge.new.tasks.items (tasks_of c.purge.new.queue) c.requires.suits.idling c.in-Purge.is c.purge.ensures.tasks c.purge.ensures.queue

pub returns-in_default : goal.returns-in_default
returns-in_default c = record {
  swept = rank_swept (shown c.args.self.now) c.args.did c.requires.suits.idling c.requires.wide c.in_default.not-Shutdown c.in_default.not-Stop c.in_default.not-Purge;
  kept = keeps_same c.args.self.now.queue;
  rest = refl;
}
