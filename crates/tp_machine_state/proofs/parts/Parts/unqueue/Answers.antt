use Rattle.std.proofs.Common.{ap, sym, ◌∙◌}
use Rattle.tp_record.specs.Lists.{without}
use Rattle.tp_queue.specs.Queues.{waiting_of}
use Rattle.tp_queue.specs.Waiting.{place_key}
use Rattle.tp_tasks.specs.Tasks.{task_of, row_of, number_of}
use Rattle.tp_machine_state.specs.Shows.{numbers}
use Rattle.tp_machine_state.specs.Tied.{priority_in}
use Rattle.tp_machine_state.proofs.Ties.{row_kept}
use Rattle.tp_machine_state.proofs.Queued.{key_once, place_there, numbers-unqueued, views_queue, tied_less, contains_filter}
use Rattle.tp_machine_state.proofs.parts.Parts.unqueue.Goals as goal

pub unreachable-requires : goal.unreachable-requires
unreachable-requires g c =
    let old = c.args.self.now in
    let there = place_there (waiting_of old.queue).items c.args.t c.requires.queued in
    let k = c.requires.keyed c.args.t there.0 there.1 in
    let r = row_kept (task_of old.tasks c.args.t.0) k.number k.known in
    c.in_default.not-Some r.0 (c.row.ensures ∙ r.1)

pub unreachable-requires-in_default-place_number : goal.unreachable-requires-in_default-place_number
unreachable-requires-in_default-place_number g c =
    let there = place_there (waiting_of c.args.self.now.queue).items c.args.t c.requires.queued in
    let k = c.requires.keyed c.args.t there.0 there.1 in
    c.in_default-place_number.not-Some k.number (c.place_number.ensures ∙ k.known)

pub returns-clause-views : goal.returns-clause-views
returns-clause-views g c = λ v views.
    let old = c.args.self.now in
    let t = c.args.t in
    let w = waiting_of old.queue in
    let row = sym c.row.ensures ∙ c.in-Some.is in
    let number = sym c.place_number.ensures ∙ c.in-Some-place_number.is in
    let made = ap (λ r. place_key w.kind r c.in-Some-place_number.number) (sym (ap priority_in row)) in
    views_queue old v views c.remove.new.self (without t.0 v.queue)
    (ap (without t.0) views.queued
    ∙ sym (numbers-unqueued w.items _ t _ c.law_is_lawful.ensures.keys c.requires.queued (λ m has. key_once w (row_of old.tasks t.0) (number_of old.tasks t.0) _ m c.in-Some-place_number.number number made (c.requires.keyed t m has)))
    ∙ sym (ap (λ x. numbers x.items) c.remove.ensures))

pub returns-clause-tied : goal.returns-clause-tied
returns-clause-tied g c = λ config n tied. tied_less config n c.args.self.now tied c.remove.new.self _ c.remove.ensures (contains_filter _ _)
