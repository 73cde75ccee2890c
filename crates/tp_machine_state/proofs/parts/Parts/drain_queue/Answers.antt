use Rattle.std.proofs.Common.{length, arith, ap, subst, ◌∙◌}
use Rattle.tp_record.specs.Lists.{IsOnce}
use Rattle.tp_machine_state.specs.Drained.{handed_back}
use Rattle.tp_machine_state.proofs.Drains.{handed_more, handed_on, paid_more, seen_more, rest_more, views_end, tied_end}
use Rattle.tp_machine_state.proofs.parts.Parts.drain_queue.Goals as goal

pub loop-task-preserved : goal.loop-task-preserved
loop-task-preserved g c =
    let old = c.loop-task.self in
    let new = c.drain_head.new.self in
    let x = c.in-Some.task in
    let inv = c.loop-task.invariant in
    let d = c.in-Some.ensures.head in
    let left = ap (λ xs. length xs) d.head.1 in
    let room = inv.room in
    let len = c.push_reserved.ensures.len in
    let capacity = c.push_reserved.ensures.capacity in
    record {
      known = d.left;
      room = omega (arith, left, room, len, capacity);
      handed = handed_on c.loop-task.drained.items c.push_reserved.new.self.items (handed_back old) (handed_back new) _ x c.push_reserved.ensures.items (handed_more old new x d (subst IsOnce inv.known.views.queued inv.known.once)) inv.handed;
      views = λ v seen. let b = inv.views v seen in let m = seen_more old new x d b.0 b.1 in (m.0, m.1, m.2 ∙ b.2);
      tied = λ config n tied. d.tied config n (inv.tied config n tied);
      rest = rest_more c.args.self.now old new inv.rest d.rest;
      payloads = λ t. paid_more old new x d t ∙ inv.payloads t;
      promises = λ t. d.payloads.promises t ∙ inv.promises t;
    }

pub returns-clause-views : goal.returns-clause-views
returns-clause-views g c = λ v seen.
    let b = c.loop-task.invariant.views v seen in
    views_end c.loop-task.self c.drain_head.new.self b.0 v c.in_default.ensures.same c.in_default.ensures.none b.1 b.2

pub returns-clause-tied : goal.returns-clause-tied
returns-clause-tied g c = λ config n tied. tied_end c.loop-task.self c.drain_head.new.self config n c.in_default.ensures.same (c.loop-task.invariant.tied config n tied)
