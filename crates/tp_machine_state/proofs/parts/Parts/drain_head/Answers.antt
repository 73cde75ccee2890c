use Rattle.std.proofs.Common.{◌≡◌, ◌∷◌, drop, sym, ap, ◌∙◌}
use Rattle.tp_queue.specs.Queues.{waiting_of}
use Rattle.tp_tasks.specs.Tasks.{row_of}
use Rattle.tp_machine_state.specs.Shows.{numbers}
use Rattle.tp_machine_state.proofs.Queued.{queue_head}
use Rattle.tp_machine_state.proofs.Drains.{item_head, item_none, among_head, once_left, among_left, rest_of, handed_of}
use Rattle.tp_machine_state.proofs.parts.Parts.drain_head.Goals as goal

pub returns-in_default-clause-none : goal.returns-in_default-clause-none
returns-in_default-clause-none g c = item_none (waiting_of c.args.self.now.queue).items (sym c.head.ensures ∙ c.in_default.is)

pub finish_task-payload-requires : goal.finish_task-payload-requires
finish_task-payload-requires g c =
    let known = c.requires.known in
    let t = c.in-Some.t in
    let head : known.seen.queue ≡ t.0 ∷ numbers (drop 1 (waiting_of c.args.self.now.queue).items) = known.views.queued ∙ queue_head (waiting_of c.args.self.now.queue).items t (sym c.head.ensures ∙ c.in-Some.is) in
    let open_task = known.unended t.0 (among_head t.0 known.seen.queue _ head) in
    record { known = (known.seen.tasks t.0, ap (λ p. row_of p.tasks t.0) c.dequeue.ensures.rest ∙ known.views.rows t.0 open_task.0, open_task.1) }

pub returns-clause-head : goal.returns-clause-head
returns-clause-head g c =
    let known = c.requires.known in
    let old = c.args.self.now in
    let new = c.finish_task-payload.new.self in
    let t = c.in-Some.t in
    let v = known.seen in
    let head : v.queue ≡ t.0 ∷ numbers (drop 1 (waiting_of old.queue).items) = known.views.queued ∙ queue_head (waiting_of old.queue).items t (sym c.head.ensures ∙ c.in-Some.is) in
    let k = c.dequeue.ensures.rest in
    let r = c.finish_task-payload.ensures.rest in
    let first = item_head (waiting_of old.queue).items t (sym c.head.ensures ∙ c.in-Some.is) in
    let left = ap (λ p. (waiting_of p.queue).items) r ∙ c.dequeue.ensures.left in
    record {
      head = (first.0, first.1 ∙ ap (λ xs. (t, first.0) ∷ xs) (sym left));
      views = λ u seen. c.finish_task-payload.ensures.views _ (c.dequeue.ensures.views u seen);
      tied = λ config n tied. c.finish_task-payload.ensures.tied config n (c.dequeue.ensures.tied config n tied);
      rest = rest_of old c.dequeue.new.self new k r;
      payloads = handed_of old.tasks c.dequeue.new.self.tasks new.tasks t.0 _ (ap (λ p. p.tasks) k) c.finish_task-payload.ensures.payloads;
      left = record {
        seen = _;
        views = c.finish_task-payload.ensures.views _ (c.dequeue.ensures.views v known.views);
        once = once_left t.0 v.queue _ head known.once;
        unended = λ u there.
            let was = among_left t.0 v.queue _ head known.once u there in
            let open_task = known.unended u was.0 in
            (open_task.0, rw was.1 open_task.1);
      };
    }
