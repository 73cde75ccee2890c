use Rattle.std.proofs.Common.{◌≡◌, ℕ, List, Contains, length, arith, refl, sym, ap, subst, ◌∙◌}
use Rattle.tp_laws.proofs.Model.Queues.{Contains-from_among}
use Rattle.tp_queue.specs.Queues.{waiting_of}
use Rattle.tp_tasks.specs.Tasks.{row_of, payload_of, promise_of}
use Rattle.tp_laws.specs.View.{View}
use Rattle.tp_machine_state.specs.Shows.{Views}
use Rattle.tp_machine_state.proofs.Purging.{without_one, taken_seen, still_waiting, purged_on, holds_on, views_end, without_shorter, numbers_long, rest_on}
use Rattle.tp_machine_state.proofs.parts.Parts.purge.Goals as goal

pub unqueue-requires-clause-queued : goal.unqueue-requires-clause-queued
unqueue-requires-clause-queued g c =
    let t = c.in-Some.t.0 in
    let w = c.loop-t.invariant.views c.requires.known.0 c.requires.known.1 c.requires.known.2 in
    let seen = c.next_cancelled.ensures.views w.0 w.1 in
    let there = taken_seen c.next_cancelled.new.self w.0 seen w.2 t c.in-Some.ensures.cancelled in
    let F : List ℕ → Type 0 = λ us. Contains us t in
    subst F seen.queued (Contains-from_among w.0.queue t there.0)

pub unqueue-requires-clause-keyed : goal.unqueue-requires-clause-keyed
unqueue-requires-clause-keyed g c =
    let config = c.requires.tied.0 in
    let n = c.requires.tied.1 in
    (c.next_cancelled.ensures.tied config n (c.loop-t.invariant.tied config n c.requires.tied.2)).keyed

pub place_task-requires : goal.place_task-requires
place_task-requires g c =
    let t = c.in-Some.t.0 in
    let w = c.loop-t.invariant.views c.requires.known.0 c.requires.known.1 c.requires.known.2 in
    let there = taken_seen c.next_cancelled.new.self w.0 (c.next_cancelled.ensures.views w.0 w.1) w.2 t c.in-Some.ensures.cancelled in
    record { known = (w.0.tasks t, ap (λ p. row_of p.tasks t) c.unqueue.ensures.rest ∙ there.2, still_waiting (w.0.tasks t) there.1) }

pub loop-t-preserved : goal.loop-t-preserved
loop-t-preserved g c =
    let t = c.in-Some.t.0 in
    let inv = c.loop-t.invariant in
    let found = c.next_cancelled.ensures in
    let less = c.unqueue.ensures in
    let end = c.place_task.ensures in
    record {
      views = λ v seen holds.
          let w = inv.views v seen holds in
          let now = found.views w.0 w.1 in
          let there = taken_seen c.next_cancelled.new.self w.0 now w.2 t c.in-Some.ensures.cancelled in
          (without_one t w.0, end.views _ (less.views w.0 now), holds_on w.0 w.2 t there.0 there.1, purged_on w.0 w.2 t there.0 there.1 ∙ w.3);
      tied = λ config n tied. end.tied config n (less.tied config n (found.tied config n (inv.tied config n tied)));
      rest = rest_on c.args.self.now c.loop-t.self c.next_cancelled.new.self c.unqueue.new.self c.place_task.new.self inv.rest found.rest less.rest end.rest;
      payloads = record {
        payloads = λ u. end.payloads.payloads u ∙ ap (λ p. payload_of p.tasks u) less.rest ∙ found.payloads.payloads u ∙ inv.payloads.payloads u;
        promises = λ u. end.payloads.promises u ∙ ap (λ p. promise_of p.tasks u) less.rest ∙ found.payloads.promises u ∙ inv.payloads.promises u;
      };
    }

pub loop-t-smaller : goal.loop-t-smaller
loop-t-smaller g c =
    let t = c.in-Some.t.0 in
    let w = c.loop-t.invariant.views c.requires.known.0 c.requires.known.1 c.requires.known.2 in
    let now = c.next_cancelled.ensures.views w.0 w.1 in
    let there = taken_seen c.next_cancelled.new.self w.0 now w.2 t c.in-Some.ensures.cancelled in
    let end = c.place_task.ensures.views _ (c.unqueue.ensures.views w.0 now) in
    let shorter = without_shorter t w.0.queue there.0 in
    let before = ap length w.1.queued ∙ numbers_long (waiting_of c.loop-t.self.queue).items in
    let after = ap length end.queued ∙ numbers_long (waiting_of c.place_task.new.self.queue).items in
    omega (arith, shorter, before, after)

pub returns-clause-views : goal.returns-clause-views
returns-clause-views g c = λ v seen holds.
    let w = c.loop-t.invariant.views v seen holds in
    let F : View → Type 0 = λ x. Views c.next_cancelled.new.self x in
    subst F w.3 (views_end c.next_cancelled.new.self w.0 (c.next_cancelled.ensures.views w.0 w.1) w.2 c.in_default.ensures.none)

pub returns-clause-tied : goal.returns-clause-tied
returns-clause-tied g c = λ config n tied. c.next_cancelled.ensures.tied config n (c.loop-t.invariant.tied config n tied)
