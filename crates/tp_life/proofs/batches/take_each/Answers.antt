use Rattle.std.proofs.Common.{◌≡◌, [], ◌∷◌, ◌++◌, length, map, append_assoc, sym, subst, ap, ◌∙◌, arith, rules}
use Rattle.std.proofs.lemmas.List.{length_push, map-append}
use Rattle.tp_pool.specs.Turns.{ThroughBoth}
use Rattle.tp_pool.proofs.Turned.{all_passed, both_more}
use Rattle.tp_life.specs.Futures.{submitted_as, IsTaken}
use Rattle.tp_life.proofs.batches.take_each.Goals as goal

pub loop-ticket-preserved : goal.loop-ticket-preserved
loop-ticket-preserved g c =
    let takes = IsTaken g.P.Controls.keeps g.P.Controls.terms g.W.Task.gives in
    let old = g.P.Controls.pass c.args.pool.now in
    let new = g.P.Controls.pass c.taken.new.pool in
    let ticket = c.in-Some.ticket in
    let tickets = c.loop-ticket.yielded in
    let told = c.loop-ticket.told.items in
    let answer = c.taken.result in
    let more = c.push_reserved.ensures.items in (
      tt,
      tt,
      omega (arith, ap length more, length_push told answer, length_push tickets ticket, c.loop-ticket.invariant.2),
      search rules,
      append_assoc tickets (ticket ∷ []) c.next.new.self.rest.items ∙ ap (λ xs. tickets ++ xs) (sym c.in-Some.ensures.steps.0) ∙ c.loop-ticket.invariant.4,
      subst (λ rs. ThroughBoth takes rs c.push_reserved.new.self.items old new) (sym (map-append (submitted_as (λ k. k.task)) tickets (ticket ∷ [])))
          (subst (λ vs. ThroughBoth takes (map (submitted_as (λ k. k.task)) tickets ++ submitted_as (λ k. k.task) ticket ∷ []) vs old new) (sym more)
          (both_more takes (map (submitted_as (λ k. k.task)) tickets) told (submitted_as (λ k. k.task) ticket) answer old (g.P.Controls.pass c.loop-ticket.pool) new c.loop-ticket.invariant.5 c.taken.ensures)),
    )

pub returns : goal.returns
returns g c =
    let rest = c.loop-ticket.ticket-iterator.rest in
    let gives : c.into_iter-ticket-iterator.result.rest.items ≡ c.args.tickets.items = search rules in
    let all = all_passed c.loop-ticket.yielded rest.items c.args.tickets.items (c.loop-ticket.invariant.4 ∙ gives) (omega (arith, c.in-None.ensures.steps.0, rest.ok.0)) in
    subst (λ tickets. ThroughBoth (IsTaken g.P.Controls.keeps g.P.Controls.terms g.W.Task.gives) (map (submitted_as (λ k. k.task)) tickets) c.loop-ticket.told.items (g.P.Controls.pass c.args.pool.now) (g.P.Controls.pass c.loop-ticket.pool)) all c.loop-ticket.invariant.5
