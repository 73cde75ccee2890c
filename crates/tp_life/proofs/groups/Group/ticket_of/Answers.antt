use Rattle.std.proofs.Common.{◌≡◌, ◌<◌, ◌∷◌, length, sym, subst, rules}
use Rattle.std.proofs.lemmas.List.Sorted.{IsPermutation-swap_remove}
use Rattle.std.specs.Prelude.{IsPermutation}
use Rattle.tp_life.proofs.groups.Group.ticket_of.Goals as goal

pub returns-clause-out : goal.returns-clause-out
returns-clause-out g c =
    let had = c.args.self.now.tickets.items in
    let ticket = c.swap_remove.result in
    let within : c.in_ok-at.at < length had = search rules in
    let is : ticket.task ≡ c.args.t = search rules in
    (is, subst (λ has. IsPermutation had (ticket ∷ has)) (sym c.swap_remove.ensures.items) (IsPermutation-swap_remove had c.in_ok-at.at ticket within c.swap_remove.ensures.value))
