use mathlib.Core.Path.{refl}
use Rattle.std.proofs.Common.{◌+◌, ◌^◌, ◌<◌, length, ap, ◌∙◌, arith}
use Rattle.std.specs.VecDeque.{deque_capacity}
use Rattle.tp_ring.specs.Line.{line}
use Rattle.tp_ring.specs.Ranks.{key, enter}
use Rattle.tp_ring.specs.Ranking.{keyed}
use Rattle.tp_ring.proofs.Keyed.{within_more, keyed-length, more_ranked, entered}
use Rattle.tp_ring.proofs.rankings.Ranking.offer.Goals as goal

pub behind_rank-at-requires-clause-numbers : goal.behind_rank-at-requires-clause-numbers
behind_rank-at-requires-clause-numbers g c =
    let n = ap (λ l. l.offers) c.self.view_is in
    within_more c.self.inside.offers (2 ^ 64) c.self.inside.items.items (omega (arith, n)) c.self.invariant.numbers

pub invariant_of-self-2 : goal.invariant_of-self-2
invariant_of-self-2 g c =
    let xs = c.self.inside.items.items in
    let v = c.self.view_is in
    let n = ap (λ l. l.offers) v in
    let p = ap (λ l. l.capacity) v in
    let len = keyed-length xs in
    let l = ap (λ l. length l.items) v in
    let full = c.is_full.ensures.1 in
    let no = c.if-is_full.false in
    let free : length xs < c.self.inside.places = grind (arith, n, p, len, l, full, no) in
    rw c.in_default.ensures.items
    (more_ranked xs c.self.inside.places (deque_capacity c.self.inside.items) (deque_capacity c.insert.new.self) c.self.inside.offers c.behind_rank-at.result
    (record { id = c.args.id; rank = c.args.rank; number = c.self.inside.offers }) c.self.invariant (omega (arith, n)) refl (omega arith) free c.insert.ensures.capacity
    c.behind_rank-at.ensures.before c.behind_rank-at.ensures.behind)

pub returns-clause-queued : goal.returns-clause-queued
returns-clause-queued g c =
    let xs = c.self.inside.items.items in
    let v = c.self.view_is in
    let n = ap (λ l. l.offers) v in
    let now = ap keyed c.in_default.ensures.items
    ∙ entered xs c.behind_rank-at.result c.self.inside.offers (record { id = c.args.id; rank = c.args.rank; number = c.self.inside.offers }) (omega (arith, n)) refl c.self.invariant.numbers
    c.behind_rank-at.ensures.before c.behind_rank-at.ensures.behind
    ∙ ap (λ l. enter (key c.args.rank c.self.inside.offers) c.args.id l.items) v in
    (n, λ i. line (now i) (v i).capacity ((v i).offers + 1))
