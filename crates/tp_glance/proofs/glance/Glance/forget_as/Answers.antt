use Rattle.std.proofs.Common.{◌≡◌, ap, sym, subst, ◌∙◌, arith}
use Rattle.tp_record.specs.Fields.{rank}
use Rattle.tp_glance.specs.Word.{IsPartOf}
use Rattle.tp_glance.proofs.Fronts.{IsPartOf_released}
use Rattle.tp_glance.proofs.Steps.{notes}
use Rattle.tp_glance.proofs.glance.Glance.forget_as.Goals as goal

pub load-requires : goal.load-requires
load-requires g c =
    let i = c.self.invariant in
    let j = c.book.invariant in
    let words = i.1 in
    let history = c.book.inside.seat.me.0.front in
    let next = g.N.Noting.next in
    let same = ap (λ n. n history) (sym c.requires) in
    let turns : rank history.entries ≡ rank (next history).entries = ap (λ h. rank h.entries) same in
    let goes : IsPartOf history (next history) = subst (λ h. IsPartOf history h) same (IsPartOf_released c.args._t.0 history) in
    (j.0 ∙ sym i.0, omega arith, notes _ _ _ _ _ next turns goes j.1)
