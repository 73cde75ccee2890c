use Rattle.std.proofs.Common.{◌≡◌, ap, refl, sym, subst, ◌∙◌, arith}
use Rattle.tp_record.specs.Fields.{rank}
use Rattle.tp_glance.specs.Word.{IsPartOf, with_entry}
use Rattle.tp_glance.proofs.Fronts.{IsPartOf_entry}
use Rattle.tp_glance.proofs.Steps.{notes}
use Rattle.tp_glance.proofs.glance.Glance.note_as.Goals as goal

pub load-requires : goal.load-requires
load-requires g c =
    let i = c.self.invariant in
    let words = i.1 in
    let history = c.book.inside.seat.me.0.front in
    let next = g.N.Noting.next in
    let stays = c.requires.stays in
    let is = ap (λ h. rank h.entries) c.book.view_is in
    let same = ap (λ n. n history) (sym c.requires.same) in
    let after : rank history.entries ≡ rank (with_entry c.args._entry.now history).entries = omega arith in
    let turns : rank history.entries ≡ rank (next history).entries = after ∙ ap (λ h. rank h.entries) same in
    let goes : IsPartOf history (next history) = subst (λ h. IsPartOf history h) same (IsPartOf_entry c.args._entry.now history) in
    (c.tell.ensures.table ∙ sym i.0, omega arith, notes _ _ _ _ _ next turns goes c.tell.ensures.told)
