use Rattle.std.proofs.Common.{◌≡◌, ◌≤◌, max, ap, sym, subst, ◌∙◌, arith}
use Rattle.tp_record.specs.Fields.{rank}
use Rattle.tp_glance.specs.Word.{IsPartOf}
use Rattle.tp_glance.proofs.Fronts.{IsPartOf_entry, rank_grows}
use Rattle.tp_glance.proofs.Steps.{raises}
use Rattle.tp_glance.proofs.glance.Glance.raise_as.Goals as goal

pub fetch_max-before-requires : goal.fetch_max-before-requires
fetch_max-before-requires g c =
    let i = c.self.invariant in
    let words = i.1 in
    let history = c.book.inside.seat.me.0.front in
    let next = g.N.Noting.next in
    let to = c.requires.after in
    let is = ap (λ h. rank h.entries) c.book.view_is in
    let same = ap (λ n. n history) (sym c.requires.same) in
    let whole = ap (λ h. rank (next h).entries) c.book.view_is in
    let goes : IsPartOf history (next history) = subst (λ h. IsPartOf history h) same (IsPartOf_entry c.args._entry.now history) in
    let above : rank history.entries ≤ rank (next history).entries = rank_grows goes.0 in
    let as_number = c.rank.ensures in
    let wide = c.from-rank.ensures in
    let after : max (rank history.entries) c.from-rank.result ≡ rank (next history).entries = omega arith in
    (c.tell.ensures.table ∙ sym i.0, omega arith, raises _ _ _ _ _ next _ after goes c.tell.ensures.told)
