use Rattle.std.proofs.Common.{rules, ◌≡◌, None, [], length, get_or, map, take, replicate, refl, sym, ap, ◌∙◌, subst, arith}
use Rattle.std.specs.Prelude.{option_map}
use Rattle.std.proofs.lemmas.List.{get_or-map, length-replicate, take_all, take_more}
use Rattle.std.proofs.lemmas.Option.{slice_get-get_or, slice_get-map, slice_get_read}
use Rattle.tp_explore_walk.specs.declared.trails.Leg.{Leg}
use Rattle.tp_explore_walk.specs.Moves.{IsAt}
use Rattle.tp_explore_walk.specs.Paths.{AreFirsts, row_of}
use Rattle.tp_explore_walk.proofs.Firsts.{AreFirstsSo, firsts_more, firsts_next, firsts_none, firsts_row}
use Rattle.tp_explore_walk.proofs.trails.firsts.Goals as goal

pub loop-from-init : goal.loop-from-init
loop-from-init c =
    let n = length c.args.rows.now in
    let nones : c.in_ok-firsts.firsts.items ≡ replicate n None = c.in_ok-firsts.ensures.items_if_clones_equal (search rules) in
    record { firsts = rw nones (firsts_none (map (λ row. row.items) c.args.rows.now) n); len = rw nones (length-replicate n None) }

pub loop-choice-init : goal.loop-choice-init
loop-choice-init c = record {
  firsts = firsts_row (map (λ row. row.items) c.args.rows.now) c.loop-from.from c.loop-from.firsts.items c.loop-from.invariant.firsts;
  len = c.loop-from.invariant.len;
}

pub loop-choice-preserved : goal.loop-choice-preserved
loop-choice-preserved c =
    let rows = map (λ row. row.items) c.args.rows.now in
    let n = c.loop-from.from in
    let row = c.deref-to-items.result.now in
    let i = c.loop-choice.choice in
    let is_row : row_of rows n ≡ row = get_or-map (λ r. r.items) c.args.rows.now n c.index-rows-from.result [] c.loop-from-test.true ∙ ap (λ r. r.items) (sym c.index-rows-from.is) ∙ sym c.deref-to-items.ensures.value in
    let there : IsAt row i (get_or row i 0) = slice_get-get_or row i 0 c.loop-choice-test.true in
    let at : IsAt (row_of rows n) i (get_or row i 0) = subst (λ r. IsAt r i (get_or row i 0)) (sym is_row) there in
    let leg : Leg = record { from = n; choice = i } in
    let more = firsts_more rows n (take i row) (get_or row i 0) i leg c.loop-choice.firsts.items c.note.new.firsts.items c.loop-choice.invariant.firsts c.note.ensures refl refl at in
    record {
      firsts = rw (take_more row i 0 c.loop-choice-test.true) more;
      len = c.note.ensures.len ∙ c.loop-choice.invariant.len;
    }

pub loop-from-preserved : goal.loop-from-preserved
loop-from-preserved c =
    let rows = map (λ row. row.items) c.args.rows.now in
    let n = c.loop-from.from in
    let row = c.deref-to-items.result.now in
    let fs = c.loop-choice.firsts.items in
    let so : AreFirstsSo rows n row fs = subst (λ r. AreFirstsSo rows n r fs) (take_all c.loop-choice.choice row c.loop-choice-test.false) c.loop-choice.invariant.firsts in
    let read = slice_get_read c.args.rows.now (length c.args.rows.now) n c.index-rows-from.result refl c.loop-from-test.true c.index-rows-from.is in
    let items : IsAt rows n c.index-rows-from.result.items = slice_get-map (λ r. r.items) c.args.rows.now n ∙ ap (option_map (λ r. r.items)) read in
    let at : IsAt rows n row = subst (λ r. IsAt rows n r) (sym c.deref-to-items.ensures.value) items in
    record { firsts = firsts_next rows n row fs so at; len = c.loop-choice.invariant.len }

pub returns : goal.returns
returns c =
    let rows = map (λ row. row.items) c.args.rows.now in
    let all : c.loop-from.from ≡ length c.args.rows.now = omega (arith, c.loop-from-test.false, c.loop-from.auto.from-end) in
    (subst (λ n. AreFirsts rows n c.loop-from.firsts.items) all c.loop-from.invariant.firsts, c.loop-from.invariant.len)
