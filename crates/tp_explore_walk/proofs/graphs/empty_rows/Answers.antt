use Rattle.std.proofs.Common.{◌≡◌, ◌≢◌, ◌+◌, ◌++◌, [], ◌∷◌, length, map, take, ap, sym, refl, ◌∙◌, arith}
use Rattle.std.proofs.lemmas.Bool.Decides.{nat_tests}
use Rattle.std.proofs.lemmas.Grind.{common_steps}
use Rattle.std.proofs.lemmas.List.{length-map, map_more, nil_from_length}
use Rattle.std.proofs.Math.ListN.{length-take}
use Rattle.tp_explore_walk.proofs.Walked.{empties_more, empties_row}
use Rattle.tp_explore_walk.proofs.graphs.empty_rows.Goals as goal
use Rattle.tp_explore_walk.proofs.graphs.empty_rows.Goals.{then-is_empty+in_ok-push, else-is_empty}

pub loop-i-preserved : goal.loop-i-preserved
loop-i-preserved c =
    let rows = c.args.rows.now in
    let i = c.loop-i.i in
    let row = c.index-rows-i.result in
    let so_far = map (λ r. r.items) (take i rows) in
    let many : 0 + length so_far ≡ i = simp (length-map, length-take) (omega arith) in
    let more : map (λ r. r.items) (take (i + 1) rows) ≡ so_far ++ row.items ∷ [] =
    map_more (λ r. r.items) rows i row c.loop-i-test.true ∙ ap (λ r. so_far ++ r.items ∷ []) (sym c.index-rows-i.is) in
    rw (more, empties_more, many, sym c.loop-i.invariant) (elim c.if-is_empty.branch [
      | then-is_empty+in_ok-push w ↦
          let zero : length row.items ≡ 0 = grind (arith, nat_tests) in
          let bare : row.items ≡ [] = nil_from_length row.items zero in
          rw (w.ends-is, w.in_ok-push.ensures.items, bare) refl
      | else-is_empty w ↦
          let some : row.items ≢ [] = λ e. let none : length row.items ≡ 0 = ap length e in grind (arith, nat_tests) in
          rw (w.ends-is, empties_row i row.items some) (grind (arith, common_steps))
    ])
