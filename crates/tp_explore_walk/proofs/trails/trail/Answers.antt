use Rattle.std.proofs.Common.{rules, ◌≡◌, ◌<◌, length, map, Some, refl, sym, subst, ◌∙◌, arith}
use Rattle.std.specs.Option.{IsSome}
use Rattle.std.proofs.lemmas.Option.{get_or_from_slice_get, same_Some}
use Rattle.tp_explore_walk.specs.Moves.{IsAt}
use Rattle.tp_explore_walk.specs.Paths.{row_of}
use Rattle.tp_explore_walk.proofs.Firsts.{first_of}
use Rattle.tp_explore_walk.proofs.trails.trail.Goals as goal

pub unwrap-leg-requires : goal.unwrap-leg-requires
unwrap-leg-requires c =
    let fs = c.in_ok-firsts.firsts.items in
    let p = first_of (map (λ row. row.items) c.args.rows.now) (length c.args.rows.now) fs c.in_ok-firsts.ensures.0 c.in_ok-firsts.ensures.1 c.requires.led c.loop-at.at c.loop-at-test.true c.loop-at.invariant.within in
    let e : c.index.result.now ≡ Some p.0 = c.index.ensures ∙ get_or_from_slice_get fs c.loop-at.at (Some p.0) c.index.result.now p.1 in
    subst IsSome (sym e) (search rules)

pub loop-at-smaller : goal.loop-at-smaller
loop-at-smaller c =
    let fs = c.in_ok-firsts.firsts.items in
    let p = first_of (map (λ row. row.items) c.args.rows.now) (length c.args.rows.now) fs c.in_ok-firsts.ensures.0 c.in_ok-firsts.ensures.1 c.requires.led c.loop-at.at c.loop-at-test.true c.loop-at.invariant.within in
    let e : Some c.unwrap-leg.result ≡ Some p.0 = sym c.unwrap-leg.ensures ∙ c.index.ensures ∙ get_or_from_slice_get fs c.loop-at.at (Some p.0) c.index.result.now p.1 in
    subst (λ leg. leg.from < c.loop-at.at) (sym (same_Some _ _ e)) p.3

pub loop-at-preserved : goal.loop-at-preserved
loop-at-preserved c =
    let rows = map (λ row. row.items) c.args.rows.now in
    let fs = c.in_ok-firsts.firsts.items in
    let p = first_of rows (length c.args.rows.now) fs c.in_ok-firsts.ensures.0 c.in_ok-firsts.ensures.1 c.requires.led c.loop-at.at c.loop-at-test.true c.loop-at.invariant.within in
    let e : Some c.unwrap-leg.result ≡ Some p.0 = sym c.unwrap-leg.ensures ∙ c.index.ensures ∙ get_or_from_slice_get fs c.loop-at.at (Some p.0) c.index.result.now p.1 in
    let same : c.unwrap-leg.result ≡ p.0 = same_Some _ _ e in
    let there = subst (λ leg. IsAt (row_of rows leg.from) leg.choice c.loop-at.at) (sym same) p.2 in
    let before = subst (λ leg. leg.from < c.loop-at.at) (sym same) p.3 in
    record {
      leads = rw c.in_ok-insert.ensures.items (refl, (c.loop-at.at, there, c.loop-at.invariant.leads));
      within = omega (arith, before, c.loop-at.invariant.within);
    }
