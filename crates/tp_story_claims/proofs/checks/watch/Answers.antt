use Rattle.std.proofs.Common.{◌≡◌, ◌+◌, ◌<◌, length, take, drop, set, get_or, suc, arith, sym, ap, ◌∙◌, subst}
use Rattle.std.specs.Prelude.{map}
use Rattle.std.proofs.lemmas.List.{length-set}
use Rattle.tp_story_claims.specs.Checks.{watched_after}
use Rattle.tp_story_claims.proofs.Watching.{first_in_place, rest_in_place}
use Rattle.tp_story_claims.proofs.checks.watch.Goals as goal

pub loop-i-preserved : goal.loop-i-preserved
loop-i-preserved c =
    let f = watched_after c.args.seen.now in
    let xs = c.args.claims.now.items in
    let ys = c.loop-i.claims.items in
    let i = c.loop-i.i in
    let d = c.index.result.now in
    let v = c.after.result in
    let same = c.loop-i.invariant.0 in
    let within : i < length ys = omega (arith, c.loop-i-test.true, c.len-i-end.ensures, same) in
    let is : v ≡ f (get_or ys i d) = c.after.ensures ∙ ap f c.index.ensures in
    let one : suc i ≡ i + 1 = omega arith in (
      length-set ys i v ∙ same,
      subst (λ m. take m (set ys i v) ≡ map f (take m xs)) one (subst (λ x. take (suc i) (set ys i x) ≡ map f (take (suc i) xs)) (sym is) (first_in_place f d i ys xs within same c.loop-i.invariant.1 c.loop-i.invariant.2)),
      subst (λ m. drop m (set ys i v) ≡ drop m xs) one (rest_in_place f d i ys xs v within same c.loop-i.invariant.2),
    )
