use Rattle.std.proofs.Common.{ℕ, ◌≡◌, ◌<◌, Some, length, ap, sym, subst, arith}
use Rattle.std.proofs.lemmas.List.{with_items_is}
use Rattle.std.specs.Prelude.{IsSome, slice_index_or}
use Rattle.tp_life.specs.Ran.{Pairwise}
use Rattle.tp_life.proofs.Parts.{lived_as, some_and}
use Rattle.tp_life.proofs.lives.gathered.Goals as goal

pub returns-clause-lived : goal.returns-clause-lived
returns-clause-lived g c =
    let news = c.live_all.new.callers in
    let after = with_items_is c.args.callers news (omega (arith, c.live_all.ensures.many, c.as_mut_slice.ensures.len)) in
    let came = subst (λ ks. Pairwise (λ k o. k.out ≡ Some o) ks c.parted.result.0.items) after c.parted.ensures.came in
    let passes = subst (λ ks. Pairwise (λ k p. p ≡ k.seat.pass) ks c.parted.result.1.items) after c.parted.ensures.passes in
    lived_as (λ k. k.who) (λ k. k.seat.pass) (λ k. k.out) (g.L.Life.leaves c.args.life.now (g.K.Recorder.terms g.G.PoolNaming.config)) g.K.Recorder.RECEIPTS c.args.callers.items c.as_mut_slice.result.now news
    c.parted.result.0.items c.parted.result.1.items (sym c.as_mut_slice.ensures.value) c.requires.seated c.live_all.ensures.many c.live_all.ensures.lived came passes

pub parted-requires-clause-some : goal.parted-requires-clause-some
parted-requires-clause-some g c i d below =
    let news = c.live_all.new.callers in
    let after = with_items_is c.args.callers news (omega (arith, c.live_all.ensures.many, c.as_mut_slice.ensures.len)) in
    let early = subst (λ (n : ℕ). i < n) (ap (λ ks. length ks) after) below in
    subst (λ k. IsSome k.out) (ap (λ ks. slice_index_or ks i d) (sym after)) (some_and _ (slice_index_or news i d).out (c.live_all.ensures.lived i d early))
