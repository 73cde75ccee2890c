-- Why the close of a pool that has ended is refused.
use Rattle.std.proofs.Common.{◌≡◌, ◌<◌, ◌≤◌, List, [], ◌∷◌, ◌++◌, inl, inr, ⊎_elim, arith}
use Rattle.tp_types.specs.declared.configs.Config.{Config}
use Rattle.tp_types.specs.declared.refusals.PoolError.{PoolError}
use Rattle.tp_types.specs.declared.refusals.PoolError.TheVariants.{NotTerminated, MissingPass, TornRecord}
use Rattle.tp_record.specs.Fields.{rank}
use Rattle.tp_record.specs.Step.{Legal}
use Rattle.tp_book.specs.BookView.{AreAll, AreOwn}
use Rattle.tp_book.specs.PassView.{PassView}
use Rattle.tp_pool_holds.specs.Closing.{KeepsOpen}
use Rattle.tp_pool_holds.specs.Moments.{AtSome}
use Rattle.tp_pool.proofs.Lasts.{last_is}
use Rattle.tp_life.specs.Lived.{IsUntold}

-- the last pass has seen the pool terminated
pub untold : {P : Type 0} (c : Config) (passes : List PassView) (last : PassView) (e : PoolError) → rank last.front ≡ 4 → Legal c last.front → KeepsOpen P c (passes ++ last ∷ []) e → IsUntold c e
untold c passes last e seen legal is =
    let some : AtSome c (λ s. 3 ≤ s.rank) = record { history = last.front; is = record { legal = legal; holds = omega (arith, seen) } } in
    let b = is.refused.book in
    let all = passes ++ last ∷ [] in
    let workers = is.refused.holds.0 in
    ⊎_elim (λ (x : (e ≡ NotTerminated) × ¬ (rank b.history ≡ 4)). absurd (omega (arith, seen, last_is (λ p. rank p.front < 4) passes last (is.unseen x.0))))
    (⊎_elim (λ (x : (e ≡ MissingPass) × (rank b.history ≡ 4) × ¬ AreAll b all workers). (inl x.0, some))
    (λ (x : (e ≡ TornRecord) × (rank b.history ≡ 4) × AreAll b all workers × ¬ AreOwn b all). (inr x.0, some)))
    is.refused.holds.1
