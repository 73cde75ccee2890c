-- Why a pool's life in one call is cut short.
use Rattle.std.proofs.Common.{◌≡◌, ◌≤◌, List, [], ◌∷◌, inl, inr, ap, sym, subst, ◌∙◌, ⊎_elim, arith}
use Rattle.tp_types.specs.declared.configs.Config.{Config}
use Rattle.tp_types.specs.declared.refusals.PoolError.{PoolError}
use Rattle.tp_types.specs.declared.refusals.PoolError.TheVariants.{NotTerminated, MissingPass, TornRecord}
use Rattle.tp_record.specs.declared.entries.Entry.{Entry}
use Rattle.tp_record.specs.Fields.{rank}
use Rattle.tp_record.specs.Step.{Legal}
use Rattle.tp_book.specs.BookView.{AreAll, AreOwn}
use Rattle.tp_book.specs.PassView.{PassView}
use Rattle.tp_pool_holds.specs.Closing.{KeepsOpen}
use Rattle.tp_pool.specs.Lives.{IsCut, IsOver}

-- a close with two passes of which the last has seen the pool terminated
pub cut : {P : Type 0} (c : Config) (pass last : PassView) (e : PoolError) → rank last.front ≡ 4 → KeepsOpen P c (pass ∷ last ∷ []) e → IsCut e
cut c pass last e seen is =
    let b = is.refused.book in
    let passes = pass ∷ last ∷ [] in
    let workers = is.refused.holds.0 in
    ⊎_elim (λ (x : (e ≡ NotTerminated) × ¬ (rank b.history ≡ 4)). absurd (omega (arith, seen, is.unseen x.0 1 pass (omega arith))))
    (⊎_elim (λ (x : (e ≡ MissingPass) × (rank b.history ≡ 4) × ¬ AreAll b passes workers). inr (inl x.0))
    (λ (x : (e ≡ TornRecord) × (rank b.history ≡ 4) × AreAll b passes workers × ¬ AreOwn b passes). inr (inr x.0)))
    is.refused.holds.1

-- of a pool that has come to where no slot is left
pub over_at : (settings terms : Config) (seen : List Entry) (e : PoolError) → Legal terms seen → 3 ≤ rank seen → IsCut e → IsOver settings terms e
over_at settings terms seen e legal ranks is = inr (is, record { history = seen; is = record { legal = legal; holds = ranks } })
