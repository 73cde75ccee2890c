-- A pass that knows that the pool is terminated, and looks once more.
use Rattle.std.proofs.Common.{◌≡◌, ◌⊎◌, sym, ap, subst, ◌∙◌, ⊎_elim, arith}
use Rattle.tp_types.specs.declared.configs.Config.{Config}
use Rattle.tp_record.specs.Fields.{rank}
use Rattle.tp_record.specs.Step.{Legal}
use Rattle.tp_book.specs.PassView.{PassView}
use Rattle.tp_glance.proofs.Fronts.{rank_grows}
use Rattle.tp_pool_holds.specs.Passes.{LooksOnly}
use Rattle.tp_pool_holds.proofs.Moments.{rank_top}

pub still_ended : (c : Config) (old new : PassView) → rank old.front ≡ 4 → Legal c old.front → (new ≡ old) ⊎ LooksOnly c old new → (rank new.front ≡ 4) × Legal c new.front
still_ended c old new seen legal looked =
    ⊎_elim (λ (x : new ≡ old). (ap (λ p. rank p.front) x ∙ seen, subst (λ p. Legal c p.front) (sym x) legal))
    (λ (x : LooksOnly c old new). (
      (
          let grown = rank_grows x.1 in
          let top = rank_top new.front in omega (arith, grown, top, seen)
          ),
      x.2,
    ))
    looked
