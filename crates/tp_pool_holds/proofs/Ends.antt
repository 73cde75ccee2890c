-- The receipts of a pool's end.
use Rattle.std.proofs.Common.{◌≡◌, ◌⊎◌, ◌≤◌, ℕ, List, [], ◌∷◌, max, inl, inr, refl, subst, arith}
use Rattle.std.specs.Prelude.{Result, Ok, Err, IfErr, OnOk, OnErr}
use Rattle.tp_types.specs.declared.configs.Config.{Config}
use Rattle.tp_types.specs.declared.refusals.PoolError.{PoolError}
use Rattle.tp_types.specs.declared.refusals.PoolError.TheVariants.{TimedOut, TornRecord}
use Rattle.tp_record.specs.declared.entries.Ask.{Ask}
use Rattle.tp_record.specs.declared.entries.Ask.TheVariants as ask
use Rattle.tp_record.specs.declared.entries.Did.{Did}
use Rattle.tp_record.specs.declared.entries.Entry.{Entry}
use Rattle.tp_record.specs.Effects.{reaches}
use Rattle.tp_record.specs.Fields.{rank}
use Rattle.tp_glance.proofs.Fronts.{rank_grows}
use Rattle.tp_book.specs.PassView.{PassView}
use Rattle.tp_pool_holds.specs.Passes.{Adds, AddsStep, AddsNone, LooksOnly, entry_of, tidied, ended}
use Rattle.tp_pool_holds.proofs.Receipts.{adds_both, adds_looks, leads_front, step_behind}
use Rattle.tp_pool_holds.specs.Endings.{AddsAndEnds, AddsEnding, IsBarred, IsEnding}

module _ (c : Config) where
  -- a step behind room for more, and then those of the pool's end
  pub step_and_end : (old mid after new : PassView) (a : Ask) (d : Did) → AddsNone old mid → AddsStep c mid a d after → AddsEnding c after new → AddsAndEnds c old a d new
  step_and_end old mid after new a d none step end =
      let first : AddsStep c old a d after = step_behind c old mid after a d none step in (
        end.0,
        subst (λ (by : ℕ). IsEnding c by end.0 new.front) first.number end.1,
        adds_both c old after new (entry_of old.number a d ∷ []) end.0 first end.2,
      )

-- the end that a pass has begun, as far as the pool takes it
module _ (c : Config) (old mid new : PassView) (first : Adds c old (tidied old.number ∷ []) mid) where
  both : Adds c mid (ended mid.number ∷ []) new → Adds c old (tidied old.number ∷ ended old.number ∷ []) new
  both end = adds_both c old mid new (tidied old.number ∷ []) (ended old.number ∷ []) first (subst (λ (n : ℕ). Adds c mid (ended n ∷ []) new) first.number end)

  pub ends : (r : Result (Unit {0}) PoolError) → OnOk r (Adds c mid (ended mid.number ∷ []) new) → IfErr r (λ e. (e ≡ TornRecord) × IsBarred c new.front ask.Ended) →
      OnErr r (LooksOnly c mid new) → AddsEnding c old new
  ends (Ok x) step refused looks = (tidied old.number ∷ ended old.number ∷ [], inr (inr refl), both step)
  ends (Err e) step refused looks = (tidied old.number ∷ [], inr (inl (refl, refused.1)), adds_looks c old mid new (tidied old.number ∷ []) first looks)

  pub end_steps : (r : Result (Unit {0}) PoolError) → OnOk r (Adds c mid (ended mid.number ∷ []) new) →
      OnOk r (Adds c old [] new ⊎ Adds c old (tidied old.number ∷ ended old.number ∷ []) new)
  end_steps (Ok x) step = inr (both step)
  end_steps (Err e) step = tt

  pub end_refused : (r : Result (Unit {0}) PoolError) → IfErr r (λ e. (e ≡ TornRecord) × IsBarred c new.front ask.Ended) → OnErr r (LooksOnly c mid new) →
      IfErr r (λ e. ((e ≡ TimedOut) × Adds c old [] new) ⊎ ((e ≡ TornRecord) × IsBarred c new.front ask.Ended × Adds c old (tidied old.number ∷ []) new))
  end_refused (Ok x) refused looks = tt
  end_refused (Err e) refused looks = inr (refused.0, refused.1, adds_looks c old mid new (tidied old.number ∷ []) first looks)

-- a pass has seen what its own step reaches
pub reached : (c : Config) (old new : PassView) (e : Entry) (es : List Entry) → Adds c old (e ∷ es) new → reaches e.did ≤ rank new.front
reached c old new e es adds =
    let h = adds.leads.0 in
    let grows = rank_grows (leads_front (e ∷ h) new.front es adds.leads.2) in
    let first : reaches e.did ≤ max (reaches e.did) (rank h) = omega arith in
    omega (arith, grows, first)
