-- The wait for a pool's end, with no deadline.
use Rattle.std.proofs.Common.{◌≡◌, ◌⊎◌, ◌≤◌, true, List, [], ◌∷◌, ⊎_elim, inl, inr, arith}
use Rattle.std.proofs.lemmas.Bool.{false≢true}
use Rattle.std.specs.Prelude.{None, Result, Ok, Err, IfOk, IfErr, OnOk, OnErr}
use Rattle.tp_types.specs.declared.configs.Config.{Config}
use Rattle.tp_types.specs.declared.refusals.PoolError.{PoolError}
use Rattle.tp_types.specs.declared.refusals.PoolError.TheVariants.{TimedOut, TornRecord}
use Rattle.tp_record.specs.declared.entries.Ask.TheVariants as ask
use Rattle.tp_record.specs.declared.entries.Ask.{Ask}
use Rattle.tp_record.specs.declared.entries.Did.{Did}
use Rattle.tp_record.specs.declared.entries.Entry.{Entry}
use Rattle.tp_record.specs.Fields.{rank}
use Rattle.tp_record.specs.Step.{Legal}
use Rattle.tp_glance.specs.Word.{IsFrontOf}
use Rattle.tp_glance.proofs.Fronts.{IsFrontOf_trans, rank_grows}
use Rattle.tp_book.specs.PassView.{PassView}
use Rattle.tp_pool_holds.specs.Moments.{AtFront}
use Rattle.tp_pool_holds.specs.Readings.{has_come}
use Rattle.tp_pool_holds.specs.Passes.{Adds, AddsNone, AddsStep, entry_of, tidied, ended}
use Rattle.tp_pool_holds.proofs.Receipts.{leads_front, reserved}
use Rattle.tp_pool.specs.Lives.{IsShut}
use Rattle.tp_pool_holds.specs.Endings.{IsBarred}
use Rattle.tp_pool_holds.proofs.Ends.{reached}

-- the wait is torn: the step `tidy` was made, and `ended` not
abbrev pub IsTorn : Config → PassView → PassView → PoolError → Type 0
IsTorn c old new e = (e ≡ TornRecord) × IsBarred c new.front ask.Ended × Adds c old (tidied old.number ∷ []) new

module _ (c : Config) (old new : PassView) where
  -- no deadline comes
  pub torn : (r : Result (Unit {0}) PoolError) → IfErr r (λ e. e ≡ TimedOut → AtFront c new.front (λ s. (has_come None s.now ≡ true) × ¬ (s.rank ≡ 4))) →
      IfErr r (λ e. ((e ≡ TimedOut) × Adds c old [] new) ⊎ ((e ≡ TornRecord) × IsBarred c new.front ask.Ended × Adds c old (tidied old.number ∷ []) new)) → IfErr r (IsTorn c old new)
  torn (Ok x) late refused = tt
  torn (Err e) late (inl timed) = absurd (false≢true (late timed.0).holds.0)
  torn (Err e) late (inr is) = is

  -- however the wait ends, the pool has no slot then
  pub over : (r : Result (Unit {0}) PoolError) → OnOk r (rank new.front ≡ 4) → IfErr r (IsTorn c old new) → 3 ≤ rank new.front
  over (Ok x) seen refused = omega (arith, seen)
  over (Err e) seen refused = reached c old new (tidied old.number) [] refused.2

  pub over_legal : (r : Result (Unit {0}) PoolError) → OnOk r (Adds c old [] new ⊎ Adds c old (tidied old.number ∷ ended old.number ∷ []) new) → IfErr r (IsTorn c old new) → Legal c new.front
  over_legal (Ok x) steps refused = ⊎_elim (λ (a : Adds c old [] new). a.legal) (λ (a : Adds c old (tidied old.number ∷ ended old.number ∷ []) new). a.legal) steps
  over_legal (Err e) steps refused = refused.2.legal

-- and so it is at every later history
pub shut_still : (c : Config) (f h : List Entry) → IsFrontOf f h → IsShut c f → IsShut c h
shut_still c f h goes_on (inl shut) = inl (omega (arith, rank_grows goes_on, shut))
shut_still c f h goes_on (inr barred) = inr (barred.0, IsFrontOf_trans barred.1 goes_on, barred.2)

module _ (c : Config) (old new : PassView) where
  -- room for more changes nothing of it
  pub shut_reserved : new ≡ record old { room = new.room } → IsShut c old.front → IsShut c new.front
  shut_reserved same shut = shut_still c old.front new.front (reserved old new same).1 shut

  -- nor does a step, made or refused
  pub shut_asked : {A : Type 0} (a : Ask) (d : A → Did) (r : Result A PoolError) → IfOk r (λ x. AddsStep c old a (d x) new) → OnErr r (AddsNone old new) → IsShut c old.front → IsShut c new.front
  shut_asked a d (Ok x) step none shut = shut_still c old.front new.front (leads_front old.front new.front (entry_of old.number a (d x) ∷ []) step.leads) shut
  shut_asked a d (Err e) step none shut = shut_still c old.front new.front none.1 shut
