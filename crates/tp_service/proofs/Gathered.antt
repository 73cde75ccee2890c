-- What single calls add, in the words of the calls of many.
use Rattle.std.proofs.Common.{◌<◌, List, length, ap, subst, inl, inr}
use Rattle.std.specs.Prelude.{ℕ, ℤ, Bool, true, Result, Ok, Err, IfOk, IfErr, OnErr}
use Rattle.tp_types.specs.declared.configs.Config.{Config}
use Rattle.tp_types.specs.declared.ids.TaskId.{TaskId}
use Rattle.tp_types.specs.declared.refusals.PoolError.{PoolError}
use Rattle.tp_types.specs.declared.tasks.Promise.{Promise}
use Rattle.tp_record.specs.declared.entries.Ask.TheVariants as ask
use Rattle.tp_record.specs.declared.entries.Did.TheVariants as did
use Rattle.tp_book.specs.PassView.{PassView}
use Rattle.tp_pool_holds.specs.Passes.{AddsNone, AddsStep, LooksOnly, Refuses}
use Rattle.tp_pool_holds.specs.declared.tasks.Payload.{Payload}
use Rattle.tp_pool_holds.proofs.Receipts.{looks_none, none_behind, step_behind}
use Rattle.tp_service.specs.Futures.{IsClosed, HaveFailed}
use Rattle.tp_service.specs.Submitted.{AddsSubmissions, AddsCancel, AreTurnedBack, HasNoValue}

module _ {P : Type 0} (keeps : Bool) (c : Config) (t : TaskId) where
  -- a cancel that was asked for behind a look
  pub cancels : (old mid new : PassView) → LooksOnly c old mid → (r : Result Bool PoolError) → IfOk r (λ effective. AddsStep c mid (ask.Cancel t true) (did.Cancel t true effective) new)
      → IfErr r (Refuses keeps c (mid.room < 1) new (ask.Cancel t true)) → OnErr r (AddsNone mid new) → AddsCancel P keeps c t old new
  cancels old mid new looks (Ok effective) step refused none = inl (effective, step_behind c old mid new (ask.Cancel t true) (did.Cancel t true effective) (looks_none c old mid looks) step)
  cancels old mid new looks (Err e) step refused none = inr (none_behind old mid new (looks_none c old mid looks) none, inr (e, subst (λ k. Refuses keeps c (k < 1) new (ask.Cancel t true) e) (ap (λ p. p.room) looks.0) refused))

  -- none, of a future that is not open
  pub needs_no_cancel : (old new : PassView) → LooksOnly c old new → IsClosed P keeps c new t → AddsCancel P keeps c t old new
  needs_no_cancel old new looks closed = inr (looks_none c old new looks, inl closed)

module _ {J : Type 0} (keeps : Bool) (c : Config) (promised : J → Promise) (urgency : J → ℕ) (jobs : List J) (tasks : List TaskId) (r : Result ℤ PoolError) where
  pub no_value : (old mid new : PassView) → 0 < length jobs → AddsSubmissions c promised urgency jobs tasks old mid →
      IfErr r (λ e. (told : PassView) × AddsNone mid told × HaveFailed (Payload J) keeps c tasks e told new) → IfErr r (λ e. HasNoValue keeps c promised urgency jobs e old new)
  no_value old mid new some submits failed = refused r failed
    where
      refused : (r : Result ℤ PoolError) → IfErr r (λ e. (told : PassView) × AddsNone mid told × HaveFailed (Payload J) keeps c tasks e told new) → IfErr r (λ e. HasNoValue keeps c promised urgency jobs e old new)
      refused (Ok v) failed = tt
      refused (Err e) failed = inr (inr (record { some = some; tasks = tasks; mid = mid; told = failed.0; submits = submits; looks = failed.1; failed = failed.2 }))

module _ {J : Type 0} (keeps : Bool) (c : Config) (promised : J → Promise) (urgency : J → ℕ) (jobs : List J) where
  -- some jobs that are not all submitted give no value
  pub turned_back : (e : PoolError) (old new : PassView) → 0 < length jobs → AreTurnedBack keeps c promised urgency jobs e old new → HasNoValue keeps c promised urgency jobs e old new
  turned_back e old new some back = inr (inl (some, back))
