-- What a look at one future gives.
use Rattle.std.proofs.Common.{◌≡◌, ◌+◌, ◌<◌, List, length, get_or, take, sym, subst}
use Rattle.std.specs.Prelude.{ℕ, ℤ, Bool, Option, Some, None, Result, Ok, Err, IfSome, IfOk, Any, Contains}
use Rattle.std.proofs.lemmas.List.Elements.{Contains-get_or}
use Rattle.std.specs.Result.{result_transpose}
use Rattle.tp_types.specs.declared.configs.Config.{Config}
use Rattle.tp_types.specs.declared.ids.TaskId.{TaskId}
use Rattle.tp_types.specs.declared.refusals.PoolError.{PoolError}
use Rattle.tp_glance.specs.Word.{IsFrontOf}
use Rattle.tp_book.specs.PassView.{PassView}
use Rattle.tp_pool_holds.specs.Passes.{LooksOnly}
use Rattle.tp_pool_holds.specs.Readings.{got, IsResult}
use Rattle.tp_pool_holds.specs.Moments.{BookOf}
use Rattle.tp_pool.proofs.Got.{got_is}
use Rattle.tp_service.specs.Futures.{HasValue, Fails, later_fault}
use Rattle.tp_service.proofs.Closed.{value_found}
use Rattle.tp_pool.specs.Turns.{Through}
use Rattle.tp_pool.proofs.Turned.{through_next}

module _ {P : Type 0} (keeps : Bool) (c : Config) (t : TaskId) (found : Result (Option ℤ) PoolError) (old new : PassView) (looks : LooksOnly c old new) (knew : IsFrontOf old.released new.released)
    (read : BookOf P c new (λ b. IsResult b t.0 keeps found)) where
  given : (r : Result ℤ PoolError) → result_transpose found ≡ Some r → BookOf P c new (λ b. IsResult b t.0 keeps (got r))
  given r is = subst (λ f. BookOf P c new (λ b. IsResult b t.0 keeps f)) (got_is found r is) read

  value_given : (v : ℤ) → result_transpose found ≡ Some (Ok v) → HasValue P c v new t
  value_given v is = value_found keeps c t new v (given (Ok v) is)

  pub failure_given : (e : PoolError) (before after : Option ℕ) → result_transpose found ≡ Some (Err e) → after ≡ later_fault before e → Fails P keeps c t (old, before) (new, after)
  failure_given e before after is last = (looks, knew, (e, given (Err e) is, last))

  -- a look that ends a search among many
  pub any_given : (xs : List TaskId) → Contains xs t → (r : Option (Result ℤ PoolError)) → r ≡ result_transpose found → IfSome r (λ a. IfOk a (λ v. Any (HasValue P c v new) xs))
  any_given xs has None is = tt
  any_given xs has (Some (Err e)) is = tt
  any_given xs has (Some (Ok v)) is = (has.0, t, has.1, has.2, value_given v (sym is))

-- a look at the task of this index
module _ {P : Type 0} (keeps : Bool) (c : Config) (xs : List TaskId) (i : ℕ) (d : TaskId) (within : i < length xs) (found : Result (Option ℤ) PoolError) (old new : PassView) (looks : LooksOnly c old new)
    (knew : IsFrontOf old.released new.released) (read : BookOf P c new (λ b. IsResult b (get_or xs i d).0 keeps found)) where
  pub any_at : (r : Option (Result ℤ PoolError)) → r ≡ result_transpose found → IfSome r (λ a. IfOk a (λ v. Any (HasValue P c v new) xs))
  any_at r is = any_given keeps c (get_or xs i d) found old new looks knew read xs (Contains-get_or xs i d within) r is

  pub fails_next : (first : PassView) (before mid after : Option ℕ) (e : PoolError) → result_transpose found ≡ Some (Err e) → after ≡ later_fault mid e
      → Through (Fails P keeps c) (take i xs) (first, before) (old, mid) → Through (Fails P keeps c) (take (i + 1) xs) (first, before) (new, after)
  fails_next first before mid after e is last turns =
      through_next (Fails P keeps c) xs i d (first, before) (old, mid) (new, after) within turns (failure_given keeps c (get_or xs i d) found old new looks knew read e mid after is last)
