-- A text is refused otherwise than a reader or a writer is.
use Rattle.std.proofs.Common.{◌≡◌, ap, refl, Bool, true, false, not, Result, Ok, Err, if◌then◌else◌}
use Rattle.tp_types.specs.declared.configs.Config.{Config}
use Rattle.tp_types.specs.declared.refusals.PoolError.{PoolError}
use Rattle.tp_types.specs.declared.refusals.PoolError.TheVariants.{BadSizes, BadCapacity, BadLimit, KeepZero, ReadFailed, WriteFailed}
use Rattle.tp_types.specs.Config.{checked, are_good_sizes, is_good_capacity, is_good_limit, is_good_keep}

-- a refusal that a reader or a writer alone brings
abbrev pub is_outer : PoolError → Bool
is_outer ReadFailed = true
is_outer WriteFailed = true
is_outer e = false

abbrev pub outer_err : {A : Type 0} → Result A PoolError → Bool
outer_err (Ok a) = false
outer_err (Err e) = is_outer e

-- of two answers that are the same, both are such refusals or none is
pub same_outer : {A : Type 0} (r s : Result A PoolError) → r ≡ s → outer_err r ≡ outer_err s
same_outer r s same = ap outer_err same

inner_check : (a b c d : Bool) → outer_err {A = Unit {0}} (if not a then Err BadSizes else (if not b then Err BadCapacity else (if not c then Err BadLimit else (if not d then Err KeepZero else Ok tt)))) ≡ false
inner_check false b c d = refl
inner_check true false c d = refl
inner_check true true false d = refl
inner_check true true true false = refl
inner_check true true true true = refl

-- no check of settings brings one
pub checked_inner : (c : Config) → outer_err (checked c) ≡ false
checked_inner c = inner_check (are_good_sizes c.core c.maximum) (is_good_capacity c.queue) (is_good_limit c.record_limit) (is_good_keep c.keep c.core_timeout)
