-- An answer that is there.
use Rattle.std.proofs.Common.{◌≡◌, refl, sym, subst, ◌∙◌}
use Rattle.std.specs.Prelude.{ℤ, Option, Some, None, Result, Ok, Err, IfErr, is_some}
use Rattle.std.specs.Result.{result_transpose}
use Rattle.tp_types.specs.declared.refusals.PoolError.{PoolError}
use Rattle.tp_types.specs.declared.refusals.PoolError.TheVariants.{TimedOut, TornRecord}
use Rattle.tp_types.specs.declared.configs.Config.{Config}
use Rattle.tp_book.specs.BookView.{BookView}
use Rattle.tp_book.specs.PassView.{PassView}
use Rattle.tp_types.specs.declared.ids.TaskId.{TaskId}
use Rattle.tp_pool_holds.specs.Answers.{is_removed}
use Rattle.tp_pool_holds.specs.Moments.{BookOf}
use Rattle.tp_pool_holds.specs.Readings.{got}
use Rattle.tp_pool_holds.specs.Steps.{removal_of}
use Rattle.tp_pool_holds.specs.declared.tasks.Payload.{Payload}

pub got_is : (found : Result (Option ℤ) PoolError) (r : Result ℤ PoolError) → result_transpose found ≡ Some r → found ≡ got r
got_is (Ok None) r is = absurd (cc)
got_is (Ok (Some v)) r is = let same : Ok v ≡ r = cc in subst (λ k. Ok (Some v) ≡ got k) same refl
got_is (Err e) r is = let same : Err e ≡ r = cc in subst (λ k. Err e ≡ got k) same refl

pub none_is : (found : Result (Option ℤ) PoolError) → result_transpose found ≡ None → found ≡ Ok None
none_is (Ok None) is = refl
none_is (Ok (Some v)) is = absurd (cc)
none_is (Err e) is = absurd (cc)

-- a torn record is not late
pub never_late : {A : Type 0} (X Y : PoolError → Type 0) (r : Result A PoolError) → IfErr r (λ e. (e ≡ TornRecord) × X e) → IfErr r (λ e. e ≡ TimedOut → Y e)
never_late X Y (Ok a) refused = tt
never_late X Y (Err e) refused = λ late. absurd (let same : TornRecord ≡ TimedOut = sym refused.0 ∙ late in cc)

-- what is so of the book that a pass knows
pub of_book : {P : Type 0} (c : Config) (p : PassView) (F G : BookView P → Type 0) → ((b : BookView P) → F b → G b) → BookOf P c p F → BookOf P c p G
of_book c p F G f of = record { book = of.book; is = of.is; at = of.at; released = of.released; holds = f of.book of.holds }

-- what a remove answers says whether the task was queued
pub removed_is : {J : Type 0} (handed : Option (TaskId × Option (Payload J))) → is_some handed ≡ is_removed (removal_of handed)
removed_is None = refl
removed_is (Some h) = refl
