-- What a wait for a future finds.
use Rattle.std.proofs.Common.{◌≡◌, ℕ, Bool, true, false, sym, subst}
use Rattle.std.specs.Prelude.{ℤ, Option, Some, None, Result, Ok, Err, IfSome}
use Rattle.tp_types.specs.declared.refusals.PoolError.{PoolError}
use Rattle.tp_record.specs.Effects.{Outcome}
use Rattle.tp_machine.specs.Readings.{value_in, outcome_given}
use Rattle.tp_book.specs.BookView.{BookView, recalled, state_of}
use Rattle.tp_pool_holds.specs.Readings.{has_come, unless_late, IsAsPromised, IsFound}

-- that it is late gives no outcome
late_promised : (late : Bool) (r : Result (Option ℤ) PoolError) (F : Outcome → Type 0) → IfSome (outcome_given r) F → IfSome (outcome_given (unless_late late r)) F
late_promised false r F is = is
late_promised true (Ok None) F is = tt
late_promised true (Ok (Some v)) F is = is
late_promised true (Err e) F is = is

pub found : {P : Type 0} (b : BookView P) (t : ℕ) (keeps : Bool) (deadline : Option ℕ) (now : ℕ) (late : Bool) (r f : Result (Option ℤ) PoolError)
    → now ≡ (state_of b).now → late ≡ has_come deadline now → r ≡ value_in (recalled keeps b) t → IsAsPromised b t r → f ≡ unless_late late r → IsFound b t keeps deadline f
found b t keeps deadline now late r f moment is-late value promised is =
    let come : late ≡ has_come deadline (state_of b).now = subst (λ n. late ≡ has_come deadline n) moment is-late in (
      subst (λ l. f ≡ unless_late l (value_in (recalled keeps b) t)) come (subst (λ v. f ≡ unless_late late v) value is),
      subst (λ v. IsAsPromised b t v) (sym is) (late_promised late r _ promised),
    )
