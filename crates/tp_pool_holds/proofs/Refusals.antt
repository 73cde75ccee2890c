-- Which refusals of a book are refusals of Step.
use Rattle.std.proofs.Common.{◌≡◌, ℕ, Bool, true, false, Option, Some, None, inl, inr, ap, sym, true≢false, ◌∙◌}
use Rattle.std.specs.Prelude.{is_some}
use Rattle.tp_types.specs.declared.configs.Config.{Config}
use Rattle.tp_types.specs.declared.refusals.PoolError.{PoolError}
use Rattle.tp_types.specs.declared.refusals.PoolError.TheVariants.{UnknownTask}
use Rattle.tp_record.specs.declared.entries.Ask.{Ask}
use Rattle.tp_record.specs.declared.entries.Ask.TheVariants as ask
use Rattle.tp_record.specs.Left.{asked}
use Rattle.tp_machine.specs.Seen.{Seen}
use Rattle.tp_machine.specs.Stepped.{FitsOutcome}
use Rattle.tp_machine.specs.Steps.{IsRefusedAt}
use Rattle.tp_book.specs.BookView.{OrReleased}
use Rattle.tp_book.specs.PassView.{PassView}
use Rattle.tp_pool_holds.specs.Moments.{AtFront}
use Rattle.tp_pool_holds.specs.Passes.{IsRefusal, WasReleased}
use Rattle.tp_pool_holds.specs.Waits.{HasNoOutcome}

-- no promise is broken where no outcome comes
pub fits : {P R : Type 0} (m : Seen P R) (a : Ask) → HasNoOutcome a → FitsOutcome m a
fits m (ask.CallerEnd t o) none = absurd none
fits m (ask.End w o) none = absurd none
fits m _ none = tt

none_named : (a : Ask) (t : ℕ) → asked a ≡ None → ¬ (asked a ≡ Some t)
none_named a t none some = true≢false (ap (λ (o : Option ℕ). is_some o) (sym some ∙ none))

-- the ask names a task of which this is so
abbrev Names : (ℕ → Type 0) → Ask → Type 0
Names Fits a = (t : ℕ) × (asked a ≡ Some t) × Fits t

-- what is so unless the ask names a released task is so where it names none, whether or not the record is kept
pub unreleased : {So : Type 0} (keeps : Bool) (Fits : ℕ → Type 0) (a : Ask) (e : PoolError) → asked a ≡ None → OrReleased keeps So ((e ≡ UnknownTask) × Names Fits a) → So
unreleased true Fits a e none so = so
unreleased false Fits a e none (inl so) = so
unreleased false Fits a e none (inr named) = absurd (none_named a named.1.0 none named.1.1)

-- so such an ask is refused as Step refuses it
pub unnamed : (keeps : Bool) (c : Config) (p : PassView) (a : Ask) (e : PoolError) → asked a ≡ None → IsRefusal keeps c p a e → AtFront c p.front (λ s. IsRefusedAt c s a e)
unnamed keeps c p a e none refused = unreleased keeps (WasReleased c p) a e none refused
