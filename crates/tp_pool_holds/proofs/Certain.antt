-- Which refusals of a pool are Step's own.
use Rattle.std.proofs.Common.{◌≡◌, ℕ, Bool, true, Option, Some, None, inl, inr, refl}
use Rattle.std.specs.Prelude.{is_none, if◌then◌else◌}
use Rattle.tp_types.specs.declared.configs.Config.{Config}
use Rattle.tp_types.specs.declared.refusals.PoolError.{PoolError}
use Rattle.tp_record.specs.declared.entries.Ask.{Ask}
use Rattle.tp_record.specs.Left.{asked}
use Rattle.tp_book.specs.PassView.{PassView}
use Rattle.tp_pool_holds.specs.Passes.{IsRefusal, Refuses}
use Rattle.tp_pool_holds.proofs.Refusals.{unnamed}
use Rattle.tp_pool_holds.specs.Refusals.{none_forgotten}

-- a refusal is Step's own where no task that the ask names was forgotten
pub certain : (keeps : Bool) (c : Config) (p : PassView) (a : Ask) (e : PoolError) → IsRefusal keeps c p a e → IsRefusal (none_forgotten keeps a) c p a e
certain keeps c p a e refused = by (asked a) refl
  where
    by : (o : Option ℕ) → asked a ≡ o → IsRefusal (if is_none o then true else keeps) c p a e
    by None none = unnamed keeps c p a e none refused
    by (Some t) some = refused

-- also where memory may be wanted
pub certainly : (keeps : Bool) (c : Config) (Lacks : Type 0) (p : PassView) (a : Ask) (e : PoolError) → Refuses keeps c Lacks p a e → Refuses (none_forgotten keeps a) c Lacks p a e
certainly keeps c Lacks p a e (inl want) = inl want
certainly keeps c Lacks p a e (inr refused) = inr (certain keeps c p a e refused)
