-- What the step that tells of a slot is to a caller's pass.
use Rattle.std.proofs.Common.{◌≡◌, Bool, true, false, List, None, refl, sym, subst}
use Rattle.std.specs.Prelude.{Result, Ok, Err, IfErr, OnErr}
use Rattle.tp_types.specs.declared.configs.Config.{Config}
use Rattle.tp_types.specs.declared.ids.SlotId.{SlotId}
use Rattle.tp_types.specs.declared.refusals.PoolError.{PoolError}
use Rattle.tp_record.specs.declared.entries.Ask.{Ask}
use Rattle.tp_record.specs.declared.entries.Entry.{Entry}
use Rattle.tp_record.specs.Left.{asked}
use Rattle.tp_machine.specs.Steps.{IsRefusedAt}
use Rattle.tp_glance.specs.Word.{IsFrontOf}
use Rattle.tp_book.specs.PassView.{PassView}
use Rattle.tp_pool_holds.specs.Moments.{AtFront}
use Rattle.tp_pool_holds.specs.Passes.{LooksOnly, opening}
use Rattle.tp_pool_holds.specs.Steps.{Refused}
use Rattle.tp_pool_holds.specs.Waits.{HasNoOutcome}
use Rattle.tp_pool_holds.proofs.Adding.{legal_refused, own_refusal}

-- it names no task, and no outcome comes with it
names_none : (w : SlotId) (staffed : Bool) → asked (opening w staffed) ≡ None
names_none w true = refl
names_none w false = refl

has_no_outcome : (w : SlotId) (staffed : Bool) → HasNoOutcome (opening w staffed)
has_no_outcome w true = tt
has_no_outcome w false = tt

module _ {J : Type 0} (keeps : Bool) (c : Config) where
  -- so its refusal is Step's own
  pub opening_refused : (before : List Entry) (w : SlotId) (staffed : Bool) (e : PoolError) (after : List Entry) →
      Refused J keeps c before (opening w staffed) e after → AtFront c after (λ s. IsRefusedAt c s (opening w staffed) e)
  opening_refused before w staffed e after refused = own_refusal c keeps before (opening w staffed) e after (names_none w staffed) (has_no_outcome w staffed) refused

-- a pass whose step was refused has looked
pub looked : (J : Type 0) (keeps : Bool) (c : Config) {A : Type 0} (old new : PassView) (a : Ask) (r : Result A PoolError) →
    IfErr r (λ e. Refused J keeps c old.front a e new.front) → OnErr r (new ≡ record old { front = new.front; released = new.released }) → OnErr r (LooksOnly c old new)
looked J keeps c old new a (Ok x) refused shown = tt
looked J keeps c old new a (Err e) refused shown =
    (shown, subst (λ h. IsFrontOf old.front h) (sym refused.shown) refused.goes_on, legal_refused c keeps old.front a e new.front refused)
