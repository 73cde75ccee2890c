-- A setting is changed: one entry more, by which as much is owed as before.
use Rattle.std.proofs.Common.{◌≡◌, ℕ, suc, ◌-◌, List, refl}
use Rattle.tp_record.specs.declared.entries.Entry.{Entry}
use Rattle.tp_record.specs.declared.entries.Ask.{Ask}
use Rattle.tp_record.specs.declared.entries.Did.{Did}
use Rattle.tp_record.specs.Left.{mark}
use Rattle.tp_record.specs.State.{state}
use Rattle.tp_record.specs.Step.{Legal}
use Rattle.tp_laws.proofs.Model.Given.{Given}
use Rattle.tp_laws.specs.View.{View, Effect}
use Rattle.tp_machine_state.specs.declared.parts.Parts.{Parts}
use Rattle.tp_machine_state.specs.Shows.{Views, Shows}
use Rattle.tp_machine_state.specs.Tied.{IsTied}
use Rattle.tp_machine_state.specs.Steps.{Stands, Accepts, Leads}
use Rattle.tp_machine_state.specs.Terms.{terms}
use Rattle.tp_machine_state.proofs.Standing.{fits_accepted}
use Rattle.tp_machine_state.proofs.Leading.{leads_from}

module _ {P : Type 0} (old : Parts P) (stands : Stands old) where
  pub setting_leads : (new : Parts P) (a : Ask) (d : Did) → Accepts old a d →
      ((h : List Entry) (rs : List ℕ) → Legal (terms old) h → Given (terms old) h d → Shows old (mark rs (state (terms old) h)) → (v : View) × Effect (state (terms old) h) d v 0 0 × Views new (record v { left_out = rs })) →
      terms new ≡ terms old → new.steps ≡ suc old.steps → new.due ≡ old.due - 0 → (IsTied (terms old) (suc old.steps) old → IsTied (terms old) (suc old.steps) new) → Leads old d new
  setting_leads new a d accepts effects config steps due tied = leads_from old new a d 0 0 0 stands (fits_accepted old a d accepts) effects refl config steps due tied
