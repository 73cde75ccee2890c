-- What a cancel makes of a state, and that a task which has its fate has no payload.
use Rattle.std.proofs.Common.{◌≡◌, ℕ, Bool, true, false, Option, Some, None, refl, sym, ap, ◌∙◌, inl, inr}
use Rattle.std.specs.Prelude.{is_some, ◌&&◌, not, if◌then◌else◌}
use Rattle.std.proofs.lemmas.Bool.{cases_eq, eq-eqb, ne_eqb, false≢true}
use Rattle.tp_types.specs.declared.ids.TaskId.{TaskId}
use Rattle.tp_types.specs.declared.tasks.Fate.{Fate}
use Rattle.tp_types.specs.declared.tasks.Fate.TheVariants as fate
use Rattle.tp_types.specs.declared.tasks.Place.{Place}
use Rattle.tp_types.specs.declared.tasks.Place.TheVariants as at
use Rattle.tp_record.specs.declared.entries.Ask.TheVariants as ask
use Rattle.tp_record.specs.declared.entries.Did.TheVariants as did
use Rattle.tp_laws.proofs.Model.Readings.{row_read}
use Rattle.tp_laws.proofs.Model.Told.{told_legal}
use Rattle.tp_tasks.specs.declared.tasks.Tasks.{Tasks}
use Rattle.tp_tasks.specs.Tasks.{payload_of}
use Rattle.tp_laws.proofs.Effects.Invariants.{is_gone, unended}
use Rattle.tp_laws.proofs.Effects.Controllers.Cancel.{cancel, cancel_late}
use Rattle.tp_machine_state.specs.declared.parts.Parts.{Parts}
use Rattle.tp_machine_state.specs.Payloads.{HandsOut}
use Rattle.tp_machine_state.specs.Steps.{Stands, Fits}
use Rattle.tp_machine_state.specs.Tied.{is_before, waits}
use Rattle.tp_machine_state.specs.Terms.{terms}
use Rattle.tp_machine_state.proofs.Answering.{Moves}
use Rattle.tp_machine_state.proofs.Standing.{given_here, row_here, named_here}

-- what is owed neither falls nor rises
pub cancel_moves : {P : Type 0} (p : Parts P) (t : TaskId) (flag effective : Bool) → Moves p 0 0 (did.Cancel t flag effective)
cancel_moves p t flag true = λ h rs legal sh given. (_, cancel (terms p) h t flag legal given)
cancel_moves p t flag false = λ h rs legal sh given. (_, cancel_late (terms p) h t flag legal given)

-- a task that has its fate does not wait
unwaiting : (p : Place) (cancelled : Bool) (ending : Option Fate) → (is_gone p ≡ false → ending ≡ None) → is_some (if cancelled then Some fate.Cancelled else ending) ≡ true → (is_before p && not cancelled) ≡ false
unwaiting p true ending unended closed = off (is_before p)
  where
    off : (b : Bool) → (b && false) ≡ false
    off true = refl
    off false = refl
unwaiting at.Gone false ending unended closed = refl
unwaiting _ false ending unended closed = absurd (false≢true (sym (ap is_some (unended refl)) ∙ closed))

none_of : {A : Type 0} (o : Option A) → is_some o ≡ false → o ≡ None
none_of None is = refl
none_of (Some x) is = absurd (false≢true (sym is))

module _ {P : Type 0} where
  -- so there is no payload of one whose cancel comes late
  pub late_unpaid : (p : Parts P) → Stands p → (t : TaskId) (flag : Bool) → Fits p (ask.Cancel t flag) (did.Cancel t flag false) → payload_of p.tasks t.0 ≡ None
  late_unpaid p stands t flag fits =
      let h = stands.history in
      let given = given_here p stands (ask.Cancel t flag) (did.Cancel t flag false) fits in
      let there = row_here p stands t.0 given.0 (named_here p stands (ask.Cancel t flag) (did.Cancel t flag false) fits) in
      none_of (payload_of p.tasks t.0)
      (stands.tied.payloads t.0 ∙ ap waits (there ∙ ap (λ r. Some r) (row_read h t.0 given.0))
      ∙ unwaiting _ _ _ (unended (terms p) h (told_legal (terms p) h stands.legal) t.0) given.2)

  -- none goes out where there is none
  pub hands_out_none : (tasks : Tasks P) (t : ℕ) → payload_of tasks t ≡ None → HandsOut tasks tasks t None
  hands_out_none tasks t none = record {
    was = none;
    payloads = λ u. elim (cases_eq u t) [
      | inl same ↦ rw (eq-eqb u t same) (ap (payload_of tasks) same ∙ none)
      | inr ne ↦ rw (ne_eqb u t ne) refl
    ];
    promises = λ u. refl;
  }
