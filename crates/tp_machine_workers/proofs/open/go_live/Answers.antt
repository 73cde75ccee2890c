use Rattle.std.proofs.Common.{◌≡◌, Some, ◌⊎◌, inl, inr, sym, ◌∙◌}
use Rattle.tp_types.specs.declared.ids.SlotId.{SlotId}
use Rattle.tp_types.specs.declared.ids.TaskId.{TaskId}
use Rattle.tp_record.specs.declared.entries.Ask.TheVariants as ask
use Rattle.tp_record.specs.declared.entries.Did.TheVariants as did
use Rattle.tp_record.specs.declared.entries.Opened.TheVariants as opened
use Rattle.tp_record.specs.State.{slot_at}
use Rattle.tp_laws.proofs.Model.Given.{Given}
use Rattle.tp_laws.proofs.Effects.Rows.{bare}
use Rattle.tp_machine_state.specs.declared.parts.Parts.{Parts}
use Rattle.tp_machine_state.specs.Steps.{Stands, Fits}
use Rattle.tp_machine_state.specs.Terms.{terms}
use Rattle.tp_machine_state.proofs.Standing.{given_here, seat_here}
use Rattle.tp_machine_workers.proofs.Reserved.{IsFor, reserved_here, is_core, is_maximum, is_bare}
use Rattle.std.proofs.lemmas.Option.{none-some}
use Rattle.tp_machine_workers.proofs.open.go_live.Goals as goal

-- what the slot was reserved for whose worker is made
opened_here : {P : Type 0} (p : Parts P) (stands : Stands p) (w : SlotId) → Fits p (ask.Open w) (did.Open w opened.Live) →
    (slot_at p.slots.slots w.0 ≡ Some bare) ⊎ ((t : TaskId) × IsFor (slot_at p.slots.slots w.0) t)
opened_here p stands w fits = by (given_here p stands (ask.Open w) (did.Open w opened.Live) fits)
  where
    by : Given (terms p) stands.history (did.Open w opened.Live) → (slot_at p.slots.slots w.0 ≡ Some bare) ⊎ ((t : TaskId) × IsFor (slot_at p.slots.slots w.0) t)
    by (inl given) = inl (seat_here p stands w.0 _ _ given.0)
    by (inr given) = inr (given.0, reserved_here p stands w.0 given.0 given.1)

pub live_core-requires-clause-seat : goal.live_core-requires-clause-seat
live_core-requires-clause-seat g c =
    let p = c.args.parts.now in
    is_core _ c.in-Some.slot (sym c.get.ensures ∙ c.in-Some.is) c.in-ReservedCore.is (opened_here p c.requires.stands c.args.w c.requires.fits)

pub live_maximum-requires-clause-seat : goal.live_maximum-requires-clause-seat
live_maximum-requires-clause-seat g c =
    let p = c.args.parts.now in
    is_maximum _ c.in-Some.slot (sym c.get.ensures ∙ c.in-Some.is) c.in-ReservedMaximum.is (opened_here p c.requires.stands c.args.w c.requires.fits)

pub live_bare-requires : goal.live_bare-requires
live_bare-requires g c =
    let p = c.args.parts.now in
    record {
      stands = c.requires.stands;
      fits = c.requires.fits;
      seat = is_bare _ c.in-Some.slot (sym c.get.ensures ∙ c.in-Some.is) c.in_default-stage.not-ReservedCore c.in_default-stage.not-ReservedMaximum (opened_here p c.requires.stands c.args.w c.requires.fits);
    }

pub unreachable-requires : goal.unreachable-requires
unreachable-requires g c =
    let p = c.args.parts.now in
    let none = sym c.get.ensures ∙ c.in_default.is in
    elim (opened_here p c.requires.stands c.args.w c.requires.fits) [
      | inl bare ↦ none-some _ (sym none ∙ bare)
      | inr first ↦ elim first.1 [
        | inl core ↦ none-some _ (sym none ∙ core)
        | inr most ↦ none-some _ (sym none ∙ most)
      ]
    ]
