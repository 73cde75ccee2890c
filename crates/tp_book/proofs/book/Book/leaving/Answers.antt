use Rattle.std.proofs.Common.{◌≡◌, Some, refl, sym, ◌∙◌}
use Rattle.tp_types.specs.declared.ids.SlotId.{SlotId}
use Rattle.tp_record.specs.declared.entries.Ask.TheVariants as ask
use Rattle.tp_record.specs.declared.entries.Did.TheVariants as did
use Rattle.tp_record.specs.declared.entries.Took.TheVariants as took
use Rattle.tp_record.specs.State.{state}
use Rattle.tp_slots.specs.Table.{first_slot}
use Rattle.tp_machine_state.specs.Steps.{IsFitting}
use Rattle.tp_machine.specs.Seen.{config_of}
use Rattle.tp_book.proofs.Left.{else_left, take_left, take_whole}
use Rattle.tp_book.proofs.Reading.{some_holds, none_holds}
use Rattle.tp_book.proofs.book.Book.leaving.Goals as goal

pub returns-clause-leaves : goal.returns-clause-leaves
returns-clause-leaves g c =
    let held = c.self.invariant.0 in
    some_holds g.R.Recorder.tells g.R.Recorder.terms c.self.inside.machine c.self.inside.seat g.R.Recorder.RECEIPTS c.self.inside.accounts c.self.invariant.0 c.args.self.now c.self.view_is
    (λ settings s w. IsFitting settings s (ask.Take w) (did.Take w took.Leave)) _ c.leaving.ensures.leaves
    (λ w. take_left (config_of c.self.inside.machine) c.self.inside.seat.entries c.self.inside.seat.released held.stands.legal held.stands.may w took.Leave)

pub returns-clause-longest : goal.returns-clause-longest
returns-clause-longest g c =
    let held = c.self.invariant.0 in
    some_holds g.R.Recorder.tells g.R.Recorder.terms c.self.inside.machine c.self.inside.seat g.R.Recorder.RECEIPTS c.self.inside.accounts c.self.invariant.0 c.args.self.now c.self.view_is
    (λ _ s w. first_slot s.idling ≡ Some w) _ c.leaving.ensures.longest
    (λ w is. sym (else_left (λ s. first_slot s.idling) (λ _ _ _ _. refl) c.self.inside.seat.released (state (config_of c.self.inside.machine) c.self.inside.seat.entries)) ∙ is)

pub returns-clause-stays : goal.returns-clause-stays
returns-clause-stays g c =
    let held = c.self.invariant.0 in
    none_holds g.R.Recorder.tells g.R.Recorder.terms c.self.inside.machine c.self.inside.seat g.R.Recorder.RECEIPTS c.self.inside.accounts c.self.invariant.0 c.args.self.now c.self.view_is
    (λ settings s. (w : SlotId) → first_slot s.idling ≡ Some w → ¬ IsFitting settings s (ask.Take w) (did.Take w took.Leave)) _ c.leaving.ensures.stays
    (λ stays w is fits. stays w (else_left (λ s. first_slot s.idling) (λ _ _ _ _. refl) c.self.inside.seat.released (state (config_of c.self.inside.machine) c.self.inside.seat.entries) ∙ is)
    (take_whole (config_of c.self.inside.machine) c.self.inside.seat.entries c.self.inside.seat.released held.stands.legal held.stands.may w took.Leave fits))
