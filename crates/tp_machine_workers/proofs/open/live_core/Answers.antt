use Rattle.std.proofs.Common.{suc, refl, sym, ap, ◌∙◌, arith}
use Rattle.std.specs.Prelude.{count_by}
use Rattle.tp_record.specs.declared.entries.Ask.TheVariants as ask
use Rattle.tp_record.specs.declared.entries.Did.TheVariants as did
use Rattle.tp_record.specs.declared.entries.Opened.TheVariants as opened
use Rattle.tp_record.specs.Fields.{is_live}
use Rattle.tp_record.specs.State.{state, slot_at}
use Rattle.tp_slots.specs.Table.{working_row}
use Rattle.tp_laws.specs.View.{put}
use Rattle.tp_laws.proofs.Effects.Workers.Open.{open_core}
use Rattle.tp_machine_state.proofs.Standing.{entry_here}
use Rattle.tp_machine_state.proofs.Leading.{leads_from}
use Rattle.tp_machine_state.proofs.Slots.{views_slots}
use Rattle.tp_machine_state.specs.Terms.{terms}
use Rattle.tp_machine_workers.proofs.open.live_core.Goals as goal

pub count_entry-requires : goal.count_entry-requires
count_entry-requires g c =
    let stands = c.requires.stands in
    let seat = stands.shows.seen.seats c.args.w.0 ∙ c.requires.seat.1 in
    let e = entry_here c.args.parts.now stands (ask.Open c.args.w) (did.Open c.args.w opened.Live) _ 5 0 5 c.requires.fits
    (λ given. open_core (terms c.args.parts.now) stands.history c.args.w c.requires.seat.0 stands.legal given seat) refl (omega arith) in
    record { few = e.0; fall = e.1 }

pub returns-clause-leads : goal.returns-clause-leads
returns-clause-leads g c =
    let old = c.args.parts.now in
    let k = c.count_entry.ensures.rest in
    let r = c.open.ensures.rest in
    let row = ap (λ p. working_row (slot_at p.slots.slots c.args.w.0)) k ∙ ap working_row c.requires.seat.1 in
    leads_from old c.open.new.self (ask.Open c.args.w) (did.Open c.args.w opened.Live) 5 0 5 c.requires.stands c.requires.fits
    (λ h rs legal given sh. (
      _,
      open_core (terms old) h c.args.w c.requires.seat.0 legal given (sh.seen.seats c.args.w.0 ∙ c.requires.seat.1),
      views_slots _ _ _ _ _ _ (λ x. ap (λ o. put c.args.w.0 o (slot_at (state (terms old) h).slots) x) (sym row)) refl
          (c.open.ensures.views _ (sh.live ∙ sym (ap (λ p. count_by is_live p.slots.slots) k)) (c.count_entry.ensures.views _ sh.seen)),
    ))
    refl (ap terms r ∙ ap terms k) (ap (λ p. p.steps) r ∙ ap (λ p. p.steps) k) (ap (λ p. p.due) r ∙ ap (λ p. p.due) k)
    (λ tied. c.open.ensures.tied (terms old) (suc old.steps) (c.count_entry.ensures.tied (terms old) (suc old.steps) tied))
