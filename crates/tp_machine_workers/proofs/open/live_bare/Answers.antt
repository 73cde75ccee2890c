use Rattle.std.proofs.Common.{◌-◌, arith, refl, sym, ap, ◌∙◌}
use Rattle.std.specs.Prelude.{count_by}
use Rattle.tp_record.specs.declared.entries.Ask.TheVariants as ask
use Rattle.tp_record.specs.declared.entries.Did.TheVariants as did
use Rattle.tp_record.specs.declared.entries.Opened.TheVariants as opened
use Rattle.tp_record.specs.Fields.{is_live}
use Rattle.tp_record.specs.State.{state, slot_at}
use Rattle.tp_slots.specs.Table.{working_row}
use Rattle.tp_laws.specs.View.{put}
use Rattle.tp_laws.proofs.Effects.Workers.Open.{open_bare}
use Rattle.tp_machine_state.proofs.Standing.{entry_here}
use Rattle.tp_machine_state.proofs.Leading.{leads_from}
use Rattle.tp_machine_state.proofs.Slots.{views_slots}
use Rattle.tp_machine_workers.proofs.Falls.{rises_at_take}
use Rattle.tp_machine_state.specs.Terms.{terms}
use Rattle.tp_machine_workers.proofs.open.live_bare.Goals as goal

pub count_entry-requires : goal.count_entry-requires
count_entry-requires g c =
    let old = c.args.parts.now in
    let stands = c.requires.stands in
    let d = did.Open c.args.w opened.Live in
    let n = c.owed_at_take-owed.result in
    let small = c.owed_at_take-owed.ensures.bound in
    let seat = stands.shows.seen.seats c.args.w.0 ∙ c.requires.seat in
    let e = entry_here old stands (ask.Open c.args.w) d _ 3 n (3 - n) c.requires.fits
    (λ given. rises_at_take old _ d _ stands.shows.seen.rank n 3 c.owed_at_take-owed.ensures.owed (open_bare (terms old) stands.history c.args.w stands.legal given seat)) (omega (arith, small)) (omega (arith, small)) in
    record { few = e.0; fall = e.1 }

pub returns-clause-leads : goal.returns-clause-leads
returns-clause-leads g c =
    let old = c.args.parts.now in
    let d = did.Open c.args.w opened.Live in
    let n = c.owed_at_take-owed.result in
    let small = c.owed_at_take-owed.ensures.bound in
    let k = c.count_entry.ensures in
    let r = c.open.ensures in
    let row = ap (λ p. working_row (slot_at p.slots.slots c.args.w.0)) k.rest ∙ ap working_row c.requires.seat in
    leads_from old c.open.new.self (ask.Open c.args.w) d 3 n (3 - n) c.requires.stands c.requires.fits
    (λ h rs legal given sh. (
      _,
      rises_at_take old _ d _ sh.seen.rank n 3 c.owed_at_take-owed.ensures.owed (open_bare (terms old) h c.args.w legal given (sh.seen.seats c.args.w.0 ∙ c.requires.seat)),
      views_slots _ _ _ _ _ _ (λ x. ap (λ o. put c.args.w.0 o (slot_at (state (terms old) h).slots) x) (sym row)) refl
          (r.views _ (sh.live ∙ sym (ap (λ p. count_by is_live p.slots.slots) k.rest)) (k.views _ sh.seen)),
    ))
    (omega (arith, small)) (ap terms r.rest ∙ ap terms k.rest) (ap (λ p. p.steps) r.rest ∙ ap (λ p. p.steps) k.rest) (ap (λ p. p.due) r.rest ∙ ap (λ p. p.due) k.rest)
    (λ tied. r.tied _ _ (k.tied _ _ tied))
