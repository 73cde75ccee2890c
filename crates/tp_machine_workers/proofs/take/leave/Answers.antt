use Rattle.std.proofs.Common.{refl, sym, ap, arith, ◌∙◌}
use Rattle.tp_record.specs.declared.entries.Ask.TheVariants as ask
use Rattle.tp_record.specs.declared.entries.Did.TheVariants as did
use Rattle.tp_record.specs.declared.entries.Took.TheVariants as took
use Rattle.tp_record.specs.Fields.{is_idle_row, is_live}
use Rattle.tp_laws.proofs.Model.Readings.{slot_read}
use Rattle.tp_laws.proofs.Effects.Workers.Take.{take_leave}
use Rattle.tp_machine_state.proofs.Standing.{entry_here, given_here}
use Rattle.tp_machine_state.proofs.Leading.{leads_from}
use Rattle.tp_machine_state.proofs.Slots.{views_slots, busy_order}
use Rattle.tp_machine_workers.proofs.Falls.{falls_at_take}
use Rattle.tp_machine_workers.proofs.Waiting.{taking_row}
use Rattle.tp_record.specs.State.{slot_at}
use Rattle.tp_machine_state.specs.Terms.{terms}
use Rattle.tp_machine_workers.proofs.take.leave.Goals as goal

pub count_entry-requires : goal.count_entry-requires
count_entry-requires g c =
    let old = c.args.parts.now in
    let stands = c.requires.stands in
    let d = did.Take c.args.w took.Leave in
    let n = c.owed_at_take.result in
    let row = taking_row old stands c.args.w.0 (given_here old stands (ask.Take c.args.w) d c.requires.fits).0 c.requires.busy in
    let entry = entry_here old stands (ask.Take c.args.w) d _ n 0 n c.requires.fits
    (λ given. falls_at_take old _ d _ stands.shows.seen.rank n 0 c.owed_at_take.ensures.owed (take_leave (terms old) stands.history c.args.w stands.legal given (stands.shows.seen.seats c.args.w.0 ∙ row))) (omega arith) c.owed_at_take.ensures.least in
    record { few = entry.0; fall = entry.1 }

pub returns-clause-leads : goal.returns-clause-leads
returns-clause-leads g c =
    let old = c.args.parts.now in
    let stands = c.requires.stands in
    let d = did.Take c.args.w took.Leave in
    let n = c.owed_at_take.result in
    let k = c.count_entry.ensures in
    let r = c.free.ensures in
    let row = taking_row old stands c.args.w.0 (given_here old stands (ask.Take c.args.w) d c.requires.fits).0 c.requires.busy in
    leads_from old c.free.new.self (ask.Take c.args.w) d n 0 n stands c.requires.fits
    (λ h rs legal given sh.
    let seat = sh.seen.seats c.args.w.0 ∙ row in (
      _,
      falls_at_take old _ d _ sh.seen.rank n 0 c.owed_at_take.ensures.owed (take_leave (terms old) h c.args.w legal given seat),
      views_slots _ _ _ _ _ _ (λ x. refl) (sym (busy_order h c.args.w.0 (ap is_idle_row (sym (slot_read h c.args.w.0) ∙ seat)))) (r.views _ (k.views _ sh.seen)),
    ))
    (omega arith) (ap terms r.rest ∙ ap terms k.rest) (ap (λ p. p.steps) r.rest ∙ ap (λ p. p.steps) k.rest) (ap (λ p. p.due) r.rest ∙ ap (λ p. p.due) k.rest)
    (λ tied. r.tied _ _ (k.tied _ _ tied))

pub free-requires : goal.free-requires
free-requires g c =
    let old = c.args.parts.now in
    let stands = c.requires.stands in
    let given = given_here old stands (ask.Take c.args.w) (did.Take c.args.w took.Leave) c.requires.fits in
    ap (λ p. is_live (slot_at p.slots.slots c.args.w.0)) c.count_entry.ensures.rest
    ∙ ap is_live (taking_row old stands c.args.w.0 given.0 c.requires.busy)
