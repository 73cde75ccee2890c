use Rattle.std.proofs.Common.{suc, refl, sym, ap, ◌∙◌, None, arith}
use Rattle.tp_record.specs.declared.entries.Ask.TheVariants as ask
use Rattle.tp_record.specs.declared.entries.Did.TheVariants as did
use Rattle.std.proofs.Common.{None}
use Rattle.tp_record.specs.Fields.{is_idle_row, is_live}
use Rattle.tp_laws.proofs.Effects.Workers.Leave.{leave_alone}
use Rattle.tp_machine_state.proofs.Standing.{entry_here, seat_here, given_here}
use Rattle.tp_machine_state.proofs.Leading.{leads_from}
use Rattle.tp_machine_state.proofs.Slots.{views_slots, busy_order}
use Rattle.tp_record.specs.State.{slot_at}
use Rattle.tp_machine_state.specs.Terms.{terms}
use Rattle.tp_machine_workers.proofs.leave.alone.Goals as goal

pub count_entry-requires : goal.count_entry-requires
count_entry-requires g c =
    let old = c.args.parts.now in
    let stands = c.requires.stands in
    let e = entry_here old stands (ask.Leave c.args.w) (did.Leave c.args.w None) _ 4 0 4 c.requires.fits (leave_alone (terms old) stands.history c.args.w stands.legal) refl (omega arith) in
    record { few = e.0; fall = e.1 }

pub returns-clause-leads : goal.returns-clause-leads
returns-clause-leads g c =
    let old = c.args.parts.now in
    let k = c.count_entry.ensures.rest in
    let r = c.free.ensures.rest in
    leads_from old c.free.new.self (ask.Leave c.args.w) (did.Leave c.args.w None) 4 0 4 c.requires.stands c.requires.fits
    (λ h rs legal given sh. (_, leave_alone (terms old) h c.args.w legal given, views_slots _ _ _ _ _ _ (λ x. refl) (sym (busy_order h c.args.w.0 (ap is_idle_row given.0))) (c.free.ensures.views _ (c.count_entry.ensures.views _ sh.seen))))
    refl (ap terms r ∙ ap terms k) (ap (λ p. p.steps) r ∙ ap (λ p. p.steps) k) (ap (λ p. p.due) r ∙ ap (λ p. p.due) k)
    (λ tied. c.free.ensures.tied (terms old) (suc old.steps) (c.count_entry.ensures.tied (terms old) (suc old.steps) tied))

pub free-requires : goal.free-requires
free-requires g c =
    let old = c.args.parts.now in
    let stands = c.requires.stands in
    let given = given_here old stands (ask.Leave c.args.w) (did.Leave c.args.w None) c.requires.fits in
    ap (λ p. is_live (slot_at p.slots.slots c.args.w.0)) c.count_entry.ensures.rest
    ∙ ap is_live (seat_here old stands c.args.w.0 _ _ given.0)
