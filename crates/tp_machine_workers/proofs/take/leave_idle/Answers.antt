use Rattle.std.proofs.Common.{refl, ap, ◌∙◌, arith}
use Rattle.tp_record.specs.declared.entries.Ask.TheVariants as ask
use Rattle.tp_record.specs.declared.entries.Did.TheVariants as did
use Rattle.tp_record.specs.declared.entries.Took.TheVariants as took
use Rattle.tp_laws.proofs.Effects.Workers.Take.{take_leave_idle}
use Rattle.tp_machine_state.proofs.Standing.{entry_here, given_here}
use Rattle.tp_machine_state.proofs.Leading.{leads_from}
use Rattle.tp_machine_workers.proofs.Waiting.{idle_row}
use Rattle.tp_machine_state.specs.Terms.{terms}
use Rattle.tp_machine_workers.proofs.take.leave_idle.Goals as goal

pub count_entry-requires : goal.count_entry-requires
count_entry-requires g c =
    let old = c.args.parts.now in
    let stands = c.requires.stands in
    let d = did.Take c.args.w took.Leave in
    let row = idle_row old stands c.args.w.0 (given_here old stands (ask.Take c.args.w) d c.requires.fits).0 c.requires.idle in
    let entry = entry_here old stands (ask.Take c.args.w) d _ 1 0 1 c.requires.fits (λ given. take_leave_idle (terms old) stands.history c.args.w row.0 stands.legal given (stands.shows.seen.seats c.args.w.0 ∙ row.1)) refl (omega arith) in
    record { few = entry.0; fall = entry.1 }

pub returns-clause-leads : goal.returns-clause-leads
returns-clause-leads g c =
    let old = c.args.parts.now in
    let stands = c.requires.stands in
    let d = did.Take c.args.w took.Leave in
    let k = c.count_entry.ensures in
    let r = c.free.ensures in
    let row = idle_row old stands c.args.w.0 (given_here old stands (ask.Take c.args.w) d c.requires.fits).0 c.requires.idle in
    leads_from old c.free.new.self (ask.Take c.args.w) d 1 0 1 stands c.requires.fits
    (λ h rs legal given sh. (_, take_leave_idle (terms old) h c.args.w row.0 legal given (sh.seen.seats c.args.w.0 ∙ row.1), r.views _ (k.views _ sh.seen)))
    refl (ap terms r.rest ∙ ap terms k.rest) (ap (λ p. p.steps) r.rest ∙ ap (λ p. p.steps) k.rest) (ap (λ p. p.due) r.rest ∙ ap (λ p. p.due) k.rest)
    (λ tied. r.tied _ _ (k.tied _ _ tied))
