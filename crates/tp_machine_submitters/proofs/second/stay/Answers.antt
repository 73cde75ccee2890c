use Rattle.std.proofs.Common.{refl, ap, ◌∙◌, arith}
use Rattle.tp_record.specs.declared.entries.Ask.TheVariants as ask
use Rattle.tp_record.specs.declared.entries.Did.TheVariants as did
use Rattle.tp_record.specs.declared.entries.Seconded.TheVariants as seconded
use Rattle.tp_laws.proofs.Effects.Submitters.Second.{second_stay}
use Rattle.tp_record.specs.State.{state, task_at}
use Rattle.tp_tasks.specs.Tasks.{row_of}
use Rattle.tp_machine_state.proofs.Standing.{entry_here, given_here, row_here, owing_here}
use Rattle.tp_machine_state.proofs.Leading.{leads_from}
use Rattle.tp_machine_state.specs.Terms.{terms}
use Rattle.tp_machine_submitters.proofs.second.stay.Goals as goal

pub count_entry-requires : goal.count_entry-requires
count_entry-requires g c =
    let old = c.args.parts.now in
    let stands = c.requires.stands in
    let e = entry_here old stands (ask.Second c.args.t) (did.Second c.args.t seconded.Stay) _ 4 0 4 c.requires.fits (λ given. second_stay (terms old) stands.history c.args.t stands.legal given) refl (omega arith) in
    record { few = e.0; fall = e.1 }

pub clear_second-requires : goal.clear_second-requires
clear_second-requires g c =
    let old = c.args.parts.now in
    let stands = c.requires.stands in
    let given = given_here old stands (ask.Second c.args.t) (did.Second c.args.t seconded.Stay) c.requires.fits in
    record { known = (task_at (state (terms old) stands.history) c.args.t.0, ap (λ p. row_of p.tasks c.args.t.0) c.count_entry.ensures.rest ∙ row_here old stands c.args.t.0 given.0 (owing_here old stands c.args.t.0 given.0 given.1)) }

pub returns-clause-leads : goal.returns-clause-leads
returns-clause-leads g c =
    let old = c.args.parts.now in
    let k = c.count_entry.ensures in
    let m = c.clear_second.ensures in
    leads_from old c.clear_second.new.self (ask.Second c.args.t) (did.Second c.args.t seconded.Stay) 4 0 4 c.requires.stands c.requires.fits
    (λ h rs legal given sh. (_, second_stay (terms old) h c.args.t legal given, m.views _ (k.views _ sh.seen)))
    refl (ap terms m.rest ∙ ap terms k.rest) (ap (λ p. p.steps) m.rest ∙ ap (λ p. p.steps) k.rest) (ap (λ p. p.due) m.rest ∙ ap (λ p. p.due) k.rest)
    (λ tied. m.tied _ _ (k.tied _ _ tied))
