use Rattle.std.proofs.Common.{suc, None, arith, refl, ap, ◌∙◌}
use Rattle.tp_record.specs.declared.entries.Ask.TheVariants as ask
use Rattle.tp_record.specs.declared.entries.Did.TheVariants as did
use Rattle.tp_record.specs.declared.entries.Took.TheVariants as took
use Rattle.tp_record.specs.declared.rows.Stage.TheVariants as stages
use Rattle.tp_record.specs.State.{slot_at}
use Rattle.tp_laws.proofs.Effects.Workers.Take.{take_idle}
use Rattle.tp_machine_state.proofs.Standing.{entry_here, given_here, seat_here}
use Rattle.tp_machine_state.proofs.Leading.{leads_from}
use Rattle.tp_machine_state.specs.Terms.{terms}
use Rattle.tp_machine_workers.proofs.take.rest.Goals as goal

pub count_entry-requires : goal.count_entry-requires
count_entry-requires g c =
    let old = c.args.parts.now in
    let stands = c.requires.stands in
    let entry = entry_here old stands (ask.Take c.args.w) (did.Take c.args.w took.Idle) _ 1 0 1 c.requires.fits (λ given. take_idle (terms old) stands.history c.args.w stands.legal given) refl (omega arith) in
    record { few = entry.0; fall = entry.1 }

pub idle-requires : goal.idle-requires
idle-requires g c =
    let old = c.args.parts.now in
    let stands = c.requires.stands in
    let given = given_here old stands (ask.Take c.args.w) (did.Take c.args.w took.Idle) c.requires.fits in
    let entry = entry_here old stands (ask.Take c.args.w) (did.Take c.args.w took.Idle) _ 1 0 1 c.requires.fits (λ given. take_idle (terms old) stands.history c.args.w stands.legal given) refl (omega arith) in
    let few = entry.0 in
    let idlings = stands.tied.idlings in
    let same = ap (λ p. p.slots.idlings) c.count_entry.ensures.rest in
    record {
      working = ap (λ p. slot_at p.slots.slots c.args.w.0) c.count_entry.ensures.rest ∙ seat_here old stands c.args.w.0 stages.Working None given.0;
      few = omega (arith, few, idlings, same);
    }

pub returns-clause-leads : goal.returns-clause-leads
returns-clause-leads g c =
    let old = c.args.parts.now in
    let k = c.count_entry.ensures in
    let r = c.idle.ensures in
    let idlings = c.requires.stands.tied.idlings in
    let same = ap (λ p. p.slots.idlings) k.rest in
    leads_from old c.idle.new.self (ask.Take c.args.w) (did.Take c.args.w took.Idle) 1 0 1 c.requires.stands c.requires.fits
    (λ h rs legal given sh. (_, take_idle (terms old) h c.args.w legal given, r.views _ (k.views _ sh.seen)))
    refl (ap terms r.rest ∙ ap terms k.rest) (ap (λ p. p.steps) r.rest ∙ ap (λ p. p.steps) k.rest) (ap (λ p. p.due) r.rest ∙ ap (λ p. p.due) k.rest)
    (λ tied. r.tied (terms old) (suc old.steps) (k.tied (terms old) (suc old.steps) tied) (omega (arith, same, idlings)))
