use Rattle.std.proofs.Common.{true, suc, Contains, arith, refl, sym, ap, subst, ◌∙◌}
use Rattle.tp_record.specs.declared.entries.Ask.TheVariants as ask
use Rattle.tp_record.specs.declared.entries.Did.TheVariants as did
use Rattle.tp_laws.proofs.Effects.Controllers.Remove.{remove}
use Rattle.tp_machine_state.specs.declared.parts.Parts.{Parts}
use Rattle.tp_machine_state.specs.Shows.{numbers}
use Rattle.tp_machine_state.specs.Tied.{AreKeyed}
use Rattle.tp_machine_state.specs.Terms.{terms}
use Rattle.tp_queue.specs.Queues.{waiting_of}
use Rattle.tp_tasks.specs.Tasks.{row_of}
use Rattle.tp_machine_state.proofs.Ties.{tied_more}
use Rattle.tp_machine_state.proofs.Standing.{fits_accepted, fall_here, falling_here}
use Rattle.tp_machine_state.proofs.Leading.{leads_by}
use Rattle.tp_machine_controllers.proofs.Removals.{removed_waits, removed_row}
use Rattle.tp_machine_controllers.proofs.remove.present.Goals as goal

pub count_entry-requires : goal.count_entry-requires
count_entry-requires g c =
    let old = c.args.parts.now in
    let e = falling_here old c.requires.stands (ask.Remove c.args.t) (did.Remove c.args.t true) _ 6 0 6 c.requires.accepts (remove (terms old) c.requires.stands.history c.args.t c.requires.stands.legal) refl in
    record { few = e.0; fall = e.1 }

pub unqueue-requires : goal.unqueue-requires
unqueue-requires g c =
    let fits = fits_accepted c.args.parts.now (ask.Remove c.args.t) (did.Remove c.args.t true) c.requires.accepts in
    let stands = c.requires.stands in
    let back = sym c.count_entry.ensures.rest in
    let W : Parts g.row.P.Denot → Type 0 = λ p. Contains (numbers (waiting_of p.queue).items) c.args.t.0 in
    record {
      queued = subst W back (removed_waits c.args.parts.now stands c.args.t fits);
      keyed = subst (λ (p : Parts g.row.P.Denot). AreKeyed p) back stands.tied.keyed;
    }

pub finish_task-requires : goal.finish_task-requires
finish_task-requires g c =
    let fits = fits_accepted c.args.parts.now (ask.Remove c.args.t) (did.Remove c.args.t true) c.requires.accepts in
    let r = removed_row c.args.parts.now c.requires.stands c.args.t fits in
    record { known = (r.0, ap (λ p. row_of p.tasks c.args.t.0) c.unqueue.ensures.rest ∙ ap (λ p. row_of p.tasks c.args.t.0) c.count_entry.ensures.rest ∙ r.1, r.2) }

pub returns-clause-leads : goal.returns-clause-leads
returns-clause-leads g c =
    let fits = fits_accepted c.args.parts.now (ask.Remove c.args.t) (did.Remove c.args.t true) c.requires.accepts in
    let old = c.args.parts.now in
    let k = c.count_entry.ensures in
    let q = c.unqueue.ensures in
    let m = c.finish_task.ensures in
    let fall = fall_here old c.requires.stands (ask.Remove c.args.t) (did.Remove c.args.t true) _ 6 0 6 fits (remove (terms old) c.requires.stands.history c.args.t c.requires.stands.legal) refl in
    let due = ap (λ p. p.due) m.rest ∙ ap (λ p. p.due) q.rest ∙ ap (λ p. p.due) k.rest in
    leads_by old c.finish_task.new.self (ask.Remove c.args.t) (did.Remove c.args.t true) 6 0 fits
    (λ h rs legal given sh. (_, remove (terms old) h c.args.t legal given, m.views _ (q.views _ (k.views _ sh.seen))))
    (ap terms m.rest ∙ ap terms q.rest ∙ ap terms k.rest) (ap (λ p. p.steps) m.rest ∙ ap (λ p. p.steps) q.rest ∙ ap (λ p. p.steps) k.rest) (omega (arith, due, fall))
    (m.tied (terms old) (suc old.steps) (q.tied (terms old) (suc old.steps) (k.tied (terms old) (suc old.steps) (tied_more (terms old) old.steps old c.requires.stands.tied))))
