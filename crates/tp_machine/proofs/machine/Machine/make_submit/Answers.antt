use Rattle.std.proofs.Common.{ℕ, sym, ap, subst, refl, ◌∙◌}
use Rattle.tp_record.specs.declared.entries.Did.{Did}
use Rattle.tp_record.specs.declared.entries.Ask.TheVariants as ask
use Rattle.tp_record.specs.declared.entries.Did.TheVariants as did
use Rattle.tp_tasks.specs.Tasks.{submissions}
use Rattle.tp_machine_state.specs.Steps.{Accepts, Leads}
use Rattle.tp_machine.specs.Steps.{IsStep}
use Rattle.tp_machine.proofs.Stepping.{step_made, step_sound, same_sound, same_stays, step_after, refused_memory, refused_step, puts_after}
use Rattle.tp_machine_state.specs.Payloads.{PutsIn}
use Rattle.tp_machine_state.specs.Terms.{terms}
use Rattle.tp_machine.proofs.machine.Machine.make_submit.Goals as goal

pub invariant_of-self : goal.invariant_of-self
invariant_of-self g c =
    let p = c.prepare.ensures in
    same_sound g.R.Recorder.tells c.self.inside.parts c.prepare.new.parts c.self.inside.noted (ap terms p.rest) p.same g.R.Recorder.places (ap (λ x. x.steps) p.rest) p.stands.tied c.self.invariant

pub returns-in-Err-prepare-clause-refused : goal.returns-in-Err-prepare-clause-refused
returns-in-Err-prepare-clause-refused g c =
    refused_memory g.R.Recorder.tells c.self.inside.parts c.self.inside.noted c.args.self.now (ask.Submit c.args.kind c.args.priority) (did.Submit (record { 0 = submissions c.self.inside.parts.tasks }) c.args.kind c.args.priority c.in-Ok.looked) c.in-Err-prepare.error
    c.self.view_is c.in-Ok.ensures.accepts (λ s shows. tt) c.in-Err-prepare.ensures.refused

pub returns-in-Err-prepare-clause-unchanged : goal.returns-in-Err-prepare-clause-unchanged
returns-in-Err-prepare-clause-unchanged g c =
    let p = c.prepare.ensures in
    same_stays g.R.Recorder.tells c.self.inside.parts c.prepare.new.parts c.self.inside.noted (ap terms p.rest) p.same p.payloads c.args.self.now c.self.view_is

pub note-requires-clause-accepts : goal.note-requires-clause-accepts
note-requires-clause-accepts g c =
    let p = c.prepare.ensures in
    let D : ℕ → Did = λ n. did.Submit (record { 0 = n }) c.args.kind c.args.priority c.in-Ok.looked in
    subst (λ n. Accepts c.prepare.new.parts (ask.Submit c.args.kind c.args.priority) (D n)) (sym p.submitted ∙ sym c.submitted.ensures) (p.accepts (ask.Submit c.args.kind c.args.priority) (D (submissions c.self.inside.parts.tasks)) c.in-Ok.ensures.accepts)

pub apply-t-requires-clause-accepts : goal.apply-t-requires-clause-accepts
apply-t-requires-clause-accepts g c =
    let p = c.prepare.ensures in
    let D : ℕ → Did = λ n. did.Submit (record { 0 = n }) c.args.kind c.args.priority c.in-Ok.looked in
    subst (λ n. Accepts c.prepare.new.parts (ask.Submit c.args.kind c.args.priority) (D n)) (sym p.submitted) (p.accepts (ask.Submit c.args.kind c.args.priority) (D (submissions c.self.inside.parts.tasks)) c.in-Ok.ensures.accepts)

pub invariant_of-self-2 : goal.invariant_of-self-2
invariant_of-self-2 g c =
    let p = c.prepare.ensures in
    let D : ℕ → Did = λ n. did.Submit (record { 0 = n }) c.args.kind c.args.priority c.in-Ok.looked in
    let accepts = subst (λ n. Accepts c.prepare.new.parts (ask.Submit c.args.kind c.args.priority) (D n)) (sym p.submitted ∙ sym c.submitted.ensures) (p.accepts (ask.Submit c.args.kind c.args.priority) (D (submissions c.self.inside.parts.tasks)) c.in-Ok.ensures.accepts) in
    let sound = same_sound g.R.Recorder.tells c.self.inside.parts c.prepare.new.parts c.self.inside.noted (ap terms p.rest) p.same g.R.Recorder.places (ap (λ x. x.steps) p.rest) p.stands.tied c.self.invariant in
    step_sound g.R.Recorder.tells g.R.Recorder.places c.prepare.new.parts c.self.inside.noted _ c.args.by (ask.Submit c.args.kind c.args.priority) (D c.submitted.result)
    accepts (subst (λ n. Leads c.prepare.new.parts (D n) c.apply-t.new.parts) (c.apply-t.ensures.number ∙ sym c.submitted.ensures) c.apply-t.ensures.leads) c.note.ensures.tells sound c.note.ensures.places

pub returns-clause-step : goal.returns-clause-step
returns-clause-step g c =
    let p = c.prepare.ensures in
    let D : ℕ → Did = λ n. did.Submit (record { 0 = n }) c.args.kind c.args.priority c.in-Ok.looked in
    let accepts = subst (λ n. Accepts c.prepare.new.parts (ask.Submit c.args.kind c.args.priority) (D n)) (sym p.submitted ∙ sym c.submitted.ensures) (p.accepts (ask.Submit c.args.kind c.args.priority) (D (submissions c.self.inside.parts.tasks)) c.in-Ok.ensures.accepts) in
    subst (λ n. IsStep g.R.Recorder.tells c.args.self.now (record { parts = c.apply-t.new.parts; noted = c.note.new.noted }) c.args.by (ask.Submit c.args.kind c.args.priority) (D n)) (sym (c.apply-t.ensures.number ∙ sym c.submitted.ensures))
    (step_after g.R.Recorder.tells c.args.self.now (record { parts = c.prepare.new.parts; noted = c.self.inside.noted }) _ c.args.by (ask.Submit c.args.kind c.args.priority) (D c.submitted.result)
    (same_stays g.R.Recorder.tells c.self.inside.parts c.prepare.new.parts c.self.inside.noted (ap terms p.rest) p.same p.payloads c.args.self.now c.self.view_is)
    (step_made g.R.Recorder.tells g.R.Recorder.places c.prepare.new.parts c.self.inside.noted _ c.args.by (ask.Submit c.args.kind c.args.priority) (D c.submitted.result)
    accepts (subst (λ n. Leads c.prepare.new.parts (D n) c.apply-t.new.parts) (c.apply-t.ensures.number ∙ sym c.submitted.ensures) c.apply-t.ensures.leads) c.note.ensures.tells _ refl))

pub returns-in-Err-clause-refused : goal.returns-in-Err-clause-refused
returns-in-Err-clause-refused g c = refused_step g.R.Recorder.tells c.self.inside.parts c.self.inside.noted c.args.self.now (ask.Submit c.args.kind c.args.priority) c.in-Err.error c.self.view_is c.in-Err.ensures.refuses

pub returns-clause-payloads : goal.returns-clause-payloads
returns-clause-payloads g c =
    subst (λ m. PutsIn m.parts.tasks c.apply-t.new.parts.tasks c.apply-t.result.0 c.args.promise c.args.payload) c.self.view_is
    (puts_after c.self.inside.parts.tasks c.prepare.new.parts.tasks c.apply-t.new.parts.tasks c.apply-t.result.0 c.args.promise c.args.payload c.prepare.ensures.payloads c.apply-t.ensures.payloads)
