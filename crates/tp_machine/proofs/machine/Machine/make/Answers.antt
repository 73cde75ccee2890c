use Rattle.std.proofs.Common.{sym, subst}
use Rattle.tp_laws.specs.Reserved.{TakesNext}
use Rattle.tp_machine.proofs.Making.{noted_accepts, value_made, value_sound, denied_step}
use Rattle.tp_machine.proofs.machine.Machine.make.Goals as goal

pub note-requires-clause-accepts : goal.note-requires-clause-accepts
note-requires-clause-accepts g c =
    noted_accepts g.R.Recorder.tells g.R.Recorder.places c.self.inside.parts c.self.inside.noted c.args.self.now c.args.by _ _ _ _ c.ask.ensures c.did-did.ensures
    (g.met.S.Step.accepts c.args.step c.in-Ok.answer c.self.inside.parts c.self.invariant.stands c.in-Ok.ensures.fits)

pub note-requires-clause-next : goal.note-requires-clause-next
note-requires-clause-next g c = subst (TakesNext c.self.inside.parts.slots.next) (sym c.did-did.ensures) c.in-Ok.ensures.next

pub invariant_of-self : goal.invariant_of-self
invariant_of-self g c =
    value_sound g.R.Recorder.tells g.R.Recorder.places c.self.inside.parts c.self.inside.noted _ c.args.by _ _ _ _ c.ask.ensures c.did-did.ensures
    (g.met.S.Step.accepts c.args.step c.in-Ok.answer c.self.inside.parts c.self.invariant.stands c.in-Ok.ensures.fits)
    c.apply-out.ensures.leads c.note.ensures.tells c.self.invariant c.note.ensures.places

pub returns-clause-step : goal.returns-clause-step
returns-clause-step g c =
    value_made g.R.Recorder.tells g.R.Recorder.places c.self.inside.parts c.self.inside.noted _ c.args.by _ _ _ _ c.ask.ensures c.did-did.ensures
    (g.met.S.Step.accepts c.args.step c.in-Ok.answer c.self.inside.parts c.self.invariant.stands c.in-Ok.ensures.fits)
    c.apply-out.ensures.leads c.note.ensures.tells c.args.self.now c.self.view_is

pub returns-in-Err-clause-denied : goal.returns-in-Err-clause-denied
returns-in-Err-clause-denied g c = denied_step g.R.Recorder.tells c.self.inside.parts c.self.inside.noted c.args.self.now (g.S.Step.ask c.args.step) c.in-Err.error c.self.view_is c.in-Err.ensures.denies
