use Rattle.std.proofs.Common.{◌≡◌, Option, Some, subst, ap, ◌∙◌}
use Rattle.std.specs.Prelude.{IfSome}
use Rattle.tp_types.specs.declared.ids.SlotId.{SlotId}
use Rattle.tp_record.specs.declared.entries.Ask.TheVariants as ask
use Rattle.tp_record.specs.declared.entries.Did.TheVariants as did
use Rattle.tp_machine_state.specs.Steps.{Fits}
use Rattle.tp_machine_workers.proofs.leave.LeaveStep.apply.Goals as goal

-- the slot that is reserved again is the worker's own
own_next : (w : SlotId) (o : Option SlotId) (v : SlotId) → o ≡ Some v → IfSome o (λ x. x ≡ w) → o ≡ Some w
own_next w o v is own = is ∙ ap (λ x. Some x) (subst (λ y. IfSome y (λ x. x ≡ w)) is own)

pub alone-requires-clause-fits : goal.alone-requires-clause-fits
alone-requires-clause-fits g c = subst (λ o. Fits c.args.parts.now (ask.Leave c.args.self.0) (did.Leave c.args.self.0 o)) c.in-None.is c.requires.fits

pub renewed-requires-clause-fits : goal.renewed-requires-clause-fits
renewed-requires-clause-fits g c =
    subst (λ o. Fits c.args.parts.now (ask.Leave c.args.self.0) (did.Leave c.args.self.0 o)) (own_next c.args.self.0 _ c.in-Some.field-0 c.in-Some.is c.requires.next) c.requires.fits
