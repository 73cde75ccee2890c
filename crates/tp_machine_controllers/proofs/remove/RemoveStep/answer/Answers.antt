use mir.Val.{bool_byte}
use Rattle.std.proofs.Common.{◌*◌, refl, ap, ◌∙◌}
use Rattle.tp_record.specs.declared.entries.Ask.TheVariants as ask
use Rattle.tp_record.specs.declared.entries.Did.TheVariants as did
use Rattle.tp_machine_state.proofs.Rules.{accepts_in, denies_in}
use Rattle.tp_machine_controllers.proofs.Removals.{remove_moves}
use Rattle.tp_machine_controllers.proofs.remove.RemoveStep.answer.Goals as goal

pub returns-clause-fits : goal.returns-clause-fits
returns-clause-fits g c =
    let p = c.args.parts.now in
    let t = c.args.self.0 in
    accepts_in p (ask.Remove t) (did.Remove t) (λ w s. refl) (6 * c.from.result) 0 (λ x. refl) c.remove-queued.result
    (λ b is. remove_moves p t b c.from.result (c.from.ensures ∙ ap bool_byte (rw is at c.unwrap_or.ensures))) c.in_room.result c.in_room.ensures c.remove-queued.ensures

pub returns-clause-denies : goal.returns-clause-denies
returns-clause-denies g c =
    let p = c.args.parts.now in
    let t = c.args.self.0 in
    denies_in p (ask.Remove t) (did.Remove t) (λ w s. refl) (6 * c.from.result) 0 (λ x. refl) tt c.remove-queued.result
    (λ b is. remove_moves p t b c.from.result (c.from.ensures ∙ ap bool_byte (rw is at c.unwrap_or.ensures))) c.in_room.result c.in_room.ensures c.remove-queued.ensures
