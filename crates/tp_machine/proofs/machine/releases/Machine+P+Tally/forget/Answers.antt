use Rattle.std.proofs.Common.{refl, sym, ap, ◌∙◌}
use Rattle.std.proofs.lemmas.Bool.{true≢false}
use Rattle.tp_types.specs.declared.refusals.PoolError.TheVariants.{NotThere}
use Rattle.tp_machine_state.proofs.Forgetting.{kept_here, ended_here, unqueued_here}
use Rattle.tp_machine.proofs.Released.{marked}
use Rattle.tp_machine.proofs.Releasing.{row_at, kept_at, not_kept, released, released_sound}
use Rattle.tp_machine.proofs.machine.releases.Machine+P+Tally.forget.Goals as goal

pub forget_task-requires-clause-ended : goal.forget_task-requires-clause-ended
forget_task-requires-clause-ended g c =
    let s = c.self.invariant.stands in
    let row = sym c.row.ensures ∙ c.in-Some.is in
    (c.in-Some.row, row, ended_here c.self.inside.parts s.history s.released s.legal s.shows c.args.t.0 c.in-Some.row row (c.owes_nothing.ensures.0 c.if-not-owes_nothing.false))

pub forget_task-requires-clause-unqueued : goal.forget_task-requires-clause-unqueued
forget_task-requires-clause-unqueued g c =
    let s = c.self.invariant.stands in
    let row = sym c.row.ensures ∙ c.in-Some.is in
    unqueued_here c.self.inside.parts s.history s.released s.legal s.shows c.args.t.0 c.in-Some.row row (c.owes_nothing.ensures.0 c.if-not-owes_nothing.false) c.args.t refl

pub invariant_of-self : goal.invariant_of-self
invariant_of-self g c =
    released_sound _ _ c.self.inside.parts c.forget_task.new.self c.self.inside.noted c.args.t c.in-Some.row (sym c.row.ensures ∙ c.in-Some.is) (c.owes_nothing.ensures.0 c.if-not-owes_nothing.false)
    c.forget_task.ensures.rest c.forget_task.ensures.views c.forget_task.ensures.tied (λ h rs told. told) c.self.invariant

pub returns-clause-stands : goal.returns-clause-stands
returns-clause-stands g c = λ h rs at.
    let row = sym c.row.ensures ∙ c.in-Some.is in
    (released _ (λ x. 0) c.self.inside.parts c.forget_task.new.self c.self.inside.noted c.args.t c.in-Some.row row (c.owes_nothing.ensures.0 c.if-not-owes_nothing.false)
    c.forget_task.ensures.rest c.forget_task.ensures.views c.forget_task.ensures.tied (λ h rs told. told) c.args.self.now c.self.view_is h rs at).1

pub returns-clause-forgets : goal.returns-clause-forgets
returns-clause-forgets g c = λ _ h rs at.
    let row = sym c.row.ensures ∙ c.in-Some.is in
    let made = released _ (λ x. 0) c.self.inside.parts c.forget_task.new.self c.self.inside.noted c.args.t c.in-Some.row row (c.owes_nothing.ensures.0 c.if-not-owes_nothing.false)
    c.forget_task.ensures.rest c.forget_task.ensures.views c.forget_task.ensures.tied (λ h rs told. told) c.args.self.now c.self.view_is h rs at in
    record { may = made.0; plain = ap (λ x. x.kind) (row_at _ c.self.inside.parts c.self.inside.noted c.args.self.now c.self.view_is c.args.t.0 c.in-Some.row row h rs at) ∙ c.in-Plain.is }

pub returns-then-not-owes_nothing-clause-keeps : goal.returns-then-not-owes_nothing-clause-keeps
returns-then-not-owes_nothing-clause-keeps g c = λ _ h rs at may.
    let row = sym c.row.ensures ∙ c.in-Some.is in
    not_kept _ c.args.t.0 NotThere (kept_at _ c.self.inside.parts c.self.inside.noted c.args.self.now c.args.t.0 NotThere c.self.view_is
    (λ k xs there. kept_here c.self.inside.parts k xs there.legal (marked _ _ k xs there) c.args.t.0 c.in-Some.row row (λ owes. true≢false (sym (c.owes_nothing.ensures.1 owes) ∙ c.if-not-owes_nothing.true))) h rs at) may.may
