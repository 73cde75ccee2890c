use Rattle.std.proofs.Common.{refl, sym, ◌∙◌}
use Rattle.std.proofs.lemmas.Bool.{true≢false}
use Rattle.tp_machine_state.proofs.Forgetting.{kept_here, ended_here, unqueued_here}
use Rattle.tp_machine.proofs.Released.{marked}
use Rattle.tp_machine.proofs.Releasing.{kept_at, released, released_sound}
use Rattle.tp_machine.proofs.machine.tallied.Machine+P+Tally.release.Goals as goal

pub returns-then-not-owes_nothing-clause-refused : goal.returns-then-not-owes_nothing-clause-refused
returns-then-not-owes_nothing-clause-refused g c =
    kept_at _ c.self.inside.parts c.self.inside.noted c.args.self.now c.args.t.0 _ c.self.view_is
    (λ h rs at. kept_here c.self.inside.parts h rs at.legal (marked _ _ h rs at) c.args.t.0 c.in-Some.row (sym c.row.ensures ∙ c.in-Some.is) (λ owes. true≢false (sym (c.owes_nothing.ensures.1 owes) ∙ c.if-not-owes_nothing.true)))

pub forget_task-requires-clause-ended : goal.forget_task-requires-clause-ended
forget_task-requires-clause-ended g c =
    let s = c.self.invariant.stands in
    let row = sym c.row.ensures ∙ c.in-Some.is in
    (c.in-Some.row, row, ended_here c.self.inside.parts s.history s.released s.legal s.shows c.args.t.0 c.in-Some.row row (c.owes_nothing.ensures.0 c.if-not-owes_nothing.false))

pub forget_task-requires-clause-unqueued : goal.forget_task-requires-clause-unqueued
forget_task-requires-clause-unqueued g c =
    let s = c.self.invariant.stands in
    let row = sym c.row.ensures ∙ c.in-Some.is in
    unqueued_here c.self.inside.parts s.history s.released s.legal s.shows c.args.t.0 c.in-Some.row row (c.owes_nothing.ensures.0 c.if-not-owes_nothing.false) c.args.t refl

pub invariant_of-self : goal.invariant_of-self
invariant_of-self g c =
    released_sound _ _ c.self.inside.parts c.forget_task.new.self c.self.inside.noted c.args.t c.in-Some.row (sym c.row.ensures ∙ c.in-Some.is) (c.owes_nothing.ensures.0 c.if-not-owes_nothing.false)
    c.forget_task.ensures.rest c.forget_task.ensures.views c.forget_task.ensures.tied (λ h rs told. told) c.self.invariant

pub returns-clause-released : goal.returns-clause-released
returns-clause-released g c =
    released _ (λ x. 0) c.self.inside.parts c.forget_task.new.self c.self.inside.noted c.args.t c.in-Some.row (sym c.row.ensures ∙ c.in-Some.is) (c.owes_nothing.ensures.0 c.if-not-owes_nothing.false)
    c.forget_task.ensures.rest c.forget_task.ensures.views c.forget_task.ensures.tied (λ h rs told. told) c.args.self.now c.self.view_is
