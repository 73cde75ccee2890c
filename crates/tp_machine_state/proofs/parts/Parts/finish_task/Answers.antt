use Rattle.std.proofs.Common.{◌+◌, not, ◌&&◌, cond, Some, refl, sym, ap, ◌∙◌}
use mathlib.Core.Path.{ap₂}
use Rattle.std.specs.Prelude.{is_some}
use Rattle.tp_types.specs.declared.tasks.Place.TheVariants as at
use Rattle.tp_record.specs.State.{is_fate}
use Rattle.tp_machine_state.proofs.Rows.{held_row, views_row, fate_unless}
use Rattle.tp_machine_state.proofs.Ties.{tied_paid}
use Rattle.tp_machine_state.proofs.parts.Parts.finish_task.Goals as goal

pub returns-clause-tied : goal.returns-clause-tied
returns-clause-tied g c = λ config n tied.
    let there = sym c.row.ensures ∙ c.in-Some.is in
    let p = c.take_payload-payload.ensures in
    let s = c.finish.ensures.set in
    tied_paid config n c.args.self.now tied c.finish.new.self c.args.t.0 c.in-Some.row _ there s.row (λ u e. s.others u e ∙ p.others u e) (s.number ∙ p.number) (s.promise ∙ p.promise) refl refl
    (ap (λ o. is_some o) (s.payload ∙ p.gone))

pub returns-clause-views : goal.returns-clause-views
returns-clause-views g c = λ v views.
    let old = c.args.self.now in
    let p = c.take_payload-payload.ensures in
    let s = c.finish.ensures in
    let there = sym c.row.ensures ∙ c.in-Some.is in
    let row = held_row old c.finish.new.self v views c.args.t.0 c.in-Some.row there in
    views_row old c.finish.new.self v views c.args.t.0 (λ u e. s.set.others u e ∙ p.others u e) c.in-Some.row (λ r. record r { place = at.Gone; ending = Some c.args.fate }) _ _ there s.set.row
    (s.set.submitted ∙ p.submitted)
    (λ f. ap₂ (λ n b. n + cond b 1 0) (views.fates f ∙ sym (p.fates f)) (fate_unless f c.args.fate _ ∙ ap (λ r. not r.cancelled && is_fate f (Some c.args.fate)) row.1) ∙ sym (s.fates f))
    (λ g. views.done g ∙ sym (s.done g ∙ p.done g))
