use Rattle.std.proofs.Common.{◌≡◌, ℕ, ◌+◌, ◌++◌, ◌∷◌, [], List, cond, Bool, true, false, Some, refl, sym, ap, ◌∙◌}
use mathlib.Core.Path.{ap₂}
use Rattle.std.specs.Prelude.{◌&&◌, not}
use Rattle.std.proofs.lemmas.List.{append-nil}
use Rattle.tp_types.specs.declared.tasks.Place.TheVariants as at
use Rattle.tp_record.specs.State.{is_fate}
use Rattle.tp_record.specs.Step.{is_of_group}
use Rattle.tp_machine_state.proofs.Rows.{held_row, views_row, fate_unless}
use Rattle.std.proofs.lemmas.Option.{same_Some}
use Rattle.tp_machine_state.proofs.Ties.{tied_ended}
use Rattle.tp_machine_state.proofs.parts.Parts.complete_task.Goals as goal

pub returns-clause-tied : goal.returns-clause-tied
returns-clause-tied g c = λ config n tied.
    let r = c.requires.known.0 in
    let there = sym c.row.ensures ∙ c.in-Some.is in
    tied_ended config n c.args.self.now tied c.complete.new.self c.args.t.0 r _ c.args.outcome c.requires.known.1 (ap (λ b. b && not r.cancelled) c.requires.known.3) c.complete.ensures.set refl (ap (λ x. x.priority) (same_Some c.in-Some.row r (sym there ∙ c.requires.known.1))) refl c.requires.promised

pub returns-clause-views : goal.returns-clause-views
returns-clause-views g c = λ v views.
    let old = c.args.self.now in
    let s = c.complete.ensures in
    let there = sym c.row.ensures ∙ c.in-Some.is in
    let row = held_row old c.complete.new.self v views c.args.t.0 c.in-Some.row there in
    views_row old c.complete.new.self v views c.args.t.0 s.set.others c.in-Some.row (λ r. record r { place = at.Gone; ending = Some c.args.fate; outcome = Some c.args.outcome }) _ _ there s.set.row
    s.set.submitted
    (λ f. ap₂ (λ n b. n + cond b 1 0) (views.fates f) (fate_unless f c.args.fate _ ∙ ap (λ r. not r.cancelled && is_fate f (Some c.args.fate)) row.1) ∙ sym (s.fates f))
    (λ g. at_end (is_of_group g (v.tasks c.args.t.0).kind && not (v.tasks c.args.t.0).cancelled) _ _
    ∙ ap₂ (λ xs r. xs ++ cond (is_of_group g r.kind && not r.cancelled) (c.args.t.0 ∷ []) []) (views.done g) row.1 ∙ sym (s.done g))
  where
    at_end : (b : Bool) (xs : List ℕ) (t : ℕ) → cond b (xs ++ t ∷ []) xs ≡ xs ++ cond b (t ∷ []) []
    at_end true xs t = refl
    at_end false xs t = sym (append-nil xs)
