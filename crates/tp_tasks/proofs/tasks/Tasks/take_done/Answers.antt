use Rattle.std.proofs.Common.{◌≡◌, refl, sym, ap, subst, ◌∙◌, inl, inr}
use Rattle.std.proofs.lemmas.Bool.{cases_eq, ne_eqb}
use Rattle.tp_tasks.specs.Groups.{pending_of_group, pending_in}
use Rattle.tp_tasks.specs.Table.{row_of_task, promise_of_task, number_of_task, payload_of_task}
use Rattle.tp_tasks.proofs.Listed.{handed_task, kept_still, listed_taken}
use Rattle.tp_tasks.proofs.Rows.{submitted_stays, counted_stays, grouped_stays}
use Rattle.tp_tasks.proofs.tasks.Tasks.take_done.Goals as goal

pub invariant_of-self : goal.invariant_of-self
invariant_of-self g c =
    let old = c.args.self.now in
    let m = c.unmark.new.tasks in
    let groups = c.take_done.new.groups in
    let t = c.in-Some.t in
    let out = c.take_done.ensures in
    let first = sym c.in-Some.is ∙ out.first in
    let kept = handed_task old.tasks m old.groups groups c.args.g t old.listed first out.done out.others in
    let set = c.unmark.ensures kept.0 kept.1 in
    record {
      small = old.small;
      below = submitted_stays old.tasks m t kept.0 _ kept.1 set old.submitted old.below;
      counted = counted_stays old.tasks m t kept.0 _ kept.1 set refl refl old.fates old.submitted old.counted;
      grouped = λ h. elim (cases_eq c.args.g h) [
        | inl same ↦ subst (λ x. pending_in groups x ≡ pending_in old.groups x) same out.pending
        | inr apart ↦ ap pending_of_group (out.others h (ne_eqb c.args.g h apart))
      ] ∙ grouped_stays old.tasks m t kept.0 _ kept.1 set refl refl old.groups old.grouped h;
      listed = listed_taken old.tasks m old.groups groups c.args.g t old.listed first out.done out.others set;
    }

pub returns-in-Some-clause-rows : goal.returns-in-Some-clause-rows
returns-in-Some-clause-rows g c =
    let old = c.args.self.now in
    let out = c.take_done.ensures in
    kept_still old.tasks c.unmark.new.tasks old.groups c.take_done.new.groups c.args.g c.in-Some.t old.listed (sym c.in-Some.is ∙ out.first) out.done out.others c.unmark.ensures row_of_task (λ v. refl)

pub returns-in-Some-clause-promises : goal.returns-in-Some-clause-promises
returns-in-Some-clause-promises g c =
    let old = c.args.self.now in
    let out = c.take_done.ensures in
    kept_still old.tasks c.unmark.new.tasks old.groups c.take_done.new.groups c.args.g c.in-Some.t old.listed (sym c.in-Some.is ∙ out.first) out.done out.others c.unmark.ensures promise_of_task (λ v. refl)

pub returns-in-Some-clause-numbers : goal.returns-in-Some-clause-numbers
returns-in-Some-clause-numbers g c =
    let old = c.args.self.now in
    let out = c.take_done.ensures in
    kept_still old.tasks c.unmark.new.tasks old.groups c.take_done.new.groups c.args.g c.in-Some.t old.listed (sym c.in-Some.is ∙ out.first) out.done out.others c.unmark.ensures number_of_task (λ v. refl)

pub returns-in-Some-clause-payloads : goal.returns-in-Some-clause-payloads
returns-in-Some-clause-payloads g c =
    let old = c.args.self.now in
    let out = c.take_done.ensures in
    kept_still old.tasks c.unmark.new.tasks old.groups c.take_done.new.groups c.args.g c.in-Some.t old.listed (sym c.in-Some.is ∙ out.first) out.done out.others c.unmark.ensures payload_of_task (λ v. refl)
