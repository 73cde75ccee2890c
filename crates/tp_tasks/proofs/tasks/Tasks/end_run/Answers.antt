use Rattle.std.proofs.Common.{◌≡◌, ◌<◌, ◌&&◌, Bool, true, false, cond, [], ◌∷◌, ◌++◌, is_some, ap, refl, sym, subst, arith, ◌∙◌, Some}
use Rattle.std.specs.Prelude.{is_none, if◌then◌else◌}
use Rattle.tp_types.specs.declared.tasks.Fate.{Fate}
use Rattle.tp_types.specs.declared.tasks.Fate.TheVariants as fate
use Rattle.tp_record.specs.declared.rows.TaskRow.{TaskRow}
use Rattle.tp_record.specs.State.{fate_of, is_fate}
use Rattle.tp_record.specs.Step.{is_of_group}
use Rattle.tp_tasks.specs.Groups.{done_in}
use Rattle.tp_tasks.specs.Kept.{is_open_row}
use Rattle.tp_types.specs.declared.tasks.Place.TheVariants.{Gone}
use Rattle.tp_tasks.specs.Table.{task_in}
use Rattle.tp_tasks.proofs.Keeps.{counted-end, grouped-end, open_counts, row_counts}
use Rattle.tp_tasks.proofs.Listed.{listed_end}
use Rattle.tp_tasks.proofs.Rows.{row_task, ended_counts, gone_fated, submitted_stays, sets_row}
use Rattle.tp_tasks.proofs.tasks.Tasks.end_run.Goals as goal

pub close-requires : goal.close-requires
close-requires g c = λ h member. subst (λ n. 0 < n) (sym (c.args.self.now.grouped h)) (open_counts c.args.self.now.tasks h c.args.t.0 c.args.from c.requires.now member c.requires.was_open)

pub raise-requires : goal.raise-requires
raise-requires g c =
    let one = row_counts is_open_row c.args.self.now.tasks c.args.t.0 c.args.from c.requires.now (ap is_none c.requires.was_open) in
    let below = c.args.self.now.counted c.args.fate in
    let small = c.args.self.now.small in
    omega (arith, one, below, small)

is_fated : (b : Bool) (f : Fate) → is_some (if b then Some fate.Cancelled else Some f) ≡ true
is_fated true f = refl
is_fated false f = refl

pub invariant_of-self : goal.invariant_of-self
invariant_of-self g c =
    let old = c.args.self.now in
    let tasks = c.conclude.new.tasks in
    let from = c.args.from in
    let kept = row_task (task_in old.tasks c.args.t.0) from c.requires.now in
    let set = c.conclude.ensures kept.0 kept.1 in
    let to = record from { place = Gone; ending = Some c.args.fate; outcome = Some c.args.outcome } in
    let count = ended_counts old.tasks tasks c.args.t.0 kept.0 from kept.1 kept.2 (λ r. record r { place = Gone; ending = Some c.args.fate; outcome = Some c.args.outcome }) true set in
    let fated : is_none (fate_of to) ≡ false = gone_fated from.cancelled c.args.fate in
    record {
      small = old.small;
      below = submitted_stays old.tasks tasks c.args.t.0 kept.0 _ kept.1 set old.submitted old.below;
      counted = counted-end old.tasks tasks c.args.t.0 from to c.requires.now refl count c.requires.was_open fated
          old.fates c.raise.new.self old.submitted (λ f. is_fate f (Some c.args.fate)) c.raise.ensures old.counted;
      grouped = λ h. grouped-end old.tasks tasks c.args.t.0 from to c.requires.now refl count c.requires.was_open fated
          h _ _ (c.close.ensures.pending h) (old.grouped h);
      listed = listed_end old.tasks tasks c.args.t.0 kept.0 _ kept.1 set old.groups c.close.new.groups refl (ap fate_of kept.2 ∙ c.requires.was_open) (is_fated kept.0.row.cancelled c.args.fate)
          (λ h. c.close.ensures.done h ∙ ap (λ (r : TaskRow). done_in old.groups h ++ cond (is_of_group h r.kind && true) (c.args.t.0 ∷ []) []) (sym kept.2)) old.listed;
    }

pub returns-clause-set : goal.returns-clause-set
returns-clause-set g c =
    let old = c.args.self.now in
    let kept = row_task (task_in old.tasks c.args.t.0) c.args.from c.requires.now in
    sets_row old _ c.args.t.0 (λ r. record r { place = Gone; ending = Some c.args.fate; outcome = Some c.args.outcome }) kept.0 true kept.1 (c.conclude.ensures kept.0 kept.1) refl c.args.from c.requires.now

pub returns-clause-done : goal.returns-clause-done
returns-clause-done g c = λ h. c.close.ensures.done h ∙ ap (λ b. done_in c.args.self.now.groups h ++ cond b (c.args.t.0 ∷ []) []) (and_true (is_of_group h c.args.from.kind))
  where
    and_true : (b : Bool) → (b && true) ≡ b
    and_true true = refl
    and_true false = refl
