use Rattle.std.proofs.Common.{◌≡◌, ℕ, ◌+◌, Bool, true, false, ◌&&◌, cond, is_some, arith, refl, sym, ap, ◌∙◌, inl, inr}
use Rattle.std.proofs.lemmas.Bool.{cases_eq, ne_eqb}
use Rattle.tp_record.specs.Step.{is_of_group}
use Rattle.tp_tasks.specs.Kept.{is_open_row, is_open_row_of}
use Rattle.tp_tasks.specs.Table.{task_in, row_count}
use Rattle.tp_tasks.proofs.Listed.{listed_released}
use Rattle.tp_tasks.proofs.tasks.Tasks.release.Goals as goal

no_more : (b : Bool) → (b && false) ≡ false
no_more true = refl
no_more false = refl

less : (m n : ℕ) (b : Bool) → m + cond b 1 0 ≡ n → b ≡ false → m ≡ n
less m n true e off = absurd (grind arith)
less m n false e off = omega (arith, e)

pub invariant_of-self : goal.invariant_of-self
invariant_of-self g c =
    let old = c.args.self.now in
    let r = c.requires.ended.0 in
    let count = c.remove.ensures.count in
    let fated = c.requires.ended.2 in
    record {
      small = old.small;
      below = λ u past. elim (cases_eq u c.args.t.0) [
        | inl same ↦ ap (λ x. is_some (task_in c.remove.new.tasks x)) same ∙ ap (λ o. is_some o) c.remove.ensures.task
        | inr apart ↦ ap (λ o. is_some o) (c.remove.ensures.others u (ne_eqb c.args.t.0 u (λ b. apart (sym b)))) ∙ old.below u past
      ];
      counted = λ f.
          let m = old.counted f in
          let n = less (row_count is_open_row c.remove.new.tasks) (row_count is_open_row old.tasks) (is_open_row r) (count is_open_row r c.requires.ended.1) fated in
          omega (arith, m, n);
      grouped = λ h. old.grouped h
          ∙ sym (less (row_count (is_open_row_of h) c.remove.new.tasks) (row_count (is_open_row_of h) old.tasks) (is_open_row_of h r) (count (is_open_row_of h) r c.requires.ended.1)
          (ap (λ b. is_of_group h r.kind && b) fated ∙ no_more (is_of_group h r.kind)));
      listed = listed_released old.tasks c.remove.new.tasks c.args.t.0 c.remove.ensures.others old.groups c.remove.ensures.task c.requires.handed_out old.listed;
    }
