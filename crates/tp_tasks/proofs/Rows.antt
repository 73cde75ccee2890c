-- What is kept of the tasks is still true after a task's entry is written that has the kind and the fate that it had.
use Rattle.std.proofs.Common.{◌≡◌, ℕ, ◌+◌, Bool, true, false, cond, Option, Some, None, refl, sym, ap, ◌∙◌, is_some}
use Rattle.std.specs.Prelude.{is_none, IsSome, if◌then◌else◌}
use Rattle.tp_types.specs.declared.tasks.Fate.{Fate}
use Rattle.tp_types.specs.declared.tasks.Fate.TheVariants as fate
use Rattle.std.proofs.lemmas.Bool.{false≢true}
use Rattle.std.proofs.lemmas.Option.{none-some, same_Some}
use Rattle.indexmap.specs.IndexMap.{IndexMap}
use Rattle.tp_record.specs.declared.rows.TaskRow.{TaskRow}
use Rattle.tp_record.specs.State.{fate_of}
use Rattle.tp_tasks.specs.declared.fates.Fates.{Fates}
use Rattle.tp_tasks.specs.declared.group.Group.{Group}
use Rattle.tp_tasks.specs.declared.homes.Rows.{Rows}
use Rattle.tp_tasks.specs.declared.table.KeptTask.{KeptTask}
use Rattle.tp_tasks.specs.declared.tasks.Tasks.{Tasks}
use Rattle.tp_tasks.specs.Kept.{AreSubmitted, AreCounted, AreGrouped}
use Rattle.tp_tasks.specs.Table.{row_of_task, promise_of_task, number_of_task, payload_of_task, task_in, row_in, row_count, SetsTask}
use Rattle.tp_tasks.specs.Tasks.{row_of, submissions, SetsRow}
use Rattle.tp_tasks.proofs.Keeps.{submitted-kept, counted-kept, open-kept, group-kept}

module _ {P : Type 0} where
  -- what is kept of a task that has a row
  pub kept_task : (o : Option (KeptTask P)) → IsSome (row_of_task o) → (v : KeptTask P) × (o ≡ Some v)
  kept_task None is = absurd (false≢true is)
  kept_task (Some v) is = (v, refl)

  -- what is kept of the task with this row
  pub row_task : (o : Option (KeptTask P)) (r : TaskRow) → row_of_task o ≡ Some r → (v : KeptTask P) × (o ≡ Some v) × (v.row ≡ r)
  row_task None r e = absurd (none-some r e)
  row_task (Some v) r e = (v, refl, same_Some v.row r e)

module _ {P : Type 0} (old new : Rows P) (t : ℕ) (v w : KeptTask P) (was : task_in old t ≡ Some v) (set : SetsTask old new t v w) where
  -- the count of rows, by the row that the task had
  pub counts_of : (p : TaskRow → Bool) (r : TaskRow) → row_in old t ≡ Some r → row_count p new + cond (p r) 1 0 ≡ row_count p old + cond (p w.row) 1 0
  counts_of p r is =
      let same : v.row ≡ r = same_Some v.row r (sym (ap row_of_task was) ∙ is) in
      ap (λ q. row_count p new + cond (p q) 1 0) (sym same) ∙ set.count p

  pub submitted_stays : (n : ℕ) → AreSubmitted n old → AreSubmitted n new
  submitted_stays n below = submitted-kept old new t set.others (ap (λ o. is_some (row_of_task o)) set.task ∙ sym (ap (λ o. is_some (row_of_task o)) was)) n below

  module _ (kind : w.row.kind ≡ v.row.kind) (fate : fate_of w.row ≡ fate_of v.row) where
    pub counted_stays : (f : Fates) (n : ℕ) → AreCounted f old n → AreCounted f new n
    counted_stays f n counted = counted-kept f n old new (open-kept old new t v.row w.row (ap row_of_task was) kind counts_of fate) counted

    pub grouped_stays : {Z : Type 0} (groups : IndexMap ℕ Group Z) → AreGrouped groups old → AreGrouped groups new
    grouped_stays groups grouped g = grouped g ∙ sym (group-kept old new t v.row w.row (ap row_of_task was) kind counts_of fate g)

-- the count of rows, where the task has F of its row and this mark
pub ended_counts : {P : Type 0} (old new : Rows P) (t : ℕ) (v : KeptTask P) (from : TaskRow) → task_in old t ≡ Some v → v.row ≡ from → (F : TaskRow → TaskRow) (b : Bool) →
    SetsTask old new t v (record v { row = F v.row; listed = b }) → (p : TaskRow → Bool) (r : TaskRow) → row_in old t ≡ Some r → row_count p new + cond (p r) 1 0 ≡ row_count p old + cond (p (F from)) 1 0
ended_counts old new t v from was same F b set p r is = counts_of old new t v _ was set p r is ∙ ap (λ q. row_count p old + cond (p (F q)) 1 0) same

-- a task that is gone has a fate, whether or not it was cancelled
pub gone_fated : (b : Bool) (f : Fate) → is_none (if b then Some fate.Cancelled else Some f) ≡ false
gone_fated true f = refl
gone_fated false f = refl

-- a write of the row and the mark alone, seen of the tasks
pub sets_row : {P : Type 0} (old new : Tasks P) (t : ℕ) (F : TaskRow → TaskRow) (v : KeptTask P) (b : Bool) → task_in old.tasks t ≡ Some v →
    SetsTask old.tasks new.tasks t v (record v { row = F v.row; listed = b }) →
    submissions new ≡ submissions old → (r : TaskRow) → row_of old t ≡ Some r → SetsRow old new t (F r)
sets_row old new t F v b was set same r is =
    let e : v.row ≡ r = same_Some v.row r (sym (ap row_of_task was) ∙ is) in
    record {
      row = ap row_of_task set.task ∙ ap (λ q. Some (F q)) e;
      promise = ap promise_of_task set.task ∙ sym (ap promise_of_task was);
      number = ap number_of_task set.task ∙ sym (ap number_of_task was);
      payload = ap payload_of_task set.task ∙ sym (ap payload_of_task was);
      others = set.others;
      submitted = same;
    }
