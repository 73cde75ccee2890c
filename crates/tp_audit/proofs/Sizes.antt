-- The sizes of the state of a legal history.
use Rattle.std.proofs.Common.{ℕ, suc, ◌+◌, ◌≤◌, Bool, true, false, cond, List, [], ◌∷◌, length, Option, Some, None, arith}
use Rattle.std.specs.Prelude.{count_by, is_some}
use Rattle.std.proofs.lemmas.Bool.Decides.{nat_tests}
use Rattle.std.proofs.lemmas.List.Sums.{sum_by-le-sum_by}
use Rattle.tp_types.specs.Config.{IsConfig}
use Rattle.tp_types.specs.declared.configs.Config.{Config}
use Rattle.tp_record.specs.declared.entries.Entry.{Entry}
use Rattle.tp_record.specs.declared.rows.Stage.{Stage}
use Rattle.tp_record.specs.declared.rows.SlotRow.{SlotRow}
use Rattle.tp_record.specs.Effects.{is_completion}
use Rattle.tp_record.specs.Fields.{completions, slot_rows, rank}
use Rattle.tp_record.specs.State.{state, due, stage_weight, slot_weight}
use Rattle.tp_record.specs.Step.{Legal}
use Rattle.tp_rules.proofs.Sizes.{rows_retries, length-task_rows}
use Rattle.tp_laws.proofs.OwedLaws.{room_is_enough}
use Rattle.tp_audit.specs.Tables.{undone, HasSizes}

completions-le : (h : List Entry) → completions h ≤ length h
completions-le [] = omega arith
completions-le (e ∷ h) = by_test (is_completion e.did) (completions-le h)
  where
    by_test : (b : Bool) → completions h ≤ length h → cond b (suc (completions h)) (completions h) ≤ suc (length h)
    by_test true before = omega arith
    by_test false before = omega arith

-- each slot owes at least one entry
slot_owes : (n : ℕ) (o : Option SlotRow) → cond (is_some o) 1 0 ≤ slot_weight n o
slot_owes n None = omega arith
slot_owes n (Some r) = by_stage (is_some r.task) r.stage
  where
    by_stage : (b : Bool) (g : Stage) → 1 ≤ stage_weight n b g
    by_stage b g = grind (arith, nat_tests)

pub slots-le : (c : Config) (h : List Entry) → count_by is_some (slot_rows h) ≤ due (state c h)
slots-le c h = let e = sum_by-le-sum_by (λ o. cond (is_some o) 1 0) (slot_weight (rank h)) (slot_rows h) (slot_owes (rank h)) in omega (arith, e)

module _ (c : Config) (h : List Entry) (config : IsConfig c) (legal : Legal c h) where
  pub few_owed : length h + due (state c h) ≤ 1048576
  few_owed = let e = room_is_enough c h config.least_limit legal in omega (arith, e, config.greatest_limit)

  pub has_sizes : HasSizes (undone (state c h))
  has_sizes =
      let few = few_owed in
      let done = completions-le h in
      let tasks = length-task_rows h in
      let slots = slots-le c h in
      record {
        steps = omega (arith, few);
        completions = omega (arith, few, done);
        tasks = omega (arith, few, tasks);
        retries = λ t. let r = rows_retries h t in omega (arith, few, r);
        slots = omega (arith, few, slots);
      }
