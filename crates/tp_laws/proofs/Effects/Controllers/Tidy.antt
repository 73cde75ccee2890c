-- The pool without slots goes on to its terminated hook, and the hook has run.
use Rattle.std.proofs.Common.{◌≡◌, ℕ, ◌+◌, ◌-◌, ◌≤◌, ◌⊎◌, max, Bool, List, [], Option, Some, None, refl, arith, sym, ap, ◌∙◌, inl, inr}
use mathlib.Core.Path.{fun_ext}
use Rattle.std.specs.Prelude.{is_some, sum_by}
use Rattle.tp_types.specs.declared.configs.Config.{Config}
use Rattle.tp_record.specs.declared.entries.Entry.{Entry}
use Rattle.tp_record.specs.declared.entries.Did.TheVariants as did
use Rattle.tp_record.specs.declared.rows.Stage.{Stage}
use Rattle.tp_record.specs.declared.rows.SlotRow.{SlotRow}
use Rattle.tp_record.specs.Fields.{rank, queue}
use Rattle.tp_record.specs.State.{State, state, next, due, slot_after, slot_weight, stage_weight, task_weight}
use Rattle.tp_record.specs.Step.{Legal}
use Rattle.tp_laws.proofs.Model.Given.{Given}
use Rattle.tp_laws.specs.View.{view, Effect}
use Rattle.tp_laws.proofs.Effects.Wide.{none_owed, tasks_stay, slots_stay, reads_rank}

tidy_slot : (s : State) (w : ℕ) (o : Option SlotRow) → slot_after did.Tidy s w o ≡ o
tidy_slot s w None = refl
tidy_slot s w (Some r) = refl

ended_slot : (s : State) (w : ℕ) (o : Option SlotRow) → slot_after did.Ended s w o ≡ o
ended_slot s w None = refl
ended_slot s w (Some r) = refl

stopped : (c : Config) (h : List Entry) → (rank h ≡ 2) ⊎ ((rank h ≡ 1) × (queue c h ≡ [])) → (1 ≤ rank h) × (rank h ≤ 2)
stopped c h (inl two) = (omega arith, omega arith)
stopped c h (inr one) = let e = one.0 in (omega arith, omega arith)

-- the pool goes on to its terminated hook
pub tidy : (c : Config) (h : List Entry) → Legal c h → Given c h did.Tidy → Effect (state c h) did.Tidy (record (view (state c h)) { rank = 3 }) (3 - (state c h).rank) 0
tidy c h legal given =
    let low = stopped c h given.1 in
    let three : max 3 (rank h) ≡ 3 = omega (arith, low.1) in
    let ts = tasks_stay c h did.Tidy legal given refl (λ t r. refl) in
    let ws = slots_stay c h did.Tidy legal given refl (tidy_slot (state c h)) in
    let a = none_owed (max 3 (rank h)) (state c h).slots given.0 in
    let b = none_owed (rank h) (state c h).slots given.0 in
    let e : due (next (state c h) did.Tidy) ≡ sum_by (task_weight (state c h).slots) (state c h).tasks + sum_by (slot_weight (max 3 (rank h))) (state c h).slots + (4 - max 3 (rank h)) =
    λ i. sum_by (task_weight (ws i)) (ts i) + sum_by (slot_weight (max 3 (rank h))) (ws i) + (4 - max 3 (rank h)) in
    record {
      reads = reads_rank c h did.Tidy legal given refl refl refl refl refl refl (λ t r. refl) (tidy_slot (state c h)) (λ t. refl) 3 three refl refl refl refl refl;
      owes = omega (arith, e, a, b, three, low.0, low.1);
    }

-- a slot owes the same once the pool is shut down
same_weight : (o : Option SlotRow) → slot_weight 4 o ≡ slot_weight 3 o
same_weight None = refl
same_weight (Some r) = by_stage (is_some r.task) r.stage
  where
    by_stage : (b : Bool) (g : Stage) → stage_weight 4 b g ≡ stage_weight 3 b g
    by_stage b g = grind arith

-- the terminated hook has run
pub ended : (c : Config) (h : List Entry) → Legal c h → Given c h did.Ended → Effect (state c h) did.Ended (record (view (state c h)) { rank = 4 }) 1 0
ended c h legal given =
    let four : max 4 (rank h) ≡ 4 = omega (arith, given) in
    let ts = tasks_stay c h did.Ended legal given refl (λ t r. refl) in
    let ws = slots_stay c h did.Ended legal given refl (ended_slot (state c h)) in
    let a : sum_by (slot_weight (max 4 (rank h))) (state c h).slots ≡ sum_by (slot_weight (rank h)) (state c h).slots =
    ap (λ n. sum_by (slot_weight n) (state c h).slots) four ∙ ap (λ f. sum_by f (state c h).slots) (fun_ext same_weight) ∙ ap (λ n. sum_by (slot_weight n) (state c h).slots) (sym given) in
    let e : due (next (state c h) did.Ended) ≡ sum_by (task_weight (state c h).slots) (state c h).tasks + sum_by (slot_weight (max 4 (rank h))) (state c h).slots + (4 - max 4 (rank h)) =
    λ i. sum_by (task_weight (ws i)) (ts i) + sum_by (slot_weight (max 4 (rank h))) (ws i) + (4 - max 4 (rank h)) in
    record {
      reads = reads_rank c h did.Ended legal given refl refl refl refl refl refl (λ t r. refl) (ended_slot (state c h)) (λ t. refl) 4 four refl refl refl refl refl;
      owes = omega (arith, e, a, four, given);
    }
