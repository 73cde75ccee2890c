-- A shutdown: no task is accepted from now on, and idle workers wake.
use Rattle.std.proofs.Common.{◌≡◌, ℕ, ◌+◌, ◌-◌, ◌≤◌, max, Bool, true, false, ◌&&◌, cond, List, [], ◌∷◌, ◌++◌, length, Option, Some, None, refl, arith, sym, ap, ◌∙◌}
use mathlib.Core.Path.{fun_ext}
use Rattle.std.specs.Prelude.{◌==◌, count_by, sum_by, filter, is_some, is_none, if◌then◌else◌}
use Rattle.std.proofs.lemmas.Bool.Decides.{nat_tests}
use Rattle.std.proofs.lemmas.List.Sums.{sum_by-cons}
use Rattle.tp_types.specs.declared.configs.Config.{Config}
use Rattle.tp_types.specs.declared.ids.TaskId.{TaskId}
use Rattle.tp_record.specs.declared.entries.Entry.{Entry}
use Rattle.tp_record.specs.declared.entries.Did.TheVariants as did
use Rattle.tp_record.specs.declared.rows.Stage.{Stage}
use Rattle.tp_record.specs.declared.rows.Stage.TheVariants as stages
use Rattle.tp_record.specs.declared.rows.SlotRow.{SlotRow}
use Rattle.tp_record.specs.Fields.{rank, is_live, is_live_stage, is_queued, is_idle_row, is_idle_stage, idling, queue, slot_row, slot_rows, slot_bound, task_row, woken_stage}
use Rattle.tp_record.specs.State.{State, state, next, slot_at, row_at, slot_after, slot_weight, stage_weight, is_core_slot, is_core_stage, fate_of, is_fate}
use Rattle.tp_record.specs.Step.{Legal}
use Rattle.tp_laws.proofs.Model.Readings.{slot_below}
use Rattle.tp_laws.proofs.Model.NextState.{slot_row-more}
use Rattle.tp_laws.proofs.Model.Given.{Given}
use Rattle.tp_laws.proofs.Model.Keystone.{suits, suits_row}
use Rattle.tp_laws.proofs.Model.Told.{sound_legal}
use Rattle.tp_laws.proofs.Model.Totals.{total, sum_by-table, total-longer}
use Rattle.tp_laws.proofs.Model.Weights.{weight_of, task_due, slot_due}
use Rattle.tp_laws.specs.View.{view, Effect}
use Rattle.tp_laws.proofs.Effects.Next.{entry, fits_given, slot_next}
use Rattle.tp_laws.proofs.Effects.Lists.{filter_all, queue_filtered, idling_filtered}
use Rattle.tp_laws.proofs.Effects.Done.{done_same}
use Rattle.tp_laws.proofs.Effects.Shapes.{live_most}
use Rattle.tp_laws.proofs.Effects.Sweeps.{zeros, due_swept}
use Rattle.tp_laws.proofs.Effects.Wide.{sum_by_changed, tasks_stay}

-- a slot after its worker wakes, where it was idle
abbrev pub woken_slot : Option SlotRow → Option SlotRow
woken_slot None = None
woken_slot (Some r) = Some (record r { stage = woken_stage r.stage })

abbrev is_taking : Stage → Bool
is_taking stages.Working = true
is_taking _ = false

-- a worker that is about to take: once the pool is shut down it may not be idle, and so owes one entry less
abbrev pub is_at_take : Option SlotRow → Bool
is_at_take None = false
is_at_take (Some r) = is_taking r.stage && is_none r.task

wakes : (s : State) (w : ℕ) (o : Option SlotRow) → slot_after did.Shutdown s w o ≡ woken_slot o
wakes s w None = refl
wakes s w (Some r) = refl

pub stays_some : (o : Option SlotRow) → is_some (woken_slot o) ≡ is_some o
stays_some None = refl
stays_some (Some r) = refl

pub stays_live : (o : Option SlotRow) → is_live (woken_slot o) ≡ is_live o
stays_live None = refl
stays_live (Some r) = by_stage r.stage
  where
    by_stage : (g : Stage) → is_live_stage (woken_stage g) ≡ is_live_stage g
    by_stage g = grind arith

pub stays_core : (o : Option SlotRow) → is_core_slot (woken_slot o) ≡ is_core_slot o
stays_core None = refl
stays_core (Some r) = by_stage r.stage
  where
    by_stage : (g : Stage) → is_core_stage (woken_stage g) ≡ is_core_stage g
    by_stage g = grind arith

pub none_idle : (o : Option SlotRow) → is_idle_row (woken_slot o) ≡ false
none_idle None = refl
none_idle (Some r) = by_stage r.stage
  where
    by_stage : (g : Stage) → is_idle_stage (woken_stage g) ≡ false
    by_stage g = grind arith

-- what a slot owes falls by one where its worker is about to take and the pool was running
pub wakes_owing : (k n : ℕ) → 1 ≤ k → (o : Option SlotRow) → suits_row o ≡ true → slot_weight (max k n) (woken_slot o) + (if n == 0 then cond (is_at_take o) 1 0 else 0) ≡ slot_weight n o
wakes_owing k n up None suited = grind (arith, nat_tests)
wakes_owing k n up (Some r) suited = by_row r.stage r.task suited
  where
    by_row : (g : Stage) (o : Option TaskId) → suits g o ≡ true →
        stage_weight (max k n) (is_some o) (woken_stage g) + (if n == 0 then cond (is_taking g && is_none o) 1 0 else 0) ≡ stage_weight n (is_some o) g
    by_row stages.Working (Some t) suited = grind (arith, nat_tests)
    by_row stages.Working None suited = grind (arith, nat_tests)
    by_row (stages.Idle m) (Some t) suited = absurd (grind arith)
    by_row (stages.Idle m) None suited = grind (arith, nat_tests)
    by_row stages.ReservedCore o suited = grind (arith, nat_tests)
    by_row stages.ReservedMaximum o suited = grind (arith, nat_tests)
    by_row stages.ReservedBare o suited = grind (arith, nat_tests)
    by_row stages.Dying o suited = grind (arith, nat_tests)

pub filter_none : (xs : List ℕ) → filter (λ x. false) xs ≡ []
filter_none [] = refl
filter_none (x ∷ xs) = filter_none xs

-- what the worker of slot w owes less once the pool is shut down
abbrev pub waiting_at : List Entry → ℕ → ℕ
waiting_at h w = if rank h == 0 then cond (is_at_take (slot_row h w)) 1 0 else 0

-- and all of them
pub waiting_total : (h : List Entry) (n : ℕ) → slot_bound h ≤ n → total (waiting_at h) n ≡ (if rank h == 0 then count_by is_at_take (slot_rows h) else 0)
waiting_total h n within = by_rank (rank h == 0)
  where
    counted : count_by is_at_take (slot_rows h) ≡ total (λ w. cond (is_at_take (slot_row h w)) 1 0) n
    counted =
        sum_by-table (λ o. cond (is_at_take o) 1 0) (slot_row h) (slot_bound h)
        ∙ sym (total-longer (λ w. cond (is_at_take (slot_row h w)) 1 0) (slot_bound h) n (λ w past. rw (slot_below h w past) refl) within)

    by_rank : (b : Bool) → total (λ w. cond b (cond (is_at_take (slot_row h w)) 1 0) 0) n ≡ cond b (count_by is_at_take (slot_rows h)) 0
    by_rank true = sym counted
    by_rank false = zeros n

module _ (c : Config) (h : List Entry) (legal : Legal c h) (given : Given c h did.Shutdown) where
  slot_woken : (w : ℕ) → slot_row (entry did.Shutdown ∷ h) w ≡ woken_slot (slot_row h w)
  slot_woken w = slot_row-more c (entry did.Shutdown) h (fits_given c h did.Shutdown legal given) w ∙ wakes (state c h) w (slot_row h w)

  task_same : (t : ℕ) → task_due (entry did.Shutdown ∷ h) t ≡ task_due h t
  task_same t = ap (λ f. weight_of f (task_row h t)) (fun_ext (λ w. ap is_core_slot (slot_woken w) ∙ stays_core (slot_row h w)))

  slot_falls : (w : ℕ) → slot_due (entry did.Shutdown ∷ h) w + waiting_at h w ≡ slot_due h w
  slot_falls w = ap (λ o. slot_weight (max 1 (rank h)) o + (if rank h == 0 then cond (is_at_take (slot_row h w)) 1 0 else 0)) (slot_woken w) ∙ wakes_owing 1 (rank h) (omega arith) (slot_row h w) (sound_legal c h legal 0 w).suited

  -- the pool is shut down
  pub shutdown :
      Effect (state c h) did.Shutdown (record (view (state c h)) { rank = max 1 (state c h).rank; slots = λ w. woken_slot (slot_at (state c h).slots w); idling = [] })
      ((if (state c h).rank == 0 then count_by is_at_take (state c h).slots else 0) + (1 - (state c h).rank)) 0
  shutdown =
      let d = did.Shutdown in
      let swept = due_swept c h d legal given (λ t. 0) (waiting_at h) (if rank h == 0 then count_by is_at_take (slot_rows h) else 0) (λ t. let e = task_same t in let z = by_test (is_queued h t) in omega (arith, e, z)) slot_falls (waiting_total h) in
      let none = zero_sum (queue c h) in
      let ts = tasks_stay c h d legal given refl (λ t r. refl) in
      let lives : count_by is_live (next (state c h) d).slots ≡ count_by is_live (state c h).slots =
      sum_by_changed (λ o. cond (is_live o) 1 0) (slot_after d (state c h)) 0 (state c h).slots (λ w o. ap (λ b. cond b 1 0) (ap is_live (wakes (state c h) w o) ∙ stays_live o)) in
      let most = live_most h in
      record {
        reads = record {
          rank = refl;
          core = refl;
          maximum = refl;
          keep = refl;
          core_timeout = refl;
          now = refl;
          submitted = ap length ts;
          tasks = λ t. ap (λ xs. row_at xs t) ts;
          fates = λ f. ap (count_by (λ r. is_fate f (fate_of r))) ts;
          queue = queue_filtered c h d (λ t. true) (λ t queued. refl) ∙ filter_all (queue c h);
          slots = λ w. slot_next c h d legal given w ∙ wakes (state c h) w (slot_at (state c h).slots w);
          taken = sum_by_changed (λ o. cond (is_some o) 1 0) (slot_after d (state c h)) 0 (state c h).slots (λ w o. ap (λ b. cond b 1 0) (ap is_some (wakes (state c h) w o) ∙ stays_some o));
          live = lives;
          largest = (let e : max (count_by is_live (next (state c h) d).slots) (state c h).largest ≡ (state c h).largest = omega (arith, lives, most) in e);
          idling =
              idling_filtered c h d (λ w. false) (λ w idle. ap is_idle_row (wakes (state c h) w (slot_at (state c h).slots w)) ∙ none_idle (slot_at (state c h).slots w))
              ∙ ap (λ xs. xs ++ []) (filter_none (idling h));
          done = done_same c h d legal given refl;
          completions = refl;
          left_out = refl;
        };
        owes = omega (arith, swept, none);
      }
    where
      by_test : (b : Bool) → ◌≡◌ {A = ℕ} (cond b 0 0) 0
      by_test true = refl
      by_test false = refl

      zero_sum : (xs : List ℕ) → sum_by (λ t. 0) xs ≡ 0
      zero_sum [] = refl
      zero_sum (x ∷ xs) = let a = sum_by-cons (λ t. 0) x xs in let e = zero_sum xs in let p : sum_by (λ t. 0) (x ∷ xs) ≡ 0 = omega (arith, a, e) in p
