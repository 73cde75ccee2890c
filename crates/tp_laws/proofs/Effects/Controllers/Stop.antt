-- A stop: the queued tasks are handed back, and idle workers wake.
use Rattle.std.proofs.Common.{◌≡◌, ℕ, ◌+◌, ◌-◌, ◌*◌, ◌≤◌, max, Bool, true, false, cond, List, [], ◌∷◌, ◌++◌, length, Option, Some, None, refl, arith, sym, ap, ◌∙◌}
use mathlib.Core.Path.{fun_ext}
use Rattle.std.specs.Prelude.{◌==◌, count_by, sum_by, is_some, if◌then◌else◌}
use Rattle.std.proofs.lemmas.List.Sums.{sum_by-cons}
use Rattle.tp_types.specs.declared.configs.Config.{Config}
use Rattle.tp_types.specs.declared.tasks.Fate.{Fate}
use Rattle.tp_types.specs.declared.tasks.Fate.TheVariants as fate
use Rattle.tp_types.specs.declared.tasks.Place.{Place}
use Rattle.tp_types.specs.declared.tasks.Place.TheVariants as at
use Rattle.tp_record.specs.declared.entries.Entry.{Entry}
use Rattle.tp_record.specs.declared.entries.Did.TheVariants as did
use Rattle.tp_record.specs.declared.rows.TaskRow.{TaskRow}
use Rattle.tp_record.specs.declared.rows.SlotRow.{SlotRow}
use Rattle.tp_record.specs.Fields.{rank, submitted, is_live, is_queued, is_queued_place, is_cancelled, ending, is_idle_row, queue, idling, place, slot_row, slot_rows, task_row, task_rows}
use Rattle.tp_record.specs.State.{State, state, next, task_at, slot_at, slot_after, slot_weight, place_weight, is_core_slot, row_after, fated, fate_of, is_fate}
use Rattle.tp_record.specs.Step.{Legal}
use Rattle.tp_laws.proofs.Model.ListLaws.{length-change_each}
use Rattle.tp_laws.proofs.Model.NextState.{slot_row-more}
use Rattle.tp_laws.proofs.Model.Given.{Given}
use Rattle.tp_laws.proofs.Model.Keystone.{IsSound}
use Rattle.tp_laws.proofs.Model.Told.{told_legal, sound_legal}
use Rattle.tp_laws.proofs.Model.Totals.{total, sum_by-table, total-longer}
use Rattle.tp_laws.proofs.Model.Weights.{held_core, weight_of, is_core, task_due, slot_due}
use Rattle.tp_laws.specs.View.{view, Effect}
use Rattle.tp_laws.proofs.Effects.Next.{entry, fits_given, next_given, sound_given, row_next, row_sound, slot_next}
use Rattle.tp_laws.proofs.Effects.Lists.{queue_filtered, idling_filtered}
use Rattle.tp_laws.proofs.Effects.Done.{done_same}
use Rattle.tp_laws.proofs.Effects.Invariants.{is_gone, unended}
use Rattle.tp_laws.proofs.Effects.Shapes.{live_most}
use Rattle.tp_laws.proofs.Effects.Sweeps.{total_sum, queue_total, sixes, due_swept}
use Rattle.tp_laws.proofs.Effects.Wide.{sum_by_changed}
use Rattle.tp_laws.proofs.Effects.Controllers.Shutdown.{woken_slot, is_at_take, stays_some, stays_live, stays_core, none_idle, wakes_owing, waiting_at, waiting_total, filter_none}

-- a task's row after a stop
abbrev pub handed : TaskRow → TaskRow
handed r = if is_queued_place r.place then record r { place = at.Gone; ending = Some fate.HandedBack } else r

stop_row : (n t : ℕ) (r : TaskRow) → row_after (did.Stop n) t r ≡ handed r
stop_row n t r = by_test (is_queued_place r.place)
  where
    by_test : (b : Bool) → ◌≡◌ {A = TaskRow} (record r { place = cond b at.Gone r.place; ending = cond b (Some fate.HandedBack) r.ending }) (cond b (record r { place = at.Gone; ending = Some fate.HandedBack }) r)
    by_test true = refl
    by_test false = refl

stop_slot : (n : ℕ) (s : State) (w : ℕ) (o : Option SlotRow) → slot_after (did.Stop n) s w o ≡ woken_slot o
stop_slot n s w None = refl
stop_slot n s w (Some r) = refl

-- a queued task owes no more
stop_falls : (f : ℕ → Bool) (p : Place) → place_weight (held_core f (cond (is_queued_place p) at.Gone p)) (cond (is_queued_place p) at.Gone p) + cond (is_queued_place p) 6 0 ≡ place_weight (held_core f p) p
stop_falls f p = grind arith

all_counted : (xs : List ℕ) → count_by (λ t. true) xs ≡ length xs
all_counted [] = refl
all_counted (x ∷ xs) = let a = sum_by-cons (λ t. 1) x xs in let e = all_counted xs in let p : count_by (λ t. true) (x ∷ xs) ≡ length (x ∷ xs) = omega (arith, a, e) in p

-- whether the fate of a task that is handed back is f
abbrev gains : Fate → Bool → ℕ
gains f b = cond (is_fate f (if b then None else Some fate.HandedBack)) 1 0

fate_rises : (f : Fate) (c q : Bool) (o : Option Fate) → (q ≡ true → o ≡ None) →
    cond (is_fate f (if c then Some fate.Cancelled else cond q (Some fate.HandedBack) o)) 1 0 ≡ cond (is_fate f (if c then Some fate.Cancelled else o)) 1 0 + cond q (gains f c) 0
fate_rises f true true o none = by_fate f
  where
    by_fate : (f : Fate) → ◌≡◌ {A = ℕ} (cond (is_fate f (Some fate.Cancelled)) 1 0) (cond (is_fate f (Some fate.Cancelled)) 1 0 + cond (is_fate f None) 1 0)
    by_fate f = grind arith
fate_rises f true false o none = omega arith
fate_rises f false true o none = rw (none refl) (by_fate f)
  where
    by_fate : (f : Fate) → ◌≡◌ {A = ℕ} (cond (is_fate f (Some fate.HandedBack)) 1 0) (cond (is_fate f None) 1 0 + cond (is_fate f (Some fate.HandedBack)) 1 0)
    by_fate f = grind arith
fate_rises f false false o none = omega arith

module _ (c : Config) (h : List Entry) (n : ℕ) (legal : Legal c h) (given : Given c h (did.Stop n)) where
  slot_woken : (w : ℕ) → slot_row (entry (did.Stop n) ∷ h) w ≡ woken_slot (slot_row h w)
  slot_woken w = slot_row-more c (entry (did.Stop n)) h (fits_given c h (did.Stop n) legal given) w ∙ stop_slot n (state c h) w (slot_row h w)

  task_falls : (t : ℕ) → task_due (entry (did.Stop n) ∷ h) t + cond (is_queued h t) 6 0 ≡ task_due h t
  task_falls t =
      let cores : is_core (entry (did.Stop n) ∷ h) ≡ is_core h = fun_ext (λ w. ap is_core_slot (slot_woken w) ∙ stays_core (slot_row h w)) in
      let a = stop_falls (is_core h) (place h t) in
      ap (λ f. weight_of f (task_row (entry (did.Stop n) ∷ h) t) + cond (is_queued h t) 6 0) cores ∙ omega (arith, a)

  slot_falls : (w : ℕ) → slot_due (entry (did.Stop n) ∷ h) w + waiting_at h w ≡ slot_due h w
  slot_falls w =
      ap (λ o. slot_weight (max 2 (rank h)) o + waiting_at h w) (slot_woken w) ∙ wakes_owing 2 (rank h) (omega arith) (slot_row h w) (sound_legal c h legal 0 w).suited

  queued_open : (t : ℕ) → is_queued h t ≡ true → ending h t ≡ None
  queued_open t is = unended c h (told_legal c h legal) t (not_gone (place h t) is)
    where
      not_gone : (p : Place) → is_queued_place p ≡ true → is_gone p ≡ false
      not_gone p is = grind arith

  fates_next : (f : Fate) → fated f (next (state c h) (did.Stop n)) ≡ fated f (state c h) + sum_by (λ t. gains f (task_at (state c h) t).cancelled) (queue c h)
  fates_next f =
      let m = submitted h + submitted (entry (did.Stop n) ∷ h) in
      let before = summed h (sound_legal c h legal) m (omega arith) in
      let after = summed (entry (did.Stop n) ∷ h) (sound_given c h (did.Stop n) legal given) m (omega arith) in
      let same : fated f (state c (entry (did.Stop n) ∷ h)) ≡ fated f (next (state c h) (did.Stop n)) = ap (fated f) (next_given c h (did.Stop n) legal given) in
      let e = total_sum (λ t. one (task_row (entry (did.Stop n) ∷ h) t)) (λ t. one (task_row h t)) (λ t. cond (is_queued h t) (gains f (is_cancelled h t)) 0) m
      (λ t. sym (fate_rises f (is_cancelled h t) (is_queued h t) (ending h t) (queued_open t))) in
      let listed = queue_total c h legal (λ t. gains f (is_cancelled h t)) m (omega arith) in
      let read : sum_by (λ t. gains f (is_cancelled h t)) (queue c h) ≡ sum_by (λ t. gains f (task_at (state c h) t).cancelled) (queue c h) =
      ap (λ k. sum_by k (queue c h)) (fun_ext (λ t. ap (λ r. gains f r.cancelled) (sym (row_sound h (sound_legal c h legal) c t)))) in
      omega (arith, before, after, same, e, listed, read)
    where
      one : TaskRow → ℕ
      one r = cond (is_fate f (fate_of r)) 1 0

      none : (f : Fate) → ◌≡◌ {A = ℕ} (cond (is_fate f None) 1 0) 0
      none f = grind arith

      summed : (k : List Entry) → IsSound k → (m : ℕ) → submitted k ≤ m → count_by (λ r. is_fate f (fate_of r)) (task_rows k) ≡ total (λ t. cond (is_fate f (fate_of (task_row k t))) 1 0) m
      summed k sound m within =
          sum_by-table (λ r. cond (is_fate f (fate_of r)) 1 0) (task_row k) (submitted k)
          ∙ sym (total-longer (λ t. cond (is_fate f (fate_of (task_row k t))) 1 0) (submitted k) m (λ t past. ap (λ r. cond (is_fate f (fate_of r)) 1 0) ((sound t 0).fresh past) ∙ none f) within)

  -- the pool stops
  pub stop :
      Effect (state c h) (did.Stop n)
      (record (view (state c h)) {
        rank = max 2 (state c h).rank;
        tasks = λ t. handed (task_at (state c h) t);
        fates = λ f. fated f (state c h) + sum_by (λ t. cond (is_fate f (if (task_at (state c h) t).cancelled then None else Some fate.HandedBack)) 1 0) (state c h).queue;
        queue = [];
        slots = λ w. woken_slot (slot_at (state c h).slots w);
        idling = [];
      }) (6 * n + (if (state c h).rank == 0 then count_by is_at_take (state c h).slots else 0) + (2 - (state c h).rank)) 0
  stop =
      let d = did.Stop n in
      let swept = due_swept c h d legal given (λ t. 6) (waiting_at h) (if rank h == 0 then count_by is_at_take (slot_rows h) else 0) task_falls slot_falls (waiting_total h) in
      let six = sixes (λ t. true) (queue c h) in
      let all = all_counted (queue c h) in
      let lives : count_by is_live (next (state c h) d).slots ≡ count_by is_live (state c h).slots =
      sum_by_changed (λ o. cond (is_live o) 1 0) (slot_after d (state c h)) 0 (state c h).slots (λ w o. ap (λ b. cond b 1 0) (ap is_live (stop_slot n (state c h) w o) ∙ stays_live o)) in
      let most = live_most h in
      record {
        reads = record {
          rank = refl;
          core = refl;
          maximum = refl;
          keep = refl;
          core_timeout = refl;
          now = refl;
          submitted = length-change_each (row_after d) 0 (task_rows h);
          tasks = λ t. row_next c h d legal given t ∙ stop_row n t (task_at (state c h) t);
          fates = fates_next;
          queue = queue_filtered c h d (λ t. false) (λ t queued. refl) ∙ filter_none (queue c h);
          slots = λ w. slot_next c h d legal given w ∙ stop_slot n (state c h) w (slot_at (state c h).slots w);
          taken = sum_by_changed (λ o. cond (is_some o) 1 0) (slot_after d (state c h)) 0 (state c h).slots (λ w o. ap (λ b. cond b 1 0) (ap is_some (stop_slot n (state c h) w o) ∙ stays_some o));
          live = lives;
          largest = (let e : max (count_by is_live (next (state c h) d).slots) (state c h).largest ≡ (state c h).largest = omega (arith, lives, most) in e);
          idling =
              idling_filtered c h d (λ w. false) (λ w idle. ap is_idle_row (stop_slot n (state c h) w (slot_at (state c h).slots w)) ∙ none_idle (slot_at (state c h).slots w))
              ∙ ap (λ xs. xs ++ []) (filter_none (idling h));
          done = done_same c h d legal given refl;
          completions = refl;
          left_out = refl;
        };
        owes = omega (arith, swept, six, all, given);
      }
