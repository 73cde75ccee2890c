-- A purge: the cancelled tasks leave the queue.
use Rattle.std.proofs.Common.{◌≡◌, ℕ, ◌+◌, ◌*◌, max, Bool, true, false, not, ◌&&◌, cond, List, [], ◌∷◌, ◌++◌, Option, Some, None, refl, arith, ap, ◌∙◌}
use mathlib.Core.Path.{ap₂, fun_ext}
use Rattle.std.specs.Prelude.{count_by, filter, is_some, if◌then◌else◌}
use Rattle.std.proofs.lemmas.List.{append-nil}
use Rattle.tp_types.specs.declared.configs.Config.{Config}
use Rattle.tp_types.specs.declared.tasks.Place.{Place}
use Rattle.tp_types.specs.declared.tasks.Place.TheVariants as at
use Rattle.tp_record.specs.declared.entries.Entry.{Entry}
use Rattle.tp_record.specs.declared.entries.Did.TheVariants as did
use Rattle.tp_record.specs.declared.rows.TaskRow.{TaskRow}
use Rattle.tp_record.specs.declared.rows.SlotRow.{SlotRow}
use Rattle.tp_record.specs.Fields.{rank, is_live, is_queued, is_queued_place, is_cancelled, is_idle_row, queue, idling, place, slot_row, task_row, task_rows}
use Rattle.tp_record.specs.State.{State, state, task_at, slot_at, slot_after, slot_weight, place_weight, is_core_slot, row_after, fate_of, is_fate}
use Rattle.tp_record.specs.Step.{Legal}
use Rattle.tp_laws.proofs.Model.ListLaws.{length-change_each}
use Rattle.tp_laws.proofs.Model.Readings.{slot_read}
use Rattle.tp_laws.proofs.Model.NextState.{slot_row-more}
use Rattle.tp_laws.proofs.Model.Given.{Given}
use Rattle.tp_laws.proofs.Model.Weights.{held_core, weight_of, is_core, task_due, slot_due}
use Rattle.tp_laws.specs.View.{view, Effect}
use Rattle.tp_laws.proofs.Effects.Next.{entry, fits_given, row_next}
use Rattle.tp_laws.proofs.Effects.Lists.{filter_all, queue_filtered, idling_filtered}
use Rattle.tp_laws.proofs.Effects.Done.{done_same}
use Rattle.tp_laws.proofs.Effects.Shapes.{live_most}
use Rattle.tp_laws.proofs.Effects.Sweeps.{zeros, sixes, due_swept}
use Rattle.tp_laws.proofs.Effects.Wide.{slots_stay, sum_by_changed}

-- a task's row after a purge
abbrev pub purged : TaskRow → TaskRow
purged r = if is_queued_place r.place && r.cancelled then record r { place = at.Gone } else r

purge_row : (n t : ℕ) (r : TaskRow) → row_after (did.Purge n) t r ≡ purged r
purge_row n t r = by_test (is_queued_place r.place && r.cancelled)
  where
    by_test : (b : Bool) → ◌≡◌ {A = TaskRow} (record r { place = cond b at.Gone r.place }) (cond b (record r { place = at.Gone }) r)
    by_test true = refl
    by_test false = refl

purge_slot : (n : ℕ) (s : State) (w : ℕ) (o : Option SlotRow) → slot_after (did.Purge n) s w o ≡ o
purge_slot n s w None = refl
purge_slot n s w (Some r) = refl

purge_stays : (b : Bool) → is_queued_place (cond (true && b) at.Gone at.Queued) ≡ not b
purge_stays true = refl
purge_stays false = refl

-- a queued task that is cancelled owes no more
purge_falls : (f : ℕ → Bool) (b : Bool) (p : Place) → place_weight (held_core f (cond (is_queued_place p && b) at.Gone p)) (cond (is_queued_place p && b) at.Gone p) + cond (is_queued_place p) (cond b 6 0) 0 ≡ place_weight (held_core f p) p
purge_falls f true p = grind arith
purge_falls f false p = grind arith

module _ (c : Config) (h : List Entry) (n : ℕ) (legal : Legal c h) (given : Given c h (did.Purge n)) where
  slot_same : (w : ℕ) → slot_row (entry (did.Purge n) ∷ h) w ≡ slot_row h w
  slot_same w = slot_row-more c (entry (did.Purge n)) h (fits_given c h (did.Purge n) legal given) w ∙ purge_slot n (state c h) w (slot_row h w)

  task_falls : (t : ℕ) → task_due (entry (did.Purge n) ∷ h) t + cond (is_queued h t) (cond (is_cancelled h t) 6 0) 0 ≡ task_due h t
  task_falls t =
      let cores : is_core (entry (did.Purge n) ∷ h) ≡ is_core h = fun_ext (λ w. ap is_core_slot (slot_same w)) in
      let a = purge_falls (is_core h) (is_cancelled h t) (place h t) in
      ap (λ f. weight_of f (task_row (entry (did.Purge n) ∷ h) t) + cond (is_queued h t) (cond (is_cancelled h t) 6 0) 0) cores ∙ omega (arith, a)

  slot_kept : (w : ℕ) → slot_due (entry (did.Purge n) ∷ h) w + 0 ≡ slot_due h w
  slot_kept w =
      let r : max 0 (rank h) ≡ rank h = omega arith in
      let e : slot_due (entry (did.Purge n) ∷ h) w ≡ slot_due h w = ap₂ slot_weight r (slot_same w) in
      omega (arith, e)

  -- the cancelled tasks leave the queue
  pub purge : Effect (state c h) (did.Purge n) (record (view (state c h)) { tasks = λ t. purged (task_at (state c h) t); queue = filter (λ t. not (task_at (state c h) t).cancelled) (state c h).queue }) (6 * n) 0
  purge =
      let d = did.Purge n in
      let r : max 0 (rank h) ≡ rank h = omega arith in
      let ws = slots_stay c h d legal given refl (purge_slot n (state c h)) in
      let most = live_most h in
      let swept = due_swept c h d legal given (λ t. cond (is_cancelled h t) 6 0) (λ w. 0) 0 task_falls slot_kept (λ k within. zeros k) in
      let six = sixes (is_cancelled h) (queue c h) in
      record {
        reads = record {
          rank = r;
          core = refl;
          maximum = refl;
          keep = refl;
          core_timeout = refl;
          now = refl;
          submitted = length-change_each (row_after d) 0 (task_rows h);
          tasks = λ t. row_next c h d legal given t ∙ purge_row n t (task_at (state c h) t);
          fates = λ f. sum_by_changed (λ x. cond (is_fate f (fate_of x)) 1 0) (row_after d) 0 (task_rows h) (λ t x. refl);
          queue =
              queue_filtered c h d (λ t. not (task_at (state c h) t).cancelled) (λ t queued. purge_stays (task_at (state c h) t).cancelled);
          slots = λ w. ap (λ xs. slot_at xs w) ws;
          taken = ap (count_by is_some) ws;
          live = ap (count_by is_live) ws;
          largest = ap (λ xs. max (count_by is_live xs) (state c h).largest) ws ∙ (let e : max (count_by is_live (state c h).slots) (state c h).largest ≡ (state c h).largest = omega (arith, most) in e);
          idling =
              idling_filtered c h d (λ w. true) (λ w idle. ap is_idle_row (purge_slot n (state c h) w (slot_at (state c h).slots w) ∙ slot_read h w) ∙ idle)
              ∙ ap (λ xs. xs ++ []) (filter_all (idling h)) ∙ append-nil (idling h);
          done = done_same c h d legal given refl;
          completions = refl;
          left_out = refl;
        };
        owes = omega (arith, swept, six, given, r);
      }
