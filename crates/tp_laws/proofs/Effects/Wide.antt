-- Entries that change the rank alone.
use Rattle.std.proofs.Common.{◌≡◌, ℕ, suc, ◌+◌, ◌≤◌, max, true, false, cond, List, [], ◌∷◌, ◌++◌, length, Option, Some, None, refl, arith, sym, ap, ◌∙◌, inl, inr}
use mathlib.Core.Path.{ap₂}
use Rattle.std.specs.Prelude.{count_by, sum_by, is_some, unwrap_or, option_to_list}
use Rattle.std.proofs.lemmas.Bool.{cases_lt}
use Rattle.std.proofs.lemmas.List.{append-nil, get_or_past}
use Rattle.std.proofs.lemmas.List.Sums.{sum_by-cons, get_or-le-sum_by}
use Rattle.tp_types.specs.declared.configs.Config.{Config}
use Rattle.tp_record.specs.declared.entries.Entry.{Entry}
use Rattle.tp_record.specs.declared.entries.Did.{Did}
use Rattle.tp_record.specs.declared.rows.TaskRow.{TaskRow}
use Rattle.tp_record.specs.declared.rows.SlotRow.{SlotRow}
use Rattle.tp_record.specs.Lists.{change_each, long_enough}
use Rattle.tp_record.specs.Effects.{is_submit, reserves, queues, idles, reaches, is_completion, sets_core, sets_maximum, sets_keep, sets_core_timeout, sets_now}
use Rattle.tp_record.specs.Fields.{is_live, is_idle_row, queue, idling, task_rows}
use Rattle.tp_record.specs.State.{State, state, next, row_at, slot_at, fate_of, is_fate, row_after, slot_after, stays_queued, slot_weight, no_row}
use Rattle.tp_record.specs.Step.{Legal, slot_count}
use Rattle.tp_laws.proofs.Model.Readings.{slot_read}
use Rattle.tp_laws.proofs.Model.Given.{Given}
use Rattle.tp_laws.specs.View.{view, Reads}
use Rattle.tp_laws.proofs.Effects.Lists.{joined, filter_all, queue_filtered, idling_filtered}
use Rattle.tp_laws.proofs.Effects.Done.{is_unfinishing, done_same}
use Rattle.tp_laws.proofs.Effects.Shapes.{live_most}

change_each_same : {A : Type 0} (g : ℕ → A → A) (k : ℕ) (xs : List A) → ((i : ℕ) (x : A) → g i x ≡ x) → change_each g k xs ≡ xs
change_each_same g k [] same = refl
change_each_same g k (x ∷ xs) same = ap₂ (λ y ys. y ∷ ys) (same k x) (change_each_same g (suc k) xs same)

-- a sum over a changed table
pub sum_by_changed : {A : Type 0} (f : A → ℕ) (g : ℕ → A → A) (k : ℕ) (xs : List A) → ((i : ℕ) (x : A) → f (g i x) ≡ f x) → sum_by f (change_each g k xs) ≡ sum_by f xs
sum_by_changed f g k [] same = refl
sum_by_changed f g k (x ∷ xs) same =
    sum_by-cons f (g k x) (change_each g (suc k) xs) ∙ ap₂ (λ a b. a + b) (same k x) (sum_by_changed f g (suc k) xs same) ∙ sym (sum_by-cons f x xs)

-- slots that are none owe nothing
pub none_owed : (n : ℕ) (xs : List (Option SlotRow)) → count_by is_some xs ≡ 0 → sum_by (slot_weight n) xs ≡ 0
none_owed n [] none = refl
none_owed n (None ∷ xs) none =
    let a = sum_by-cons (slot_weight n) None xs in
    let b = sum_by-cons (λ o. cond (is_some o) 1 0) None xs in
    let rest = none_owed n xs (omega (arith, b, none)) in
    omega (arith, a, rest)
none_owed n (Some r ∷ xs) none = let b = sum_by-cons (λ o. cond (is_some o) 1 0) (Some r) xs in absurd (omega (arith, b, none))

module _ (c : Config) (h : List Entry) (d : Did) (legal : Legal c h) (given : Given c h d) where
  -- an entry that changes the row of no task
  pub tasks_stay : is_submit d ≡ false → ((t : ℕ) (r : TaskRow) → row_after d t r ≡ r) → (next (state c h) d).tasks ≡ (state c h).tasks
  tasks_stay old same =
      ap (λ b. cond b (change_each (row_after d) 0 (task_rows h) ++ row_after d (length (task_rows h)) no_row ∷ []) (change_each (row_after d) 0 (task_rows h))) old
      ∙ change_each_same (row_after d) 0 (task_rows h) same

  -- an entry that changes no slot
  pub slots_stay : reserves d ≡ None → ((w : ℕ) (o : Option SlotRow) → slot_after d (state c h) w o ≡ o) → (next (state c h) d).slots ≡ (state c h).slots
  slots_stay none same =
      ap (λ o. change_each (slot_after d (state c h)) 0 (long_enough o None (state c h).slots)) none
      ∙ change_each_same (slot_after d (state c h)) 0 (state c h).slots same

  -- what is seen after an entry that changes the rank alone
  pub reads_rank : is_unfinishing d ≡ true → is_submit d ≡ false → reserves d ≡ None → queues d ≡ None → idles d ≡ None → is_completion d ≡ false →
      ((t : ℕ) (r : TaskRow) → row_after d t r ≡ r) → ((w : ℕ) (o : Option SlotRow) → slot_after d (state c h) w o ≡ o) → ((t : ℕ) → stays_queued d (task_rows h) t ≡ true) →
      (n : ℕ) → max (reaches d) (state c h).rank ≡ n → sets_core d ≡ None → sets_maximum d ≡ None → sets_keep d ≡ None →
      sets_core_timeout d ≡ None → sets_now d ≡ None → Reads (next (state c h) d) (record (view (state c h)) { rank = n })
  reads_rank still old makes puts wakes lasts rows slots stays n is core maximum keep timeout now =
      let ts = tasks_stay old rows in
      let ws = slots_stay makes slots in
      let most = live_most h in
      record {
        rank = is;
        core = ap (λ o. unwrap_or o (state c h).core) core;
        maximum = ap (λ o. unwrap_or o (state c h).maximum) maximum;
        keep = ap (λ o. unwrap_or o (state c h).keep) keep;
        core_timeout = ap (λ o. unwrap_or o (state c h).core_timeout) timeout;
        now = ap (λ o. unwrap_or o (state c h).now) now;
        submitted = ap length ts;
        tasks = λ t. ap (λ xs. row_at xs t) ts;
        fates = λ f. ap (count_by (λ r. is_fate f (fate_of r))) ts;
        queue =
            queue_filtered c h d (λ t. true) (λ t queued. stays t)
            ∙ ap (joined c h d (queues d)) (filter_all (queue c h)) ∙ ap (λ o. joined c h d o (queue c h)) puts;
        slots = λ w. ap (λ xs. slot_at xs w) ws;
        taken = ap (count_by is_some) ws;
        live = ap (count_by is_live) ws;
        largest = ap (λ xs. max (count_by is_live xs) (state c h).largest) ws ∙ (let e : max (count_by is_live (state c h).slots) (state c h).largest ≡ (state c h).largest = omega (arith, most) in e);
        idling =
            idling_filtered c h d (λ w. true) (λ w idle. ap is_idle_row (slots w (slot_at (state c h).slots w) ∙ slot_read h w) ∙ idle)
            ∙ ap (λ xs. xs ++ option_to_list (idles d)) (filter_all (idling h)) ∙ rw wakes (append-nil (idling h));
        done = done_same c h d legal given still;
        completions = ap (λ b. cond b (suc (state c h).completions) (state c h).completions) lasts;
        left_out = refl;
      }

-- what is counted of a slot is within the sum over the slots
pub slot_within : (f : Option SlotRow → ℕ) → f None ≡ 0 → (xs : List (Option SlotRow)) (w : ℕ) → f (slot_at xs w) ≤ sum_by f xs
slot_within f none xs w =
    elim (cases_lt w (length xs)) [
      | inl below ↦ get_or-le-sum_by f xs w None below
      | inr past ↦ let e : f (slot_at xs w) ≡ 0 = ap f (get_or_past xs w None past) ∙ none in omega (arith, e)
    ]

-- so there is a slot where one is read, and a live one where a live one is read
pub taken_one : (s : State) (w : ℕ) (r : SlotRow) → slot_at s.slots w ≡ Some r → 1 ≤ slot_count s
taken_one s w r seat =
    let e = slot_within (λ o. cond (is_some o) 1 0) refl s.slots w in
    let a : ◌≡◌ {A = ℕ} (cond (is_some (slot_at s.slots w)) 1 0) 1 = ap (λ o. cond (is_some o) 1 0) seat in
    omega (arith, e, a)

pub live_one : (s : State) (w : ℕ) (r : SlotRow) → slot_at s.slots w ≡ Some r → is_live (Some r) ≡ true → 1 ≤ count_by is_live s.slots
live_one s w r seat lively =
    let e = slot_within (λ o. cond (is_live o) 1 0) refl s.slots w in
    let a : ◌≡◌ {A = ℕ} (cond (is_live (slot_at s.slots w)) 1 0) 1 = ap (λ o. cond (is_live o) 1 0) seat ∙ ap (λ b. cond b 1 0) lively in
    omega (arith, e, a)
