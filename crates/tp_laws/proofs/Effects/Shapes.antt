-- What is seen of the next state, part by part, by the shape of what an entry changes.
use Rattle.std.proofs.Common.{◌≡◌, ℕ, suc, ◌+◌, ◌-◌, ◌≤◌, max, Bool, true, false, cond, List, [], ◌∷◌, ◌++◌, length, Option, Some, None, refl, arith, sym, ap, ◌∙◌}
use Rattle.std.specs.Prelude.{count_by, unwrap_or, is_some, if◌then◌else◌}
use Rattle.tp_types.specs.declared.configs.Config.{Config}
use Rattle.tp_types.specs.declared.tasks.Fate.{Fate}
use Rattle.tp_types.specs.declared.tasks.Fate.TheVariants as fate
use Rattle.tp_record.specs.declared.entries.Entry.{Entry}
use Rattle.tp_record.specs.declared.entries.Did.{Did}
use Rattle.tp_record.specs.declared.entries.Did.TheVariants as did
use Rattle.tp_record.specs.declared.entries.Ruled.TheVariants as ruled
use Rattle.tp_record.specs.declared.rows.TaskRow.{TaskRow}
use Rattle.tp_record.specs.declared.rows.SlotRow.{SlotRow}
use Rattle.tp_record.specs.Lists.{is_it, change_each}
use Rattle.tp_record.specs.Effects.{is_submit, is_completion, reaches, sets_core, sets_maximum, sets_keep, sets_core_timeout, sets_now, idles}
use Rattle.tp_record.specs.Fields.{submitted, task_row, task_rows, slot_row, is_live, live, largest, is_idle, is_idle_row, queue}
use Rattle.tp_record.specs.State.{State, state, next, due, task_at, slot_at, fated, fate_of, is_fate, row_after, slot_after, no_row}
use Rattle.tp_record.specs.Step.{Legal, slot_count, done_of}
use Rattle.tp_laws.proofs.Model.ListLaws.{length-change_each}
use Rattle.tp_laws.proofs.Model.Readings.{tasks_counted}
use Rattle.tp_laws.proofs.Model.Given.{Given}
use Rattle.tp_laws.proofs.Model.NextState.{slot_row-more}
use Rattle.tp_laws.proofs.Model.Keystone.{IsSound}
use Rattle.tp_laws.proofs.Model.Told.{sound_legal}
use Rattle.tp_laws.proofs.Model.Totals.{at_named, total, sum_by-table, total-longer, total-agree}
use Rattle.tp_laws.specs.View.{view, Reads, put}
use Rattle.tp_laws.proofs.Effects.Names.{is_wide, names, drops, beside, seats, replaces}
use Rattle.tp_laws.proofs.Effects.Next.{entry, fits_given, next_given, sound_given, row_sound, rows_same, rows_one, rows_two, slots_same, slots_one, slots_two}
use Rattle.tp_laws.proofs.Effects.Lists.{only, idling_same}
use Rattle.tp_laws.proofs.Effects.Sums.{named_due, due_next, slots_next, tasks_next}

-- an entry that changes no setting, no moment and no rank
abbrev pub is_quiet : Did → Bool
is_quiet did.Shutdown = false
is_quiet (did.Stop n) = false
is_quiet did.Tidy = false
is_quiet did.Ended = false
is_quiet (did.Core n k) = false
is_quiet (did.Maximum n) = false
is_quiet (did.Keep n) = false
is_quiet (did.CoreTimeout on) = false
is_quiet (did.Tick n) = false
is_quiet _ = true

-- what is seen of the tasks
pub record TasksRead (s : State) (n : ℕ) (rows : ℕ → TaskRow) (fates : Fate → ℕ) : Type 0 where
  pub count : length s.tasks ≡ n
  pub row : (t : ℕ) → task_at s t ≡ rows t
  pub fate : (f : Fate) → fated f s ≡ fates f

-- what is seen of the slots
pub record SlotsRead (s : State) (rows : ℕ → Option SlotRow) (taken live largest : ℕ) (idling : List ℕ) : Type 0 where
  pub row : (w : ℕ) → slot_at s.slots w ≡ rows w
  pub count : slot_count s ≡ taken
  pub working : count_by is_live s.slots ≡ live
  pub most : s.largest ≡ largest
  pub idle : s.idling ≡ idling

-- what is seen where no setting changes
pub reads_by : (s : State) (d : Did) → is_quiet d ≡ true → {n : ℕ} {tasks : ℕ → TaskRow} {fates : Fate → ℕ} {queue : List ℕ} {slots : ℕ → Option SlotRow} {taken live largest : ℕ} {idling : List ℕ}
    {done : ℕ → List ℕ} {completions : ℕ} → TasksRead (next s d) n tasks fates → (next s d).queue ≡ queue → SlotsRead (next s d) slots taken live largest idling →
    ((g : ℕ) → done_of (next s d) g ≡ done g) → (next s d).completions ≡ completions →
    Reads (next s d) (record (view s) {
      submitted = n;
      tasks = tasks;
      fates = fates;
      queue = queue;
      slots = slots;
      taken = taken;
      live = live;
      largest = largest;
      idling = idling;
      done = done;
      completions = completions;
    })
reads_by s d quiet tasks queue slots done completions =
    record {
      rank = (let z = still_rank d quiet in let e : max (reaches d) s.rank ≡ s.rank = omega arith in e);
      core = ap (λ o. unwrap_or o s.core) (still_core d quiet);
      maximum = ap (λ o. unwrap_or o s.maximum) (still_maximum d quiet);
      keep = ap (λ o. unwrap_or o s.keep) (still_keep d quiet);
      core_timeout = ap (λ o. unwrap_or o s.core_timeout) (still_timeout d quiet);
      now = ap (λ o. unwrap_or o s.now) (still_now d quiet);
      submitted = tasks.count;
      tasks = tasks.row;
      fates = tasks.fate;
      queue = queue;
      slots = slots.row;
      taken = slots.count;
      live = slots.working;
      largest = slots.most;
      idling = slots.idle;
      done = done;
      completions = completions;
      left_out = refl;
    }
  where
    still_rank : (d : Did) → is_quiet d ≡ true → reaches d ≡ 0
    still_rank d quiet = grind arith

    still_core : (d : Did) → is_quiet d ≡ true → sets_core d ≡ None
    still_core d quiet = grind arith

    still_maximum : (d : Did) → is_quiet d ≡ true → sets_maximum d ≡ None
    still_maximum d quiet = grind arith

    still_keep : (d : Did) → is_quiet d ≡ true → sets_keep d ≡ None
    still_keep d quiet = grind arith

    still_timeout : (d : Did) → is_quiet d ≡ true → sets_core_timeout d ≡ None
    still_timeout d quiet = grind arith

    still_now : (d : Did) → is_quiet d ≡ true → sets_now d ≡ None
    still_now d quiet = grind arith

-- what is seen where a setting or the moment changes, and the rank stays
pub reads_set : (s : State) (d : Did) → reaches d ≡ 0 → {n : ℕ} {tasks : ℕ → TaskRow} {fates : Fate → ℕ} {queue : List ℕ} {slots : ℕ → Option SlotRow} {taken live largest : ℕ} {idling : List ℕ}
    {done : ℕ → List ℕ} → TasksRead (next s d) n tasks fates → (next s d).queue ≡ queue → SlotsRead (next s d) slots taken live largest idling →
    ((g : ℕ) → done_of (next s d) g ≡ done g) → is_completion d ≡ false →
    Reads (next s d) (record (view s) {
      core = unwrap_or (sets_core d) s.core;
      maximum = unwrap_or (sets_maximum d) s.maximum;
      keep = unwrap_or (sets_keep d) s.keep;
      core_timeout = unwrap_or (sets_core_timeout d) s.core_timeout;
      now = unwrap_or (sets_now d) s.now;
      submitted = n;
      tasks = tasks;
      fates = fates;
      queue = queue;
      slots = slots;
      taken = taken;
      live = live;
      largest = largest;
      idling = idling;
      done = done;
    })
reads_set s d still tasks queue slots done none = record {
  rank = (let e : max (reaches d) s.rank ≡ s.rank = omega (arith, still) in e);
  core = refl;
  maximum = refl;
  keep = refl;
  core_timeout = refl;
  now = refl;
  submitted = tasks.count;
  tasks = tasks.row;
  fates = tasks.fate;
  queue = queue;
  slots = slots.row;
  taken = slots.count;
  live = slots.working;
  largest = slots.most;
  idling = slots.idle;
  done = done;
  completions = ap (λ b. cond b (suc s.completions) s.completions) none;
  left_out = refl;
}

-- an entry that gives no task a fate
abbrev pub is_fateless : Did → Bool
is_fateless (did.Submit t k p l) = false
is_fateless (did.Verdict t v ruled.Rejected) = false
is_fateless (did.Verdict t v ruled.Discarded) = false
is_fateless (did.Verdict t v (ruled.RetryDrop u)) = false
is_fateless (did.CallerEnd t o) = false
is_fateless (did.End w t o) = false
is_fateless (did.Remove t true) = false
is_fateless (did.Cancel t flag true) = false
is_fateless (did.Stop n) = false
is_fateless _ = true

fate_stays : (d : Did) (t : ℕ) (r : TaskRow) → is_fateless d ≡ true → fate_of (row_after d t r) ≡ fate_of r
fate_stays d t r still = grind arith

-- no front of a history has more live slots
pub live_most : (h : List Entry) → live h ≤ largest h
live_most [] = omega arith
live_most (e ∷ h) = omega arith

module _ (c : Config) (h : List Entry) (d : Did) (legal : Legal c h) (given : Given c h d) (narrow : is_wide d ≡ false) where
  -- what is owed, where the weights at what the entry names fall so
  pub owes_by : (fall rise : ℕ) → named_due h d h + rise ≡ named_due h d (entry d ∷ h) + fall → due (next (state c h) d) + fall ≡ due (state c h) + rise
  owes_by fall rise falls = let e = due_next c h d legal given narrow in omega (arith, e, falls)

  -- the number of tasks
  pub count_same : is_submit d ≡ false → length (next (state c h) d).tasks ≡ length (state c h).tasks
  count_same old =
      ap (λ b. length (cond b (change_each (row_after d) 0 (state c h).tasks ++ row_after d (length (state c h).tasks) no_row ∷ []) (change_each (row_after d) 0 (state c h).tasks))) old
      ∙ length-change_each (row_after d) 0 (state c h).tasks

  -- the fates, where no task gets one
  pub fates_same : is_fateless d ≡ true → (f : Fate) → fated f (next (state c h) d) ≡ fated f (state c h)
  fates_same still f =
      let m = submitted h + submitted (entry d ∷ h) in
      let before = summed h (sound_legal c h legal) m (omega arith) in
      let after = summed (entry d ∷ h) (sound_given c h d legal given) m (omega arith) in
      ap (fated f) (sym (next_given c h d legal given)) ∙ after
      ∙ total-agree (λ t. one (task_row h t)) (λ t. one (task_row (entry d ∷ h) t)) m (λ t below. ap (λ o. cond (is_fate f o) 1 0) (fate_stays d t (task_row h t) still))
      ∙ sym before
    where
      one : TaskRow → ℕ
      one r = cond (is_fate f (fate_of r)) 1 0

      none : (f : Fate) → ◌≡◌ {A = ℕ} (cond (is_fate f None) 1 0) 0
      none f = grind arith

      summed : (k : List Entry) → IsSound k → (m : ℕ) → submitted k ≤ m → count_by (λ r. is_fate f (fate_of r)) (task_rows k) ≡ total (λ t. cond (is_fate f (fate_of (task_row k t))) 1 0) m
      summed k sound m within =
          sum_by-table (λ r. cond (is_fate f (fate_of r)) 1 0) (task_row k) (submitted k)
          ∙ sym (total-longer (λ t. cond (is_fate f (fate_of (task_row k t))) 1 0) (submitted k) m (λ t past. ap (λ r. cond (is_fate f (fate_of r)) 1 0) ((sound t 0).fresh past) ∙ none f) within)

  -- no task changes
  pub tasks_kept : is_submit d ≡ false → is_fateless d ≡ true → names d ≡ None → drops d ≡ None → TasksRead (next (state c h) d) (length (state c h).tasks) (task_at (state c h)) (λ f. fated f (state c h))
  tasks_kept old still none more = record { count = count_same old; row = rows_same c h d legal given narrow none more; fate = fates_same still }

  -- one task changes, and no fate
  pub task_turned : is_submit d ≡ false → is_fateless d ≡ true → (t : ℕ) → names d ≡ Some t → drops d ≡ None → (y : TaskRow) → row_after d t (task_at (state c h) t) ≡ y →
      TasksRead (next (state c h) d) (length (state c h).tasks) (put t y (task_at (state c h))) (λ f. fated f (state c h))
  task_turned old still t one more y says = record { count = count_same old; row = rows_one c h d legal given narrow t one more y says; fate = fates_same still }

  -- no slot changes
  pub slots_kept : seats d ≡ None → replaces d ≡ None → idles d ≡ None → SlotsRead (next (state c h) d) (slot_at (state c h).slots) (slot_count (state c h)) (count_by is_live (state c h).slots) (state c h).largest (state c h).idling
  slots_kept none more wakes =
      let taken = slots_next c h d legal given narrow (λ o. cond (is_some o) 1 0) refl in
      let lives = slots_next c h d legal given narrow (λ o. cond (is_live o) 1 0) refl in
      let a : slot_count (next (state c h) d) ≡ slot_count (state c h) = omega (arith, both _ _ _ _ none more taken) in
      let b : count_by is_live (next (state c h) d).slots ≡ count_by is_live (state c h).slots = omega (arith, both _ _ _ _ none more lives) in
      let most = live_most h in
      record {
        row = slots_same c h d legal given narrow none more;
        count = a;
        working = b;
        most = (let e : max (count_by is_live (next (state c h) d).slots) (state c h).largest ≡ (state c h).largest = omega (arith, b, most) in e);
        idle = idling_same c h d narrow wakes (λ w is. absurd (off (seats d) none w is)) (λ w is. absurd (off (replaces d) more w is));
      }
    where
      off : (o : Option ℕ) → o ≡ None → (w : ℕ) → is_it o w ≡ true → ⊥
      off o none w is = grind arith

      both : (x y : ℕ) (f g : ℕ → ℕ) → seats d ≡ None → replaces d ≡ None → x + (at_named f (seats d) + at_named f (replaces d)) ≡ y + (at_named g (seats d) + at_named g (replaces d)) → x ≡ y
      both x y f g none more e =
          let p : at_named f (seats d) ≡ 0 = ap (at_named f) none in
          let q : at_named f (replaces d) ≡ 0 = ap (at_named f) more in
          let r : at_named g (seats d) ≡ 0 = ap (at_named g) none in
          let k : at_named g (replaces d) ≡ 0 = ap (at_named g) more in
          omega arith

  -- one slot changes, from o to p: the counts by what is given of them
  pub slot_turned : (w : ℕ) → seats d ≡ Some w → replaces d ≡ None → (taken lives most : ℕ) (order : List ℕ) (o p : Option SlotRow) → slot_row h w ≡ o → slot_after d (state c h) w o ≡ p →
      (slot_count (next (state c h) d) + cond (is_some o) 1 0 ≡ slot_count (state c h) + cond (is_some p) 1 0 → slot_count (next (state c h) d) ≡ taken) →
      (count_by is_live (next (state c h) d).slots + cond (is_live o) 1 0 ≡ count_by is_live (state c h).slots + cond (is_live p) 1 0 → count_by is_live (next (state c h) d).slots ≡ lives) →
      (live h ≤ largest h → max lives (state c h).largest ≡ most) → (next (state c h) d).idling ≡ order → SlotsRead (next (state c h) d) (put w p (slot_at (state c h).slots)) taken lives most order
  slot_turned w one more taken lives most order o p was says counts works rises orders =
      let is : slot_row (entry d ∷ h) w ≡ p = slot_row-more c (entry d) h (fits_given c h d legal given) w ∙ ap (slot_after d (state c h) w) was ∙ says in
      let e = slots_next c h d legal given narrow (λ x. cond (is_some x) 1 0) refl in
      let f = slots_next c h d legal given narrow (λ x. cond (is_live x) 1 0) refl in
      let v = works (at_w is (λ x. cond (is_live x) 1 0) _ _ f) in
      record {
        row = slots_one c h d legal given narrow w one more p is;
        count = counts (at_w is (λ x. cond (is_some x) 1 0) _ _ e);
        working = v;
        most = ap (λ n. max n (state c h).largest) v ∙ rises (live_most h);
        idle = orders;
      }
    where
      at_w : slot_row (entry d ∷ h) w ≡ p → (g : Option SlotRow → ℕ) (x y : ℕ) → x + (at_named (λ k. g (slot_row h k)) (seats d) + at_named (λ k. g (slot_row h k)) (replaces d))
          ≡ y + (at_named (λ k. g (slot_row (entry d ∷ h) k)) (seats d) + at_named (λ k. g (slot_row (entry d ∷ h) k)) (replaces d)) → x + g o ≡ y + g p
      at_w is g x y e =
          let a : at_named (λ k. g (slot_row h k)) (seats d) ≡ g o = ap (at_named (λ k. g (slot_row h k))) one ∙ ap g was in
          let b : at_named (λ k. g (slot_row h k)) (replaces d) ≡ 0 = ap (at_named (λ k. g (slot_row h k))) more in
          let i : at_named (λ k. g (slot_row (entry d ∷ h) k)) (seats d) ≡ g p = ap (at_named (λ k. g (slot_row (entry d ∷ h) k))) one ∙ ap g is in
          let j : at_named (λ k. g (slot_row (entry d ∷ h) k)) (replaces d) ≡ 0 = ap (at_named (λ k. g (slot_row (entry d ∷ h) k))) more in
          omega arith

  -- a new task
  pub task_new : (t : ℕ) → names d ≡ Some t → drops d ≡ None → beside h d ≡ None → is_submit d ≡ true → t ≡ submitted h → (y : TaskRow) → row_after d t no_row ≡ y → fate_of y ≡ None →
      TasksRead (next (state c h) d) (suc (length (state c h).tasks)) (put t y (task_at (state c h))) (λ f. fated f (state c h))
  task_new t one more by new number y says unfated_new =
      let fresh : task_row h t ≡ no_row = (sound_legal c h legal t 0).fresh (omega arith) in
      let read : task_at (state c h) t ≡ no_row = row_sound h (sound_legal c h legal) c t ∙ fresh in
      record {
        count =
            ap (λ x. length x.tasks) (sym (next_given c h d legal given)) ∙ tasks_counted (entry d ∷ h)
            ∙ ap (λ b. cond b (suc (submitted h)) (submitted h)) new ∙ ap suc (sym (tasks_counted h));
        row = rows_one c h d legal given narrow t one more y (ap (row_after d t) read ∙ says);
        fate = λ f.
            let g : TaskRow → ℕ = λ r. cond (is_fate f (fate_of r)) 1 0 in
            let e = tasks_next c h d legal given narrow g (unfated f) in
            let a : at_named (λ k. g (task_row h k)) (names d) ≡ 0 = ap (at_named (λ k. g (task_row h k))) one ∙ ap g fresh ∙ unfated f in
            let b : at_named (λ k. g (task_row (entry d ∷ h) k)) (names d) ≡ 0 =
            ap (at_named (λ k. g (task_row (entry d ∷ h) k))) one ∙ ap g (ap (row_after d t) fresh ∙ says) ∙ ap (λ o. cond (is_fate f o) 1 0) unfated_new ∙ unfated f in
            let i : at_named (λ k. g (task_row h k)) (beside h d) ≡ 0 = ap (at_named (λ k. g (task_row h k))) by in
            let j : at_named (λ k. g (task_row (entry d ∷ h) k)) (beside h d) ≡ 0 = ap (at_named (λ k. g (task_row (entry d ∷ h) k))) by in
            omega (arith, e, a, b, i, j);
      }
    where
      unfated : (f : Fate) → ◌≡◌ {A = ℕ} (cond (is_fate f None) 1 0) 0
      unfated f = grind arith

  -- one task changes, and the numbers of fates by `extra`
  pub task_fated : is_submit d ≡ false → (t : ℕ) → names d ≡ Some t → drops d ≡ None → beside h d ≡ None → (y : TaskRow) → row_after d t (task_at (state c h) t) ≡ y →
      (extra : Fate → ℕ) → ((f : Fate) → ◌≡◌ {A = ℕ} (cond (is_fate f (fate_of y)) 1 0) (cond (is_fate f (fate_of (task_at (state c h) t))) 1 0 + extra f)) →
      TasksRead (next (state c h) d) (length (state c h).tasks) (put t y (task_at (state c h))) (λ f. fated f (state c h) + extra f)
  task_fated old t one more by y says extra raised = record {
    count = count_same old;
    row = rows_one c h d legal given narrow t one more y says;
    fate = λ f.
        let g : TaskRow → ℕ = λ r. cond (is_fate f (fate_of r)) 1 0 in
        let e = tasks_next c h d legal given narrow g (unfated f) in
        let read : task_at (state c h) t ≡ task_row h t = row_sound h (sound_legal c h legal) c t in
        let a : at_named (λ k. g (task_row h k)) (names d) ≡ g (task_at (state c h) t) = ap (at_named (λ k. g (task_row h k))) one ∙ ap g (sym read) in
        let b : at_named (λ k. g (task_row (entry d ∷ h) k)) (names d) ≡ g y =
        ap (at_named (λ k. g (task_row (entry d ∷ h) k))) one ∙ ap (λ r. g (row_after d t r)) (sym read) ∙ ap g says in
        let i : at_named (λ k. g (task_row h k)) (beside h d) ≡ 0 = ap (at_named (λ k. g (task_row h k))) by in
        let j : at_named (λ k. g (task_row (entry d ∷ h) k)) (beside h d) ≡ 0 = ap (at_named (λ k. g (task_row (entry d ∷ h) k))) by in
        let r = raised f in
        omega (arith, e, a, b, i, j, r);
  }
    where
      unfated : (f : Fate) → ◌≡◌ {A = ℕ} (cond (is_fate f None) 1 0) 0
      unfated f = grind arith

  -- a task that ends with the fate x, unless it was cancelled
  pub task_ended : is_submit d ≡ false → (t : ℕ) → names d ≡ Some t → drops d ≡ None → beside h d ≡ None → (y : TaskRow) → row_after d t (task_at (state c h) t) ≡ y →
      (x : Fate) → (task_at (state c h) t).ending ≡ None → y.ending ≡ Some x → y.cancelled ≡ (task_at (state c h) t).cancelled →
      TasksRead (next (state c h) d) (length (state c h).tasks) (put t y (task_at (state c h))) (λ f. fated f (state c h) + cond (is_fate f (if (task_at (state c h) t).cancelled then None else Some x)) 1 0)
  task_ended old t one more by y says x was is same =
      task_fated old t one more by y says (λ f. cond (is_fate f (if (task_at (state c h) t).cancelled then None else Some x)) 1 0)
      (λ f. raised f x (task_at (state c h) t).cancelled y.cancelled (task_at (state c h) t).ending y.ending was is same)
    where
      raised : (f x : Fate) (b b' : Bool) (o o' : Option Fate) → o ≡ None → o' ≡ Some x → b' ≡ b →
          cond (is_fate f (if b' then Some fate.Cancelled else o')) 1 0 ≡ cond (is_fate f (if b then Some fate.Cancelled else o)) 1 0 + cond (is_fate f (if b then None else Some x)) 1 0
      raised f x true b' o o' was is same = rw same (by_fate f)
        where
          by_fate : (f : Fate) → ◌≡◌ {A = ℕ} (cond (is_fate f (Some fate.Cancelled)) 1 0) (cond (is_fate f (Some fate.Cancelled)) 1 0 + cond (is_fate f None) 1 0)
          by_fate f = grind arith
      raised f x false b' o o' was is same = rw (same, was, is) (by_fate f x)
        where
          by_fate : (f x : Fate) → ◌≡◌ {A = ℕ} (cond (is_fate f (Some x)) 1 0) (cond (is_fate f None) 1 0 + cond (is_fate f (Some x)) 1 0)
          by_fate f x = grind arith

  -- two tasks change, the second of which gets a fate
  pub tasks_two : is_submit d ≡ false → (t u : ℕ) → names d ≡ Some t → drops d ≡ Some u → beside h d ≡ Some u → (u ≡ t → ⊥) →
      (y z : TaskRow) → row_after d t (task_at (state c h) t) ≡ y → row_after d u (task_at (state c h) u) ≡ z → fate_of y ≡ fate_of (task_at (state c h) t) →
      (extra : Fate → ℕ) → ((f : Fate) → ◌≡◌ {A = ℕ} (cond (is_fate f (fate_of z)) 1 0) (cond (is_fate f (fate_of (task_at (state c h) u))) 1 0 + extra f)) →
      TasksRead (next (state c h) d) (length (state c h).tasks) (put t y (put u z (task_at (state c h)))) (λ f. fated f (state c h) + extra f)
  tasks_two old t u one more by apart y z says other same extra raised = record {
    count = count_same old;
    row = rows_two c h d legal given narrow t u one more y z apart says other;
    fate = λ f.
        let g : TaskRow → ℕ = λ r. cond (is_fate f (fate_of r)) 1 0 in
        let e = tasks_next c h d legal given narrow g (unfated f) in
        let read : (x : ℕ) → task_at (state c h) x ≡ task_row h x = λ x. row_sound h (sound_legal c h legal) c x in
        let a : at_named (λ k. g (task_row h k)) (names d) ≡ g (task_at (state c h) t) = ap (at_named (λ k. g (task_row h k))) one ∙ ap g (sym (read t)) in
        let b : at_named (λ k. g (task_row (entry d ∷ h) k)) (names d) ≡ g (task_at (state c h) t) =
        ap (at_named (λ k. g (task_row (entry d ∷ h) k))) one ∙ ap (λ r. g (row_after d t r)) (sym (read t)) ∙ ap g says ∙ ap (λ o. cond (is_fate f o) 1 0) same in
        let i : at_named (λ k. g (task_row h k)) (beside h d) ≡ g (task_at (state c h) u) = ap (at_named (λ k. g (task_row h k))) by ∙ ap g (sym (read u)) in
        let j : at_named (λ k. g (task_row (entry d ∷ h) k)) (beside h d) ≡ g z =
        ap (at_named (λ k. g (task_row (entry d ∷ h) k))) by ∙ ap (λ r. g (row_after d u r)) (sym (read u)) ∙ ap g other in
        let r = raised f in
        omega (arith, e, a, b, i, j, r);
  }
    where
      unfated : (f : Fate) → ◌≡◌ {A = ℕ} (cond (is_fate f None) 1 0) 0
      unfated f = grind arith

  -- a live slot is freed, and another reserved
  pub slots_moved : (w x : ℕ) → seats d ≡ Some w → replaces d ≡ Some x → (o p : SlotRow) → slot_row h w ≡ Some o → slot_row h x ≡ None → is_live (Some o) ≡ true → is_live (Some p) ≡ false →
      slot_row (entry d ∷ h) w ≡ None → slot_row (entry d ∷ h) x ≡ Some p → is_idle h w ≡ false → idles d ≡ None →
      SlotsRead (next (state c h) d) (put x (Some p) (put w None (slot_at (state c h).slots))) (slot_count (state c h)) (count_by is_live (state c h).slots - 1) (state c h).largest (state c h).idling
  slots_moved w x one two o p was free lively reserved gone made busy wakes =
      let e = both (λ k. cond (is_some k) 1 0) _ _ (slots_next c h d legal given narrow (λ k. cond (is_some k) 1 0) refl) in
      let f = both (λ k. cond (is_live k) 1 0) _ _ (slots_next c h d legal given narrow (λ k. cond (is_live k) 1 0) refl) in
      let l : ◌≡◌ {A = ℕ} (cond (is_live (Some o)) 1 0) 1 = ap (λ b. cond b 1 0) lively in
      let m : ◌≡◌ {A = ℕ} (cond (is_live (Some p)) 1 0) 0 = ap (λ b. cond b 1 0) reserved in
      let v : count_by is_live (next (state c h) d).slots ≡ count_by is_live (state c h).slots - 1 = omega (arith, f, l, m) in
      let most = live_most h in
      record {
        row = slots_two c h d legal given narrow w x one two None (Some p) gone made;
        count = omega (arith, e);
        working = v;
        most = (let k : max (count_by is_live (next (state c h) d).slots) (state c h).largest ≡ (state c h).largest = omega (arith, v, most) in k);
        idle = idling_same c h d narrow wakes (λ y named. only (is_idle h) w false busy y (ap (λ n. is_it n y) (sym one) ∙ named))
            (λ y named. only (is_idle h) x false (ap is_idle_row free) y (ap (λ n. is_it n y) (sym two) ∙ named));
      }
    where
      both : (g : Option SlotRow → ℕ) (a b : ℕ) → a + (at_named (λ k. g (slot_row h k)) (seats d) + at_named (λ k. g (slot_row h k)) (replaces d))
          ≡ b + (at_named (λ k. g (slot_row (entry d ∷ h) k)) (seats d) + at_named (λ k. g (slot_row (entry d ∷ h) k)) (replaces d)) → a + (g (Some o) + g None) ≡ b + (g None + g (Some p))
      both g a b e =
          let i : at_named (λ k. g (slot_row h k)) (seats d) ≡ g (Some o) = ap (at_named (λ k. g (slot_row h k))) one ∙ ap g was in
          let j : at_named (λ k. g (slot_row h k)) (replaces d) ≡ g None = ap (at_named (λ k. g (slot_row h k))) two ∙ ap g free in
          let k : at_named (λ k. g (slot_row (entry d ∷ h) k)) (seats d) ≡ g None = ap (at_named (λ k. g (slot_row (entry d ∷ h) k))) one ∙ ap g gone in
          let l : at_named (λ k. g (slot_row (entry d ∷ h) k)) (replaces d) ≡ g (Some p) = ap (at_named (λ k. g (slot_row (entry d ∷ h) k))) two ∙ ap g made in
          omega arith
