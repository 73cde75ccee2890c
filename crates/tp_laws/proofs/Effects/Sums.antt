-- What is owed after an entry, and how many slots are taken or live and how many tasks have a fate: each changes as it
-- does at what the entry names.
use Rattle.std.proofs.Common.{◌≡◌, ℕ, ◌+◌, ◌-◌, ◌≤◌, Bool, true, false, ◌||◌, List, ◌∷◌, Option, Some, None, refl, arith, sym, ap, ◌∙◌}
use mathlib.Core.Path.{ap₂}
use Rattle.std.specs.Prelude.{sum_by, if◌then◌else◌}
use Rattle.std.proofs.lemmas.Bool.{ne_eqb}
use Rattle.std.proofs.lemmas.Bool.Decides.{nat_tests}
use Rattle.tp_types.specs.declared.configs.Config.{Config}
use Rattle.tp_types.specs.declared.ids.SlotId.{SlotId}
use Rattle.tp_types.specs.declared.tasks.Place.{Place}
use Rattle.tp_types.specs.declared.tasks.Place.TheVariants as at
use Rattle.tp_record.specs.declared.entries.Entry.{Entry}
use Rattle.tp_record.specs.declared.entries.Did.{Did}
use Rattle.tp_record.specs.declared.entries.Did.TheVariants as did
use Rattle.tp_record.specs.declared.entries.Looked.TheVariants as looked
use Rattle.tp_record.specs.declared.entries.Ruled.TheVariants as ruled
use Rattle.tp_record.specs.declared.entries.Opened.TheVariants as opened
use Rattle.tp_record.specs.declared.rows.TaskRow.{TaskRow}
use Rattle.tp_record.specs.declared.rows.SlotRow.{SlotRow}
use Rattle.tp_record.specs.Lists.{is_it}
use Rattle.tp_record.specs.Fields.{rank, submitted, place, task_row, task_rows, slot_row, slot_rows, slot_bound, reach}
use Rattle.tp_record.specs.State.{state, next, due, no_row, place_weight, slot_weight, is_core_slot}
use Rattle.tp_record.specs.Step.{Legal}
use Rattle.tp_laws.specs.Seats.{slot_of, seat_of}
use Rattle.tp_laws.proofs.Model.Readings.{slot_below}
use Rattle.tp_laws.proofs.Model.Given.{Given}
use Rattle.tp_laws.proofs.Model.NextState.{slot_row-more}
use Rattle.tp_laws.proofs.Model.Keystone.{IsSound}
use Rattle.tp_laws.proofs.Model.Told.{sound_legal}
use Rattle.tp_laws.proofs.Model.Totals.{at_named, total, sum_by-table, total-longer, total-agree, total-at, total-at_both}
use Rattle.tp_laws.proofs.Model.Weights.{held_core, weight_of, is_core, task_due, slot_due, due_totals}
use Rattle.tp_laws.proofs.Effects.Names.{is_wide, names, drops, beside, seats, replaces, other_row, other_slot, rank_still}
use Rattle.tp_laws.proofs.Effects.Next.{entry, fits_given, next_given, sound_given}

-- Sums over what an entry names

-- a sum changes as its function does at the two numbers where it may
pub total_named : (f g : ℕ → ℕ) (o p : Option ℕ) (n : ℕ) → reach o ≤ n → reach p ≤ n → ((x : ℕ) → o ≡ Some x → p ≡ Some x → ⊥) →
    ((i : ℕ) → is_it o i ≡ false → is_it p i ≡ false → g i ≡ f i) → total g n + (at_named f o + at_named f p) ≡ total f n + (at_named g o + at_named g p)
total_named f g None None n below_o below_p apart same = let e = total-agree f g n (λ i below. same i refl refl) in omega arith
total_named f g (Some x) None n below_o below_p apart same = let e = total-at f g n x (omega arith) (λ i ne. same i (ne_eqb i x ne) refl) in omega arith
total_named f g None (Some y) n below_o below_p apart same = let e = total-at f g n y (omega arith) (λ i ne. same i refl (ne_eqb i y ne)) in omega arith
total_named f g (Some x) (Some y) n below_o below_p apart same =
    total-at_both f g n x y (omega arith) (omega arith) (λ e. apart x refl (ap (λ z. Some z) (sym e))) (λ i ne_x ne_y. same i (ne_eqb i x ne_x) (ne_eqb i y ne_y))

-- the two slots that an entry names are two
slots_apart : (d : Did) (w : ℕ) → seats d ≡ Some w → replaces d ≡ Some w → ⊥
slots_apart d w one two = grind (arith, nat_tests)

-- so are the two tasks
tasks_apart : (c : Config) (h : List Entry) (d : Did) → Given c h d → (t : ℕ) → names d ≡ Some t → beside h d ≡ Some t → ⊥
tasks_apart c h (did.Verdict x v (ruled.RetryDrop u)) given t one two =
    let a : x.0 ≡ t = grind arith in
    let b : u.0 ≡ t = grind arith in
    let p : at.Refused ≡ at.Queued = sym given.0.1 ∙ ap (place h) (a ∙ sym b) ∙ given.1.3.1 in
    grind arith
tasks_apart c h _ given t one two = grind (arith, nat_tests)

-- the task of a slot that an entry names is named
seat_named : (c : Config) (h : List Entry) (d : Did) → Given c h d → (w t : ℕ) → (is_it (seats d) w || is_it (replaces d) w) ≡ true → seat_of (slot_row h w) ≡ Some t →
    (is_it (names d) t || is_it (beside h d) t) ≡ true
seat_named c h (did.Submit x k p (looked.Reserve u)) given w t at seat = grind (arith, nat_tests)
seat_named c h _ given w t at seat = grind (arith, nat_tests)

dropped_beside : (h : List Entry) (d : Did) (t : ℕ) → is_it (beside h d) t ≡ false → is_it (drops d) t ≡ false
dropped_beside h d t other = grind arith

neither : (a b : Bool) → (a || b) ≡ true → a ≡ false → b ≡ false → ⊥
neither a b one off out = absurd (grind arith)

-- a place owes what it owed where its slot is reserved for the core as before
core_weight : (f f' : ℕ → Bool) (p : Place) → ((w : SlotId) → p ≡ at.Held w → f' w.0 ≡ f w.0) → place_weight (held_core f' p) p ≡ place_weight (held_core f p) p
core_weight f f' (at.Held w) same = ap (λ b. place_weight b (at.Held w)) (same w refl)
core_weight f f' _ same = refl

-- what is owed after the history k at what an entry names that follows h
abbrev pub named_due : List Entry → Did → List Entry → ℕ
named_due h d k = at_named (task_due k) (names d) + at_named (task_due k) (beside h d) + (at_named (slot_due k) (seats d) + at_named (slot_due k) (replaces d))

module _ (c : Config) (h : List Entry) (d : Did) (legal : Legal c h) (given : Given c h d) (narrow : is_wide d ≡ false) where
  -- another slot's row
  slot_stays : (w : ℕ) → is_it (seats d) w ≡ false → is_it (replaces d) w ≡ false → slot_row (entry d ∷ h) w ≡ slot_row h w
  slot_stays w one two = slot_row-more c (entry d) h (fits_given c h d legal given) w ∙ other_slot d (state c h) w (slot_row h w) narrow one two

  -- another task's slot is reserved for the core as before
  core_stays : (t : ℕ) → is_it (names d) t ≡ false → is_it (beside h d) t ≡ false → (w : SlotId) → place h t ≡ at.Held w → is_core (entry d ∷ h) w.0 ≡ is_core h w.0
  core_stays t one two w held = by_slot (is_it (seats d) w.0) (is_it (replaces d) w.0) refl refl
    where
      seat : seat_of (slot_row h w.0) ≡ Some t
      seat = (sound_legal c h legal t w.0).seated_where_placed (ap slot_of held)

      by_slot : (a b : Bool) → is_it (seats d) w.0 ≡ a → is_it (replaces d) w.0 ≡ b → is_core (entry d ∷ h) w.0 ≡ is_core h w.0
      by_slot false false off out = ap is_core_slot (slot_stays w.0 off out)
      by_slot true b on out = absurd (neither _ _ (seat_named c h d given w.0 t (rw on refl) seat) one two)
      by_slot false true off on = absurd (neither _ _ (seat_named c h d given w.0 t (rw (off, on) refl) seat) one two)

  task_stays : (t : ℕ) → is_it (names d) t ≡ false → is_it (beside h d) t ≡ false → task_due (entry d ∷ h) t ≡ task_due h t
  task_stays t one two =
      ap (weight_of (is_core (entry d ∷ h))) (other_row d t (task_row h t) narrow one (dropped_beside h d t two))
      ∙ ap (λ n. n + (if (task_row h t).second then 4 else 0)) (core_weight (is_core h) (is_core (entry d ∷ h)) (place h t) (core_stays t one two))

  rank_stays : rank (entry d ∷ h) ≡ rank h
  rank_stays = let z = rank_still d narrow in omega arith

  -- what is owed changes as it does there
  pub due_next : due (next (state c h) d) + named_due h d h ≡ due (state c h) + named_due h d (entry d ∷ h)
  due_next =
      let m = submitted h + submitted (entry d ∷ h) + reach (names d) + reach (beside h d) in
      let n = slot_bound h + slot_bound (entry d ∷ h) + reach (seats d) + reach (replaces d) in
      let before = due_totals c h m n (sound_legal c h legal) (omega arith) (omega arith) in
      let after = due_totals c (entry d ∷ h) m n (sound_given c h d legal given) (omega arith) (omega arith) in
      let tasks = total_named (task_due h) (task_due (entry d ∷ h)) (names d) (beside h d) m (omega arith) (omega arith) (tasks_apart c h d given) task_stays in
      let slots = total_named (slot_due h) (slot_due (entry d ∷ h)) (seats d) (replaces d) n (omega arith) (omega arith) (slots_apart d)
      (λ w one two. ap₂ slot_weight rank_stays (slot_stays w one two)) in
      let same : due (state c (entry d ∷ h)) ≡ due (next (state c h) d) = ap due (next_given c h d legal given) in
      let r : 4 - rank (entry d ∷ h) ≡ 4 - rank h = ap (λ k. 4 - k) rank_stays in
      omega (arith, before, after, tasks, slots, same, r)

  -- a sum over the slots changes as it does at those that the entry names
  pub slots_next : (g : Option SlotRow → ℕ) → g None ≡ 0 →
      sum_by g (next (state c h) d).slots + (at_named (λ w. g (slot_row h w)) (seats d) + at_named (λ w. g (slot_row h w)) (replaces d))
      ≡ sum_by g (state c h).slots + (at_named (λ w. g (slot_row (entry d ∷ h) w)) (seats d) + at_named (λ w. g (slot_row (entry d ∷ h) w)) (replaces d))
  slots_next g none =
      let n = slot_bound h + slot_bound (entry d ∷ h) + reach (seats d) + reach (replaces d) in
      let before = summed h n (omega arith) in
      let after = summed (entry d ∷ h) n (omega arith) in
      let e = total_named (λ w. g (slot_row h w)) (λ w. g (slot_row (entry d ∷ h) w)) (seats d) (replaces d) n (omega arith) (omega arith) (slots_apart d) (λ w one two. ap g (slot_stays w one two)) in
      let same : sum_by g (slot_rows (entry d ∷ h)) ≡ sum_by g (next (state c h) d).slots = ap (λ s. sum_by g s.slots) (next_given c h d legal given) in
      omega (arith, before, after, e, same)
    where
      summed : (k : List Entry) (n : ℕ) → slot_bound k ≤ n → sum_by g (slot_rows k) ≡ total (λ w. g (slot_row k w)) n
      summed k n within =
          sum_by-table g (slot_row k) (slot_bound k)
          ∙ sym (total-longer (λ w. g (slot_row k w)) (slot_bound k) n (λ w past. rw (slot_below k w past) none) within)

  -- a sum over the tasks changes as it does at those that the entry names
  pub tasks_next : (g : TaskRow → ℕ) → g no_row ≡ 0 →
      sum_by g (next (state c h) d).tasks + (at_named (λ t. g (task_row h t)) (names d) + at_named (λ t. g (task_row h t)) (beside h d))
      ≡ sum_by g (state c h).tasks + (at_named (λ t. g (task_row (entry d ∷ h) t)) (names d) + at_named (λ t. g (task_row (entry d ∷ h) t)) (beside h d))
  tasks_next g none =
      let m = submitted h + submitted (entry d ∷ h) + reach (names d) + reach (beside h d) in
      let before = summed h (sound_legal c h legal) m (omega arith) in
      let after = summed (entry d ∷ h) (sound_given c h d legal given) m (omega arith) in
      let e = total_named (λ t. g (task_row h t)) (λ t. g (task_row (entry d ∷ h) t)) (names d) (beside h d) m (omega arith) (omega arith) (tasks_apart c h d given)
      (λ t one two. ap g (other_row d t (task_row h t) narrow one (dropped_beside h d t two))) in
      let same : sum_by g (task_rows (entry d ∷ h)) ≡ sum_by g (next (state c h) d).tasks = ap (λ s. sum_by g s.tasks) (next_given c h d legal given) in
      omega (arith, before, after, e, same)
    where
      summed : (k : List Entry) → IsSound k → (m : ℕ) → submitted k ≤ m → sum_by g (task_rows k) ≡ total (λ t. g (task_row k t)) m
      summed k sound m within =
          sum_by-table g (task_row k) (submitted k)
          ∙ sym (total-longer (λ t. g (task_row k t)) (submitted k) m (λ t past. ap g ((sound t 0).fresh past) ∙ none) within)
