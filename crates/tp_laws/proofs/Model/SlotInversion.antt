-- What the answers to the steps of slots say of the history before them, where places and slots agree there.
use Rattle.std.proofs.Common.{◌≡◌, ℕ, ◌-◌, ◌<◌, ◌≤◌, ◌⊎◌, Bool, true, false, not, ◌&&◌, ◌||◌, List, [], ◌∷◌, length, Option, Some, None, Ok, refl, arith, sym, ap, ◌∙◌, subst, inl, inr}
use Rattle.std.specs.Prelude.{is_none, nat_lt, nat_le, ◌==◌, if◌then◌else◌}
use Rattle.std.proofs.lemmas.Bool.{ltb-true, eqb-true, and_parts}
use Rattle.std.proofs.lemmas.Bool.Decides.{nat_tests}
use Rattle.tp_types.specs.declared.configs.Config.{Config}
use Rattle.tp_types.specs.declared.ids.TaskId.{TaskId}
use Rattle.tp_types.specs.declared.ids.SlotId.{SlotId}
use Rattle.tp_types.specs.declared.tasks.Place.{Place}
use Rattle.tp_types.specs.declared.tasks.Place.TheVariants as at
use Rattle.tp_record.specs.declared.entries.Entry.{Entry}
use Rattle.tp_record.specs.declared.entries.Did.TheVariants as did
use Rattle.tp_record.specs.declared.entries.Failed.TheVariants as failed
use Rattle.tp_record.specs.declared.rows.Stage.{Stage}
use Rattle.tp_record.specs.declared.rows.Stage.TheVariants as stages
use Rattle.tp_record.specs.declared.rows.SlotRow.{SlotRow}
use Rattle.tp_record.specs.Effects.{Outcome}
use Rattle.tp_record.specs.Fields.{rank, submitted, place, is_cancelled, queue, slot_row, task_rows, is_idle_stage}
use Rattle.tp_record.specs.State.{state, row_at}
use Rattle.tp_record.specs.Step.{Answer, slot_count, wants_worker, is_reserved, open_answer, fail_answer, timed_out, take_next, next_of_queue, held_answer, take_answer, begin_task, begin_answer, end_task, end_answer, leave_answer}
use Rattle.tp_laws.proofs.Model.Readings.{row_read}
use Rattle.tp_laws.specs.Seats.{slot_of, seat_of}
use Rattle.tp_laws.proofs.Model.Keystone.{IsSound, fits_row, suits, suits_row}
use Rattle.tp_laws.proofs.Model.Given.{HasRow, IsAt, Waits, ReservedWith}
use Rattle.tp_laws.proofs.Model.Inversion.{Says, says_if, present, head_at, empty_queue}

-- a task that a slot has was submitted, and is placed in it
pub seated_at : (h : List Entry) → IsSound h → (w : ℕ) (s : Stage) (t : TaskId) → HasRow h w s (Some t) → (t.0 < submitted h) × (slot_of (place h t.0) ≡ Some w) × (fits_row (place h t.0) (slot_row h w) ≡ true)
seated_at h sound w s t row =
    let there : slot_of (place h t.0) ≡ Some w = (sound t.0 w).placed_where_seated (ap seat_of row) in
    (present h sound t.0 (λ gone. grind arith), there, (sound t.0 w).staged there)

held_place : (p : Place) (w : SlotId) (s : Stage) (o : Option TaskId) → slot_of p ≡ Some w.0 → fits_row p (Some (record { stage = s; task = o })) ≡ true → is_reserved s ≡ true → p ≡ at.Held w
held_place p w s o there fits reserved = grind (arith, nat_tests)

-- the first task of a reserved slot is held by it
pub reserved_at : (h : List Entry) → IsSound h → (w : SlotId) (s : Stage) (t : TaskId) → HasRow h w.0 s (Some t) → is_reserved s ≡ true → IsAt h t.0 (at.Held w)
reserved_at h sound w s t row reserved =
    let there = seated_at h sound w.0 s t row in
    (there.0, held_place (place h t.0) w s (Some t) there.1 (subst (λ o. fits_row (place h t.0) o ≡ true) row there.2) reserved)

-- a slot has a task, or none, as its stage says
pub task_suits : (h : List Entry) → IsSound h → (w : ℕ) (s : Stage) (o : Option TaskId) → HasRow h w s o → suits s o ≡ true
task_suits h sound w s o row = subst (λ r. suits_row r ≡ true) row (sound 0 w).suited

running_or_down : (n : ℕ) (b : Bool) → (n == 0 || (n == 1 && b)) ≡ true → n ≤ 1
running_or_down n b is = grind (arith, nat_tests)

running_with_task : (n : ℕ) → (n == 0 || (n == 1 && false)) ≡ true → n ≡ 0
running_with_task n is = grind (arith, nat_tests)

stopped_bare : (n : ℕ) → (n == 0 || (n == 1 && true)) ≡ false → 2 ≤ n
stopped_bare n is = grind (arith, nat_tests)

down_with_task : (n : ℕ) → (n == 0 || (n == 1 && false)) ≡ false → 1 ≤ n
down_with_task n is = grind (arith, nat_tests)

-- a reserved slot whose worker comes: the cases of its stage
open_bare : (c : Config) (h : List Entry) (v : SlotId) → HasRow h v.0 stages.ReservedBare None → Says c h (open_answer (state c h) v (record { stage = stages.ReservedBare; task = None }))
open_bare c h v row = says_if c h (rank h == 0 || (rank h == 1 && true)) _ _
    (λ is _. inl (row, running_or_down (rank h) true is))
    (λ is _. (row, stopped_bare (rank h) is))

open_held : (c : Config) (h : List Entry) (v : SlotId) (s : Stage) (t : TaskId) → is_reserved s ≡ true → ReservedWith h v.0 t → IsAt h t.0 (at.Held v) → Says c h (open_answer (state c h) v (record { stage = s; task = Some t }))
open_held c h v s t reserved row there =
    says_if c h (not (is_reserved s)) _ _ (λ _. tt) (λ _.
    says_if c h (rank h == 0 || (rank h == 1 && false)) _ _
    (λ is _. inr (t, row, there, running_with_task (rank h) is))
    (λ is _. (row, there, down_with_task (rank h) is)))

open_at : (c : Config) (h : List Entry) → IsSound h → (v : SlotId) (s : Stage) (o : Option TaskId) → HasRow h v.0 s o → Says c h (open_answer (state c h) v (record { stage = s; task = o }))
open_at c h sound v stages.ReservedBare None row = open_bare c h v row
open_at c h sound v stages.ReservedBare (Some t) row = absurd (let e = task_suits h sound v.0 stages.ReservedBare (Some t) row in grind arith)
open_at c h sound v stages.ReservedCore None row = absurd (let e = task_suits h sound v.0 stages.ReservedCore None row in grind arith)
open_at c h sound v stages.ReservedCore (Some t) row = open_held c h v stages.ReservedCore t refl (inl row) (reserved_at h sound v stages.ReservedCore t row refl)
open_at c h sound v stages.ReservedMaximum None row = absurd (let e = task_suits h sound v.0 stages.ReservedMaximum None row in grind arith)
open_at c h sound v stages.ReservedMaximum (Some t) row = open_held c h v stages.ReservedMaximum t refl (inr row) (reserved_at h sound v stages.ReservedMaximum t row refl)
open_at c h sound v stages.Working o row = tt
open_at c h sound v (stages.Idle m) o row = tt
open_at c h sound v stages.Dying o row = tt

pub open_says : (c : Config) (h : List Entry) → IsSound h → (v : SlotId) (r : SlotRow) → slot_row h v.0 ≡ Some r → Says c h (open_answer (state c h) v r)
open_says c h sound v r row = open_at c h sound v r.stage r.task row

fail_core : (c : Config) (h : List Entry) (v : SlotId) (t : TaskId) → HasRow h v.0 stages.ReservedCore (Some t) → IsAt h t.0 (at.Held v) → Says c h (fail_answer (state c h) v (record { stage = stages.ReservedCore; task = Some t }))
fail_core c h v t row there = by_rank (rank h == 0) refl
  where
    by_rank : (b : Bool) → (rank h == 0) ≡ b → Says c h (Ok (did.Fail v (if b then failed.Offer t else failed.Refuse t)))
    by_rank true is = λ _. (row, there, eqb-true _ _ is)
    by_rank false is = λ _. (inr (row, above (rank h) is), there)
      where
        above : (n : ℕ) → (n == 0) ≡ false → 1 ≤ n
        above n is = grind (arith, nat_tests)

fail_at : (c : Config) (h : List Entry) → IsSound h → (v : SlotId) (s : Stage) (o : Option TaskId) → HasRow h v.0 s o → Says c h (fail_answer (state c h) v (record { stage = s; task = o }))
fail_at c h sound v stages.ReservedBare None row = λ _. row
fail_at c h sound v stages.ReservedBare (Some t) row = absurd (let e = task_suits h sound v.0 stages.ReservedBare (Some t) row in grind arith)
fail_at c h sound v stages.ReservedCore None row = absurd (let e = task_suits h sound v.0 stages.ReservedCore None row in grind arith)
fail_at c h sound v stages.ReservedCore (Some t) row = fail_core c h v t row (reserved_at h sound v stages.ReservedCore t row refl)
fail_at c h sound v stages.ReservedMaximum None row = absurd (let e = task_suits h sound v.0 stages.ReservedMaximum None row in grind arith)
fail_at c h sound v stages.ReservedMaximum (Some t) row = λ _. (inl row, reserved_at h sound v stages.ReservedMaximum t row refl)
fail_at c h sound v stages.Working o row = tt
fail_at c h sound v (stages.Idle m) o row = tt
fail_at c h sound v stages.Dying o row = tt

pub fail_says : (c : Config) (h : List Entry) → IsSound h → (v : SlotId) (r : SlotRow) → slot_row h v.0 ≡ Some r → Says c h (fail_answer (state c h) v r)
fail_says c h sound v r row = fail_at c h sound v r.stage r.task row

no_more : (n : ℕ) (q : List ℕ) → (nat_le 2 n || (n == 1 && length q == 0)) ≡ true → n ≤ 1 → q ≡ []
no_more n q is low = empty_queue q (counts n (length q) is low)
  where
    counts : (n k : ℕ) → (nat_le 2 n || (n == 1 && k == 0)) ≡ true → n ≤ 1 → k ≡ 0
    counts n k is low = grind (arith, nat_tests)

not_stopped : (n k : ℕ) → (nat_le 2 n || (n == 1 && k == 0)) ≡ false → n ≤ 1
not_stopped n k is = grind (arith, nat_tests)

runs_empty : (n : ℕ) (q : List ℕ) → (nat_le 2 n || (n == 1 && length q == 0)) ≡ false → q ≡ [] → n ≡ 0
runs_empty n q is empty = counts n (length q) is (ap length empty)
  where
    counts : (n k : ℕ) → (nat_le 2 n || (n == 1 && k == 0)) ≡ false → k ≡ 0 → n ≡ 0
    counts n k is empty = grind (arith, nat_tests)

next_says : (c : Config) (h : List Entry) → IsSound h → (v : SlotId) (s : Stage) → Waits h v.0 → (is_idle_stage s ≡ false → HasRow h v.0 stages.Working None) →
    (rank h ≤ 1) → ((queue c h ≡ []) → rank h ≡ 0) → (q : List ℕ) → queue c h ≡ q → Says c h (next_of_queue (state c h) v s q)
next_says c h sound v s waits works low runs (t ∷ ts) is = λ _. (waits, (ts, is), head_at c h sound t ts is, low)
next_says c h sound v s waits works low runs [] is =
    says_if c h (timed_out (state c h) s) _ _ (λ _ _. (waits, λ _. inl is)) (λ _.
    says_if c h (is_idle_stage s) _ _ (λ _. tt) (λ busy _. (works busy, is, runs is)))

take_next_says : (c : Config) (h : List Entry) → IsSound h → (v : SlotId) (s : Stage) → Waits h v.0 → (is_idle_stage s ≡ false → HasRow h v.0 stages.Working None) →
    Says c h (take_next (state c h) v s)
take_next_says c h sound v s waits works =
    says_if c h (nat_le 2 (rank h) || (rank h == 1 && length (queue c h) == 0)) _ _
    (λ is _. (waits, λ low. inl (no_more (rank h) (queue c h) is low)))
    (λ goes.
    says_if c h (nat_lt (state c h).maximum (slot_count (state c h)) && (nat_lt 1 (slot_count (state c h)) || length (queue c h) == 0)) _ _
    (λ is _. (waits, λ _. inr (ltb-true _ _ (and_parts (nat_lt (state c h).maximum (slot_count (state c h))) (nat_lt 1 (slot_count (state c h)) || length (queue c h) == 0) is).0)))
    (λ _. next_says c h sound v s waits works (not_stopped (rank h) (length (queue c h)) goes) (runs_empty (rank h) (queue c h) goes) (queue c h) refl))

-- the place that a step of a slot reads of its task
reads_place : (c : Config) (h : List Entry) (t : ℕ) (answer : Place → Answer) → t < submitted h →
    Says c h (answer (place h t)) → Says c h (answer (row_at (task_rows h) t).place)
reads_place c h t answer known says = subst (λ r. Says c h (answer r.place)) (sym (row_read h t known)) says

held_says : (c : Config) (h : List Entry) (v : SlotId) (t : TaskId) → HasRow h v.0 stages.Working (Some t) → t.0 < submitted h → (p : Place) → place h t.0 ≡ p → slot_of p ≡ Some v.0 → Says c h (held_answer v t p)
held_says c h v t row known (at.Held u) is there = λ _. (row, (known, is ∙ same))
  where
    same : at.Held u ≡ at.Held v
    same = grind arith
held_says c h v t row known _ is there = tt

take_at : (c : Config) (h : List Entry) → IsSound h → (v : SlotId) (s : Stage) (o : Option TaskId) → HasRow h v.0 s o → Says c h (take_answer (state c h) v s o)
take_at c h sound v stages.Working (Some t) row =
    let there = seated_at h sound v.0 stages.Working t row in
    reads_place c h t.0 (held_answer v t) there.0 (held_says c h v t row there.0 (place h t.0) refl there.1)
take_at c h sound v stages.Working None row = take_next_says c h sound v stages.Working (inl row) (λ _. row)
take_at c h sound v (stages.Idle m) None row = take_next_says c h sound v (stages.Idle m) (inr (m, row)) (λ busy. absurd (grind arith))
take_at c h sound v (stages.Idle m) (Some t) row = tt
take_at c h sound v stages.ReservedCore o row = tt
take_at c h sound v stages.ReservedMaximum o row = tt
take_at c h sound v stages.ReservedBare o row = tt
take_at c h sound v stages.Dying o row = tt

pub take_says : (c : Config) (h : List Entry) → IsSound h → (v : SlotId) (r : SlotRow) → slot_row h v.0 ≡ Some r → Says c h (take_answer (state c h) v r.stage r.task)
take_says c h sound v r row = take_at c h sound v r.stage r.task row

begins_says : (c : Config) (h : List Entry) (v : SlotId) (t : TaskId) → HasRow h v.0 stages.Working (Some t) → t.0 < submitted h → (p : Place) → place h t.0 ≡ p → slot_of p ≡ Some v.0 → Says c h (begin_task v t (is_cancelled h t.0) p)
begins_says c h v t row known (at.Taken u) is there =
    says_if c h (is_cancelled h t.0) _ _ (λ cancelled _. (row, (known, is ∙ same), cancelled)) (λ alive _. (row, (known, is ∙ same), alive))
  where
    same : at.Taken u ≡ at.Taken v
    same = grind arith
begins_says c h v t row known _ is there = tt

begin_at : (c : Config) (h : List Entry) → IsSound h → (v : SlotId) (s : Stage) (o : Option TaskId) → HasRow h v.0 s o → Says c h (begin_answer (state c h) v s o)
begin_at c h sound v stages.Working (Some t) row =
    let there = seated_at h sound v.0 stages.Working t row in
    subst (λ r. Says c h (begin_task v t r.cancelled r.place)) (sym (row_read h t.0 there.0)) (begins_says c h v t row there.0 (place h t.0) refl there.1)
begin_at c h sound v _ o row = grind (arith, nat_tests)

pub begin_says : (c : Config) (h : List Entry) → IsSound h → (v : SlotId) (r : SlotRow) → slot_row h v.0 ≡ Some r → Says c h (begin_answer (state c h) v r.stage r.task)
begin_says c h sound v r row = begin_at c h sound v r.stage r.task row

ends_says : (c : Config) (h : List Entry) (v : SlotId) (t : TaskId) (out : Outcome) → HasRow h v.0 stages.Working (Some t) → t.0 < submitted h → (p : Place) → place h t.0 ≡ p → slot_of p ≡ Some v.0 → Says c h (end_task v t out p)
ends_says c h v t out row known (at.Running u) is there = λ _. (row, (known, is ∙ same))
  where
    same : at.Running u ≡ at.Running v
    same = grind arith
ends_says c h v t out row known _ is there = tt

end_at : (c : Config) (h : List Entry) → IsSound h → (v : SlotId) (out : Outcome) (s : Stage) (o : Option TaskId) → HasRow h v.0 s o → Says c h (end_answer (state c h) v out s o)
end_at c h sound v out stages.Working (Some t) row =
    let there = seated_at h sound v.0 stages.Working t row in
    reads_place c h t.0 (end_task v t out) there.0 (ends_says c h v t out row there.0 (place h t.0) refl there.1)
end_at c h sound v out _ o row = grind (arith, nat_tests)

pub end_says : (c : Config) (h : List Entry) → IsSound h → (v : SlotId) (out : Outcome) (r : SlotRow) → slot_row h v.0 ≡ Some r → Says c h (end_answer (state c h) v out r.stage r.task)
end_says c h sound v out r row = end_at c h sound v out r.stage r.task row

free_or_own : (o : Option SlotRow) (w v : ℕ) → (is_none o || (w == v)) ≡ true → (o ≡ None) ⊎ (w ≡ v)
free_or_own None w v is = inl refl
free_or_own (Some r) w v is = inr (eqb-true w v is)

leave_at : (c : Config) (h : List Entry) (w : ℕ) (v : SlotId) → HasRow h v.0 stages.Dying None → Says c h (leave_answer (state c h) w v stages.Dying)
leave_at c h w v row =
    says_if c h (wants_worker (state c h) && nat_lt (slot_count (state c h) - 1) (state c h).maximum) _ _
    (λ is free.
    let both = and_parts (wants_worker (state c h)) (nat_lt (slot_count (state c h) - 1) (state c h).maximum) is in
    (row, both.0, ltb-true _ _ both.1, free_or_own (slot_row h w) w v.0 free))
    (λ not_due _. (row, no_replacement (wants_worker (state c h)) (slot_count (state c h) - 1) (state c h).maximum not_due))
  where
    no_replacement : (b : Bool) (m n : ℕ) → (b && nat_lt m n) ≡ false → b ≡ true → n ≤ m
    no_replacement b m n not_due wants = grind (arith, nat_tests)

leave_by : (c : Config) (h : List Entry) → IsSound h → (w : ℕ) (v : SlotId) (s : Stage) (o : Option TaskId) → HasRow h v.0 s o → Says c h (leave_answer (state c h) w v s)
leave_by c h sound w v stages.Dying None row = leave_at c h w v row
leave_by c h sound w v stages.Dying (Some t) row = absurd (let e = task_suits h sound v.0 stages.Dying (Some t) row in grind arith)
leave_by c h sound w v _ o row = tt

pub leave_says : (c : Config) (h : List Entry) → IsSound h → (w : ℕ) (v : SlotId) (r : SlotRow) → slot_row h v.0 ≡ Some r → Says c h (leave_answer (state c h) w v r.stage)
leave_says c h sound w v r row = leave_by c h sound w v r.stage r.task row
