-- A task that is out stays so after an entry that spares it.
use Rattle.std.proofs.Common.{◌≡◌, ℕ, zero, suc, ◌+◌, ◌<◌, ◌⊎◌, Bool, true, false, ◌&&◌, ◌||◌, cond, List, [], ◌∷◌, ◌++◌, length, get_or, Option, Some, None, refl, arith, sym, ap, ap₂, ◌∙◌, inl, inr}
use Rattle.std.specs.Prelude.{filter}
use Rattle.std.proofs.Common.{length-append}
use Rattle.std.proofs.Math.ListN.{get_or-append}
use Rattle.tp_record.specs.declared.entries.Did.{Did}
use Rattle.tp_record.specs.declared.rows.TaskRow.{TaskRow}
use Rattle.tp_record.specs.declared.rows.SlotRow.{SlotRow}
use Rattle.tp_record.specs.Lists.{is_it, change_each, long_enough}
use Rattle.tp_record.specs.Effects.{is_submit, queues, reserves, completes}
use Rattle.tp_record.specs.State.{State, next, no_row, row_at, task_at, slot_at, row_after, tasks_after, slot_after, slots_after, stays_queued, stays_done}
use Rattle.tp_laws.proofs.Model.ListLaws.{length-change_each, get_or-longer}
use Rattle.tp_laws.specs.Seats.{seat_of}
use Rattle.tp_laws.proofs.Model.Queues.{among-join, among-filter, among-at_end}
use Rattle.tp_laws.proofs.Left.Spared.{Spares, spared_row, spared_seat, spared_queues, spared_completes}
use Rattle.tp_laws.proofs.Left.Answers.{IsOut}

-- what is read of a changed table within it
pub get_or-change_within : {A : Type 0} (g : ℕ → A → A) (k j : ℕ) (xs : List A) (d : A) → j < length xs → get_or (change_each g k xs) j d ≡ g (j + k) (get_or xs j d)
get_or-change_within g k j [] d below = absurd (omega arith)
get_or-change_within g k zero (x ∷ xs) d below = let e : 0 + k ≡ k = omega arith in ap (λ n. g n x) (sym e)
get_or-change_within g k (suc j) (x ∷ xs) d below =
    let e : j + suc k ≡ suc j + k = omega arith in
    get_or-change_within g (suc k) j xs d (omega arith) ∙ ap (λ n. g n (get_or xs j d)) e

-- there are at least as many rows
pub rows_kept : (d : Did) (rows : List TaskRow) (t : ℕ) → t < length rows → t < length (tasks_after d rows)
rows_kept d rows t below = by_submit (is_submit d)
  where
    by_submit : (b : Bool) → t < length (cond b (change_each (row_after d) 0 rows ++ row_after d (length rows) no_row ∷ []) (change_each (row_after d) 0 rows))
    by_submit true =
        let n = length-change_each (row_after d) 0 rows in
        let m = length-append (change_each (row_after d) 0 rows) (row_after d (length rows) no_row ∷ []) in
        omega (arith, n, m, below)
    by_submit false = let n = length-change_each (row_after d) 0 rows in omega (arith, n, below)

-- the row of a task after an entry
pub row_then : (d : Did) (rows : List TaskRow) (t : ℕ) → t < length rows → row_at (tasks_after d rows) t ≡ row_after d t (row_at rows t)
row_then d rows t below = by_submit (is_submit d)
  where
    zero_more : t + 0 ≡ t
    zero_more = omega arith

    here : get_or (change_each (row_after d) 0 rows) t no_row ≡ row_after d t (row_at rows t)
    here = get_or-change_within (row_after d) 0 t rows no_row below ∙ ap (λ n. row_after d n (row_at rows t)) zero_more

    by_submit : (b : Bool) → row_at (cond b (change_each (row_after d) 0 rows ++ row_after d (length rows) no_row ∷ []) (change_each (row_after d) 0 rows)) t ≡ row_after d t (row_at rows t)
    by_submit true =
        let n = length-change_each (row_after d) 0 rows in
        get_or-append (change_each (row_after d) 0 rows) (row_after d (length rows) no_row ∷ []) no_row t (omega (arith, n, below)) ∙ here
    by_submit false = here

-- a slot after an entry: by the entry's tables, or none
slot_or_none : (g : ℕ → Option SlotRow → Option SlotRow) (k j : ℕ) (xs : List (Option SlotRow)) →
    (get_or (change_each g k xs) j None ≡ None) ⊎ (get_or (change_each g k xs) j None ≡ g (j + k) (get_or xs j None))
slot_or_none g k j [] = inl refl
slot_or_none g k zero (x ∷ xs) = let e : 0 + k ≡ k = omega arith in inr (ap (λ n. g n x) (sym e))
slot_or_none g k (suc j) (x ∷ xs) = elim (slot_or_none g (suc k) j xs) [
  | inl none ↦ inl none
  | inr is ↦
      let e : j + suc k ≡ suc j + k = omega arith in
      inr (is ∙ ap (λ n. g n (get_or xs j None)) e)
]

long_read : (o : Option ℕ) (xs : List (Option SlotRow)) (w : ℕ) → get_or (long_enough o None xs) w None ≡ get_or xs w None
long_read None xs w = refl
long_read (Some x) xs w = get_or-longer xs _ w None

slot_then : (d : Did) (s : State) (w : ℕ) → (slot_at (slots_after d s) w ≡ None) ⊎ (slot_at (slots_after d s) w ≡ slot_after d s w (slot_at s.slots w))
slot_then d s w = elim (slot_or_none (slot_after d s) 0 w (long_enough (reserves d) None s.slots)) [
  | inl none ↦ inl none
  | inr is ↦
      let e : w + 0 ≡ w = omega arith in
      inr (is ∙ ap₂ (slot_after d s) e (long_read (reserves d) s.slots w))
]

none_of : (a b : Bool) → a ≡ false → b ≡ false → (a || b) ≡ false
none_of a b one two = rw (one, two) refl

unless : (a b : Bool) → b ≡ false → (a && b) ≡ false
unless true b is = is
unless false b is = refl

module _ (s : State) (t : ℕ) (out : IsOut s t) (d : Did) (spares : Spares d t) where
  -- its row stays
  pub row_stays : task_at (next s d) t ≡ task_at s t
  row_stays = row_then d s.tasks t out.known ∙ spared_row d t (task_at s t) spares out.gone

  -- it is still out
  pub out_after : IsOut (next s d) t
  out_after = record {
    known = rows_kept d s.tasks t out.known;
    gone = ap (λ r. r.place) row_stays ∙ out.gone;
    paid = ap (λ r. r.second) row_stays ∙ out.paid;
    unqueued =
        among-join s.ranked (λ u. (task_at s u).priority) t (queues d) (filter (stays_queued d s.tasks) s.queue)
        ∙ none_of _ _ (spared_queues d t spares) (among-filter t (stays_queued d s.tasks) s.queue ∙ unless _ _ out.unqueued);
    unlisted =
        among-at_end t (completes d (λ u. (task_at s u).kind) (λ u. (task_at s u).cancelled)) (filter (stays_done d) s.done)
        ∙ none_of _ _ (spared_completes d _ _ t spares) (among-filter t (stays_done d) s.done ∙ unless _ _ out.unlisted);
    unseated = λ w. elim (slot_then d s w) [
      | inl none ↦ ap (λ o. is_it (seat_of o) t) none
      | inr is ↦ ap (λ o. is_it (seat_of o) t) is ∙ spared_seat d s t w (slot_at s.slots w) spares (out.unseated w)
    ];
  }
