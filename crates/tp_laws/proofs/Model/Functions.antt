-- The step's answer depends on the ask, the state and the number of a new slot; whether it refuses not on that number.
use Rattle.std.proofs.Common.{◌≡◌, ℕ, suc, ◌+◌, ◌-◌, ◌<◌, max, Bool, true, false, cond, List, [], ◌∷◌, ◌++◌, length, Some, None, Ok, Err, Option, refl, arith, ap, sym, subst, ◌∙◌, inl, inr, set, replicate}
use mathlib.Core.Path.{ap₂}
use Rattle.std.specs.Prelude.{unwrap_or, ◌||◌, ◌==◌, is_some, is_none, nat_le, sum_by}
use Rattle.std.proofs.lemmas.Bool.{cases_eq, eq-eqb, ne_eqb, false≢true}
use Rattle.std.proofs.lemmas.Bool.Decides.{nat_tests}
use Rattle.std.proofs.lemmas.List.{length-append, length-replicate, get_or-set_same, get_or-set_other}
use Rattle.std.proofs.lemmas.List.Sums.{sum_by-set, sum_by-append}
use Rattle.tp_types.specs.declared.ids.SlotId.{SlotId}
use Rattle.tp_types.specs.declared.ids.TaskId.{TaskId}
use Rattle.tp_types.specs.declared.tasks.Kind.{Kind}
use Rattle.tp_types.specs.declared.tasks.Place.{Place}
use Rattle.tp_types.specs.declared.tasks.Place.TheVariants as at
use Rattle.tp_types.specs.declared.configs.Config.{Config}
use Rattle.tp_types.specs.declared.refusals.PoolError.{PoolError}
use Rattle.tp_types.specs.declared.refusals.PoolError.TheVariants.{BookFull}
use Rattle.tp_record.specs.declared.entries.Entry.{Entry}
use Rattle.tp_record.specs.declared.entries.Ask.{Ask}
use Rattle.tp_record.specs.declared.entries.Ask.TheVariants as ask
use Rattle.tp_record.specs.declared.entries.Did.{Did}
use Rattle.tp_record.specs.declared.entries.Did.TheVariants as did
use Rattle.tp_record.specs.declared.entries.Looked.TheVariants as looked
use Rattle.tp_record.specs.declared.entries.Seconded.TheVariants as seconded
use Rattle.tp_record.specs.declared.entries.Grown.TheVariants as grown
use Rattle.tp_record.specs.declared.rows.Stage.{Stage}
use Rattle.tp_record.specs.declared.rows.Stage.TheVariants as stages
use Rattle.tp_record.specs.declared.rows.SlotRow.{SlotRow}
use Rattle.tp_record.specs.declared.rows.TaskRow.{TaskRow}
use Rattle.tp_record.specs.Lists.{is_it, change_each, long_enough}
use Rattle.tp_record.specs.Effects.{reserves, frees, reaches, is_submit}
use Rattle.tp_record.specs.State.{State, state, next, due, row_after, tasks_after, task_at, slot_at, slot_after, slots_after, no_row, task_weight, place_weight, slot_weight, is_core_stage, is_core_slot, is_held_for_core}
use Rattle.tp_record.specs.Step.{step, fitting, Answer, Gives, Legal, within_room, leaves_room, is_free_for, of_row, leave_answer, IsFreeTo}
use Rattle.tp_laws.proofs.Model.ListLaws.{change_each-set, length-change_each, get_or-change_each, get_or-longer, sum_by-longer, sum_by-changes}
use Rattle.tp_laws.specs.Seats.{seat_of}
use Rattle.tp_laws.proofs.Model.Weak.{if_ok, within}
use Rattle.tp_laws.proofs.Model.Seats.{is_held_by, AllSeated, held_seat, seated_legal}

-- two answers to one ask that reserve the same number, or none, are equal
pub same_answer : (c : Config) (s : State) (a : Ask) (d d' : Did) → Gives c s a d → Gives c s a d' → reserves d ≡ reserves d' → d ≡ d'
same_answer c s a d d' gives gives' same =
    let both : ◌≡◌ {A = Answer} (Ok d) (Ok d') = sym gives.0 ∙ ap (λ o. step c s (unwrap_or o 0) a) same ∙ gives'.0 in
    cc

-- A new slot's number

-- the entry makes slot w with this row, and leaves the other slots as the entry d0 does, which makes none
record Makes (s : State) (d d0 : Did) (w : ℕ) (row : SlotRow) : Type 0 where
  reserved : reserves d ≡ Some w
  made : (o : Option SlotRow) → slot_after d s w o ≡ Some row
  others : (i : ℕ) (o : Option SlotRow) → (i ≡ w → ⊥) → slot_after d s i o ≡ slot_after d0 s i o
  none : (i : ℕ) → slot_after d0 s i None ≡ None
  free : slot_after d0 s w (slot_at s.slots w) ≡ None

-- the table of slots, long enough for w
abbrev longer : State → ℕ → List (Option SlotRow)
longer s w = s.slots ++ replicate (suc w - length s.slots) None

-- the longer table has a place for w
reaches_w : (s : State) (w : ℕ) → w < length (longer s w)
reaches_w s w =
    let pad : List (Option SlotRow) = replicate (suc w - length s.slots) None in
    let e : length (s.slots ++ pad) ≡ length s.slots + length pad = length-append s.slots pad in
    let n : length pad ≡ suc w - length s.slots = length-replicate _ _ in
    omega arith

-- the slots after an entry that makes slot w
slots_made : (s : State) (d d0 : Did) (w : ℕ) (row : SlotRow) → Makes s d d0 w row → slots_after d s ≡ set (change_each (slot_after d0 s) 0 (longer s w)) w (Some row)
slots_made s d d0 w row m =
    let e : w + 0 ≡ w = omega arith in
    ap (λ o. change_each (slot_after d s) 0 (long_enough o None s.slots)) m.reserved
    ∙ change_each-set (slot_after d s) (slot_after d0 s) 0 w (longer s w) (Some row)
    (λ i o ne. m.others i o (λ f. ne (omega arith)))
    (λ o. ap (λ n. slot_after d s n o) e ∙ m.made o)
    (reaches_w s w)

-- a table that is made longer reads as before
base : (s : State) (d0 : Did) (w u : ℕ) → ((i : ℕ) → slot_after d0 s i None ≡ None) → slot_at (change_each (slot_after d0 s) 0 (longer s w)) u ≡ slot_after d0 s u (slot_at s.slots u)
base s d0 w u none =
    let e : u + 0 ≡ u = omega arith in
    get_or-change_each (slot_after d0 s) 0 u (longer s w) None none
    ∙ ap₂ (λ n o. slot_after d0 s n o) e (get_or-longer s.slots (suc w - length s.slots) u None)

-- what is read of it
slot_made : (s : State) (d d0 : Did) (w : ℕ) (row : SlotRow) → Makes s d d0 w row → (u : ℕ) →
    slot_at (slots_after d s) u ≡ cond (u == w) (Some row) (slot_after d0 s u (slot_at s.slots u))
slot_made s d d0 w row m u =
    let below = reaches_w s w in
    let long = length-change_each (slot_after d0 s) 0 (longer s w) in
    ap (λ xs. slot_at xs u) (slots_made s d d0 w row m)
    ∙ elim (cases_eq u w) [
      | inl same ↦
          rw (eq-eqb u w same)
          (ap (slot_at (set (change_each (slot_after d0 s) 0 (longer s w)) w (Some row))) same
          ∙ get_or-set_same (change_each (slot_after d0 s) 0 (longer s w)) w (Some row) None (omega arith))
      | inr other ↦
          rw (ne_eqb u w other)
          (get_or-set_other (change_each (slot_after d0 s) 0 (longer s w)) w u (Some row) None other ∙ base s d0 w u m.none)
    ]

-- what is owed by the slots
weight_made : (s : State) (d d0 : Did) (w : ℕ) (row : SlotRow) → Makes s d d0 w row →
    sum_by (slot_weight s.rank) (slots_after d s) ≡ sum_by (slot_weight s.rank) (change_each (slot_after d0 s) 0 s.slots) + slot_weight s.rank (Some row)
weight_made s d d0 w row m =
    let below = reaches_w s w in
    let long = length-change_each (slot_after d0 s) 0 (longer s w) in
    let put = sum_by-set (slot_weight s.rank) (change_each (slot_after d0 s) 0 (longer s w)) w (Some row) None (omega arith) in
    let gone : slot_weight s.rank (slot_at (change_each (slot_after d0 s) 0 (longer s w)) w) ≡ 0 = ap (slot_weight s.rank) (base s d0 w w m.none ∙ m.free) in
    let same = sum_by-longer (slot_weight s.rank) (slot_after d0 s) 0 (suc w - length s.slots) s.slots None m.none refl in
    ap (sum_by (slot_weight s.rank)) (slots_made s d d0 w row m) ∙ omega arith

-- The tasks

-- slot u is reserved for the core
abbrev is_core_at : List (Option SlotRow) → ℕ → Bool
is_core_at slots u = is_core_slot (slot_at slots u)

-- what is owed by a task in this place
abbrev weight_at : List (Option SlotRow) → Place → ℕ
weight_at slots p = place_weight (is_held_for_core slots p) p

-- a task weighs the same in two tables that have its slot for the same
weight_kept : (slots slots' : List (Option SlotRow)) (p : Place) → ((u : ℕ) → is_held_by u p ≡ true → is_core_at slots u ≡ is_core_at slots' u) → weight_at slots p ≡ weight_at slots' p
weight_kept slots slots' (at.Held u) same = ap (λ b. place_weight b (at.Held u)) (same u.0 (eq-eqb u.0 u.0 refl))
weight_kept slots slots' _ same = refl

-- and so does one that is held in the new slot, whichever its number
weight_moved : (slots slots' : List (Option SlotRow)) (w v : SlotId) (p : Place) → is_core_at slots w.0 ≡ is_core_at slots' v.0 →
    ((u : ℕ) → is_held_by u p ≡ true → is_core_at slots u ≡ is_core_at slots' u) → (b : Bool) →
    weight_at slots (unwrap_or (cond b (Some (at.Held w)) None) p) ≡ weight_at slots' (unwrap_or (cond b (Some (at.Held v)) None) p)
weight_moved slots slots' w v p new same true = ap (λ b. place_weight b (at.Held w)) new
weight_moved slots slots' w v p new same false = weight_kept slots slots' p same

-- where the new slot is not reserved for the core, a slot is for the core that is so without it
core_plain : (s : State) (d d0 : Did) (w : ℕ) (row : SlotRow) → Makes s d d0 w row → is_core_stage row.stage ≡ false → (u : ℕ) →
    is_core_at (slots_after d s) u ≡ is_core_slot (slot_after d0 s u (slot_at s.slots u))
core_plain s d d0 w row m plain u =
    ap is_core_slot (slot_made s d d0 w row m u)
    ∙ elim (cases_eq u w) [
      | inl same ↦ rw (eq-eqb u w same) (plain ∙ sym (ap is_core_slot (ap (λ n. slot_after d0 s n (slot_at s.slots n)) same ∙ m.free)))
      | inr other ↦ rw (ne_eqb u w other) refl
    ]

-- a slot other than the new one is for the core that is so without it
core_other : (s : State) (d d0 : Did) (w : ℕ) (row : SlotRow) → Makes s d d0 w row → (u : ℕ) → (u ≡ w → ⊥) →
    is_core_at (slots_after d s) u ≡ is_core_slot (slot_after d0 s u (slot_at s.slots u))
core_other s d d0 w row m u other = ap is_core_slot (slot_made s d d0 w row m u) ∙ rw (ne_eqb u w other) refl

-- the new slot is for the core where its row is
core_new : (s : State) (d d0 : Did) (w : ℕ) (row : SlotRow) → Makes s d d0 w row → is_core_at (slots_after d s) w ≡ is_core_stage row.stage
core_new s d d0 w row m = ap is_core_slot (slot_made s d d0 w row m w) ∙ rw (eq-eqb w w refl) refl

-- what is owed does not depend on the new slot's number, where each task weighs the same
record Weighs (s : State) (d d' : Did) : Type 0 where
  submit : is_submit d ≡ is_submit d'
  ranks : reaches d ≡ reaches d'
  each : (i : ℕ) → i < length s.tasks → task_weight (slots_after d s) (row_after d i (task_at s i)) ≡ task_weight (slots_after d' s) (row_after d' i (task_at s i))
  new : is_submit d' ≡ true → task_weight (slots_after d s) (row_after d (length s.tasks) no_row) ≡ task_weight (slots_after d' s) (row_after d' (length s.tasks) no_row)

-- what is owed by the tasks
tasks_weigh : (s : State) (d d' : Did) → Weighs s d d' → sum_by (task_weight (slots_after d s)) (tasks_after d s.tasks) ≡ sum_by (task_weight (slots_after d' s)) (tasks_after d' s.tasks)
tasks_weigh s d d' weighs =
    ap (λ b. sum_by (task_weight (slots_after d s)) (cond b (change_each (row_after d) 0 s.tasks ++ row_after d (length s.tasks) no_row ∷ []) (change_each (row_after d) 0 s.tasks))) weighs.submit
    ∙ by_submit (is_submit d') refl
  where
    old : sum_by (task_weight (slots_after d s)) (change_each (row_after d) 0 s.tasks) ≡ sum_by (task_weight (slots_after d' s)) (change_each (row_after d') 0 s.tasks)
    old = sum_by-changes (task_weight (slots_after d s)) (task_weight (slots_after d' s)) (row_after d) (row_after d') 0 s.tasks no_row
        (λ i below. let e : i + 0 ≡ i = omega arith in rw e (weighs.each i below))

    by_submit : (b : Bool) → is_submit d' ≡ b →
        sum_by (task_weight (slots_after d s)) (cond b (change_each (row_after d) 0 s.tasks ++ row_after d (length s.tasks) no_row ∷ []) (change_each (row_after d) 0 s.tasks))
        ≡ sum_by (task_weight (slots_after d' s)) (cond b (change_each (row_after d') 0 s.tasks ++ row_after d' (length s.tasks) no_row ∷ []) (change_each (row_after d') 0 s.tasks))
    by_submit true is =
        sum_by-append (task_weight (slots_after d s)) (change_each (row_after d) 0 s.tasks) (row_after d (length s.tasks) no_row ∷ [])
        ∙ ap₂ (λ m n. m + (0 + n)) old (weighs.new is)
        ∙ sym (sum_by-append (task_weight (slots_after d' s)) (change_each (row_after d') 0 s.tasks) (row_after d' (length s.tasks) no_row ∷ []))
    by_submit false is = old

-- what is owed
due_same : (s : State) (d d' d0 : Did) (w v : ℕ) (row : SlotRow) → Makes s d d0 w row → Makes s d' d0 v row → reaches d ≡ 0 → Weighs s d d' → due (next s d) ≡ due (next s d')
due_same s d d' d0 w v row m m' low weighs =
    let tasks = tasks_weigh s d d' weighs in
    let r : max (reaches d) s.rank ≡ s.rank = rw low (omega arith) in
    let r' : max (reaches d') s.rank ≡ s.rank = rw (sym weighs.ranks, low) (omega arith) in
    let slots : sum_by (slot_weight s.rank) (slots_after d s) ≡ sum_by (slot_weight s.rank) (slots_after d' s) = weight_made s d d0 w row m ∙ sym (weight_made s d' d0 v row m') in
    rw (r, r', tasks, slots) refl

-- the entry that does the same, and makes no slot
abbrev unmade : Did → Did
unmade (did.Submit t k p l) = did.Submit t k p looked.Queue
unmade (did.Look t l) = did.Look t looked.Queue
unmade (did.Second t x) = did.Second t seconded.Stay
unmade (did.Grow t g) = did.Grow t grown.Refuse
unmade (did.Leave v o) = did.Leave v None
unmade (did.Prestart o) = did.Prestart None
unmade d = d

-- the row of the slot that an entry makes
abbrev made_row : Did → SlotRow
made_row (did.Submit t k p l) = record { stage = stages.ReservedCore; task = Some t }
made_row (did.Look t l) = record { stage = stages.ReservedCore; task = Some t }
made_row (did.Grow t g) = record { stage = stages.ReservedMaximum; task = Some t }
made_row d = record { stage = stages.ReservedBare; task = None }

-- each entry that reserves a free number makes that slot
makes : (s : State) (d : Did) (w : ℕ) → reserves d ≡ Some w → is_free_for s d w ≡ true → Makes s d (unmade d) w (made_row d)
makes s d w is free = record {
  reserved = is;
  made = λ o. made_of s d w o is;
  others = λ i o ne. others_of s d w i o is ne;
  none = λ i. none_of s d w i is;
  free = free_of s d w is free;
}
  where
    made_of : (s : State) (d : Did) (w : ℕ) (o : Option SlotRow) → reserves d ≡ Some w → slot_after d s w o ≡ Some (made_row d)
    made_of s d w o is = grind (arith, nat_tests)

    others_of : (s : State) (d : Did) (w i : ℕ) (o : Option SlotRow) → reserves d ≡ Some w → (i ≡ w → ⊥) → slot_after d s i o ≡ slot_after (unmade d) s i o
    others_of s d w i o is ne = grind (arith, nat_tests)

    none_of : (s : State) (d : Did) (w i : ℕ) → reserves d ≡ Some w → slot_after (unmade d) s i None ≡ None
    none_of s d w i is = grind (arith, nat_tests)

    free_of : (s : State) (d : Did) (w : ℕ) → reserves d ≡ Some w → is_free_for s d w ≡ true → slot_after (unmade d) s w (slot_at s.slots w) ≡ None
    free_of s d w is free = grind (arith, nat_tests)

-- Each task weighs the same

-- a held task's slot is not the new one
held_apart : (s : State) → AllSeated s → (i u w : ℕ) → slot_at s.slots w ≡ None → is_held_by u (task_at s i).place ≡ true → u ≡ w → ⊥
held_apart s seated i u w free held same =
    let none : seat_of (slot_at s.slots u) ≡ None = ap (λ n. seat_of (slot_at s.slots n)) same ∙ ap seat_of free in
    let some = held_seat s seated i u held in
    cc

-- the same entry, with another number for the slot that it makes
abbrev renumber : ℕ → Did → Did
renumber v (did.Submit t k p (looked.Reserve w)) = did.Submit t k p (looked.Reserve (record { 0 = v }))
renumber v (did.Look t (looked.Reserve w)) = did.Look t (looked.Reserve (record { 0 = v }))
renumber v (did.Second t (seconded.StayReserve w)) = did.Second t (seconded.StayReserve (record { 0 = v }))
renumber v (did.Grow t (grown.Reserve w)) = did.Grow t (grown.Reserve (record { 0 = v }))
renumber v (did.Leave x (Some w)) = did.Leave x (Some (record { 0 = v }))
renumber v (did.Prestart (Some w)) = did.Prestart (Some (record { 0 = v }))
renumber v d = d

-- it reserves that number
renumber_reserves : (d : Did) (w v : ℕ) → reserves d ≡ Some w → reserves (renumber v d) ≡ Some v
renumber_reserves d w v is = grind arith

-- it frees the same slot
renumber_frees : (d : Did) (v : ℕ) → frees (renumber v d) ≡ frees d
renumber_frees d v = grind arith

-- it does the same beside that slot
renumber_unmade : (d : Did) (w v : ℕ) → reserves d ≡ Some w → unmade (renumber v d) ≡ unmade d
renumber_unmade d w v is = grind arith

-- its slot has the same row
renumber_row : (d : Did) (w v : ℕ) → reserves d ≡ Some w → made_row (renumber v d) ≡ made_row d
renumber_row d w v is = grind arith

-- an entry that makes no slot is the same
renumber_same : (d : Did) (v : ℕ) → reserves d ≡ None → renumber v d ≡ d
renumber_same d v is = grind arith

-- it submits where the entry does
renumber_submit : (d : Did) (v : ℕ) → is_submit d ≡ is_submit (renumber v d)
renumber_submit d v = grind arith

-- it reaches the same run state
renumber_reaches : (d : Did) (v : ℕ) → reaches d ≡ reaches (renumber v d)
renumber_reaches d v = grind arith

-- an entry that makes a slot leaves the run state
reserves_low : (d : Did) (w : ℕ) → reserves d ≡ Some w → reaches d ≡ 0
reserves_low d w is = grind arith

-- the task that an entry puts in the slot that it makes
abbrev seats : Did → Option ℕ
seats (did.Submit t k p l) = Some t.0
seats (did.Look t l) = Some t.0
seats (did.Grow t g) = Some t.0
seats _ = None

-- it puts the same task in its slot
renumber_seats : (d : Did) (v : ℕ) → seats (renumber v d) ≡ seats d
renumber_seats d v = grind arith

-- that task is held in the new slot, and each other task stays where it is
place_made : (d : Did) (i w : ℕ) (r : TaskRow) → reserves d ≡ Some w →
    (row_after d i r).place ≡ unwrap_or (cond (is_it (seats d) i) (Some (at.Held (record { 0 = w }))) None) r.place
place_made d i w r is = grind (arith, nat_tests)

-- the same tasks owe a second look
second_made : (d : Did) (i v : ℕ) (r : TaskRow) → (row_after d i r).second ≡ (row_after (renumber v d) i r).second
second_made d i v r = grind (arith, nat_tests)

-- the number of a slot that is reserved for the core was no slot
free_core : (s : State) (d : Did) (w : ℕ) → is_core_stage (made_row d).stage ≡ true → is_free_for s d w ≡ true → slot_at s.slots w ≡ None
free_core s d w core free = grind (arith, nat_tests)

-- with another free number an entry makes that slot instead
makes_renumbered : (s : State) (d : Did) (w v : ℕ) → reserves d ≡ Some w → is_free_for s d v ≡ true → Makes s (renumber v d) (unmade d) v (made_row d)
makes_renumbered s d w v is free =
    let P : Did → Type 0 = λ x. Makes s (renumber v d) x v (made_row d) in
    let Q : SlotRow → Type 0 = λ r. Makes s (renumber v d) (unmade (renumber v d)) v r in
    subst P (renumber_unmade d w v is) (subst Q (renumber_row d w v is)
    (makes s (renumber v d) v (renumber_reserves d w v is) (ap (λ o. is_none (slot_at s.slots v) || is_it o v) (renumber_frees d v) ∙ free)))

-- and each task weighs the same
weighs : (s : State) (d : Did) (w v : ℕ) → AllSeated s → reserves d ≡ Some w → is_free_for s d w ≡ true → is_free_for s d v ≡ true → Weighs s d (renumber v d)
weighs s d w v seated is free free' = record {
  submit = renumber_submit d v;
  ranks = renumber_reaches d v;
  each = λ i below. weigh i (task_at s i) (λ u held. alike i u held (is_core_stage (made_row d).stage) refl);
  new = λ _. weigh (length s.tasks) no_row (λ u held. absurd (false≢true held));
}
  where
    m : Makes s d (unmade d) w (made_row d)
    m = makes s d w is free

    m' : Makes s (renumber v d) (unmade d) v (made_row d)
    m' = makes_renumbered s d w v is free'

    alike : (i u : ℕ) → is_held_by u (task_at s i).place ≡ true → (b : Bool) → is_core_stage (made_row d).stage ≡ b →
        is_core_at (slots_after d s) u ≡ is_core_at (slots_after (renumber v d) s) u
    alike i u held true core =
        core_other s d (unmade d) w (made_row d) m u (held_apart s seated i u w (free_core s d w core free) held)
        ∙ sym (core_other s (renumber v d) (unmade d) v (made_row d) m' u (held_apart s seated i u v (free_core s d v core free') held))
    alike i u held false plain =
        core_plain s d (unmade d) w (made_row d) m plain u ∙ sym (core_plain s (renumber v d) (unmade d) v (made_row d) m' plain u)

    weigh : (i : ℕ) (r : TaskRow) → ((u : ℕ) → is_held_by u r.place ≡ true → is_core_at (slots_after d s) u ≡ is_core_at (slots_after (renumber v d) s) u) →
        task_weight (slots_after d s) (row_after d i r) ≡ task_weight (slots_after (renumber v d) s) (row_after (renumber v d) i r)
    weigh i r same =
        let placed' : (row_after (renumber v d) i r).place ≡ unwrap_or (cond (is_it (seats d) i) (Some (at.Held (record { 0 = v }))) None) r.place =
        place_made (renumber v d) i v r (renumber_reserves d w v is) ∙ ap (λ o. unwrap_or (cond (is_it o i) (Some (at.Held (record { 0 = v }))) None) r.place) (renumber_seats d v) in
        ap₂ (λ m n. m + n)
        (ap (weight_at (slots_after d s)) (place_made d i w r is)
        ∙ weight_moved (slots_after d s) (slots_after (renumber v d) s) (record { 0 = w }) (record { 0 = v }) r.place
        (core_new s d (unmade d) w (made_row d) m ∙ sym (core_new s (renumber v d) (unmade d) v (made_row d) m'))
        same (is_it (seats d) i)
        ∙ ap (weight_at (slots_after (renumber v d) s)) (sym placed'))
        (ap (λ b. cond b 4 0) (second_made d i v r))

-- what is owed after an entry does not depend on the number of the slot that it makes
pub due_renumbered : (s : State) (d : Did) (w v : ℕ) → AllSeated s → reserves d ≡ Some w → is_free_for s d w ≡ true → is_free_for s d v ≡ true → due (next s d) ≡ due (next s (renumber v d))
due_renumbered s d w v seated is free free' =
    due_same s d (renumber v d) (unmade d) w v (made_row d) (makes s d w is free) (makes_renumbered s d w v is free') (reserves_low d w is) (weighs s d w v seated is free free')

-- the same answer, with another number for the slot that it makes
abbrev renumbered : ℕ → Answer → Answer
renumbered v (Ok d) = Ok (renumber v d)
renumbered v (Err e) = Err e

-- a worker that leaves was dying
abbrev leaves_from : Did → ℕ → Stage → Bool
leaves_from (did.Leave u o) v stages.Dying = u.0 == v
leaves_from _ v stage = false

-- what a worker that leaves answers
leave_leaves : (s : State) (v : ℕ) (x : SlotId) (stage : Stage) (d : Did) → leave_answer s v x stage ≡ Ok d → leaves_from d x.0 stage ≡ true
leave_leaves s v x stages.Dying d = if_ok _ _ _ d made left
  where
    made : ◌≡◌ {A = Answer} (Ok (did.Leave x (Some (record { 0 = v })))) (Ok d) → leaves_from d x.0 stages.Dying ≡ true
    made is = grind (arith, nat_tests)

    left : ◌≡◌ {A = Answer} (Ok (did.Leave x None)) (Ok d) → leaves_from d x.0 stages.Dying ≡ true
    left is = grind (arith, nat_tests)
leave_leaves s v x _ d = λ is. cc

-- a worker that leaves frees its slot
leave_frees : (c : Config) (s : State) (n : ℕ) (x : SlotId) (d : Did) → fitting c s n (ask.Leave x) ≡ Ok d → frees d ≡ Some x.0
leave_frees c s n x d is = by_row (slot_at s.slots x.0) is
  where
    freed : (stage : Stage) → leaves_from d x.0 stage ≡ true → frees d ≡ Some x.0
    freed stage is = grind (arith, nat_tests)

    by_row : (o : Option SlotRow) → of_row o (λ r. leave_answer s n x r.stage) ≡ Ok d → frees d ≡ Some x.0
    by_row None is = cc
    by_row (Some r) is = freed r.stage (leave_leaves s n x r.stage d is)

-- such a number is free for what fits
pub free_asked : (c : Config) (s : State) (a : Ask) (n w : ℕ) (d : Did) → IsFreeTo s a w → fitting c s n a ≡ Ok d → is_free_for s d w ≡ true
free_asked c s a n w d (inl free) is = ap (λ o. is_none o || is_it (frees d) w) free
free_asked c s a n w d (inr own) is =
    let f : frees d ≡ Some w = leave_frees c s n (record { 0 = w }) d (ap (fitting c s n) (sym own) ∙ is) in
    ap (λ o. is_none (slot_at s.slots w) || is_it o w) f ∙ either (is_none (slot_at s.slots w)) (w == w) (eq-eqb w w refl)
  where
    either : (a b : Bool) → b ≡ true → (a || b) ≡ true
    either true b is = refl
    either false b is = is

-- refusals for want of room are alike where the room is
room_alike : (b b' : Bool) (d d' : Did) (e : PoolError) → b ≡ b' → ◌≡◌ {A = Answer} (cond b (Ok d) (Err BookFull)) (Err e) → ◌≡◌ {A = Answer} (cond b' (Ok d') (Err BookFull)) (Err e)
room_alike true b' d d' e same refused = cc
room_alike false b' d d' e same refused = ap (λ b. cond b (Ok d') (Err BookFull)) (sym same) ∙ refused

-- the answer to an ask, and so the room after it, is the same but for the number
refused_alike : (c : Config) (s : State) (w v : ℕ) (a : Ask) (e : PoolError) → AllSeated s → IsFreeTo s a w → IsFreeTo s a v →
    fitting c s v a ≡ renumbered v (fitting c s w a) → ((d : Did) (u : ℕ) → fitting c s w a ≡ Ok d → reserves d ≡ Some u → u ≡ w) →
    step c s w a ≡ Err e → step c s v a ≡ Err e
refused_alike c s w v a e seated free free' fits own is = ap (within_room c s) fits ∙ by_answer (fitting c s w a) refl is
  where
    by_answer : (x : Answer) → fitting c s w a ≡ x → within_room c s x ≡ Err e → within_room c s (renumbered v x) ≡ Err e
    by_answer (Err f) was refused = refused
    by_answer (Ok d) was refused = by_number (reserves d) refl
      where
        by_number : (o : Option ℕ) → reserves d ≡ o → within_room c s (Ok (renumber v d)) ≡ Err e
        by_number None none = ap (λ x. within_room c s (Ok x)) (renumber_same d v none) ∙ refused
        by_number (Some u) makes =
            let r : reserves d ≡ Some w = makes ∙ ap (λ n. Some n) (own d u was makes) in
            let owed : due (next s d) ≡ due (next s (renumber v d)) = due_renumbered s d w v seated r (free_asked c s a w w d free was) (free_asked c s a w v d free' was) in
            room_alike (leaves_room c s d) (leaves_room c s (renumber v d)) d (renumber v d) e (ap (λ n. nat_le (suc s.steps + n) c.record_limit) owed) refused

-- the asks that may make a slot

-- a submission
submit_renumbered : (c : Config) (s : State) (w v : ℕ) (k : Kind) (p : ℕ) → fitting c s v (ask.Submit k p) ≡ renumbered v (fitting c s w (ask.Submit k p))
submit_renumbered c s w v k p = grind (arith, nat_tests)

-- a look
look_renumbered : (c : Config) (s : State) (w v : ℕ) (t : TaskId) → fitting c s v (ask.Look t) ≡ renumbered v (fitting c s w (ask.Look t))
look_renumbered c s w v t = grind (arith, nat_tests)

-- a second look
second_renumbered : (c : Config) (s : State) (w v : ℕ) (t : TaskId) → fitting c s v (ask.Second t) ≡ renumbered v (fitting c s w (ask.Second t))
second_renumbered c s w v t = grind (arith, nat_tests)

-- an attempt to grow
grow_renumbered : (c : Config) (s : State) (w v : ℕ) (t : TaskId) → fitting c s v (ask.Grow t) ≡ renumbered v (fitting c s w (ask.Grow t))
grow_renumbered c s w v t = grind (arith, nat_tests)

-- a worker that leaves
leave_renumbered : (c : Config) (s : State) (w v : ℕ) (x : SlotId) → fitting c s v (ask.Leave x) ≡ renumbered v (fitting c s w (ask.Leave x))
leave_renumbered c s w v x = grind (arith, nat_tests)

-- a prestart
prestart_renumbered : (c : Config) (s : State) (w v : ℕ) → fitting c s v ask.Prestart ≡ renumbered v (fitting c s w ask.Prestart)
prestart_renumbered c s w v = grind (arith, nat_tests)

-- an answer that fits where the number is w makes no slot but w: with that number for its slot it is the same
own_number : (d : Did) (u w : ℕ) → renumber w d ≡ d → reserves d ≡ Some u → u ≡ w
own_number d u w same is = let r : reserves d ≡ Some w = ap reserves (sym same) ∙ renumber_reserves d u w is in cc

-- and so is an answer that fits
own_answer : (x : Answer) (w u : ℕ) (d : Did) → x ≡ renumbered w x → x ≡ Ok d → reserves d ≡ Some u → u ≡ w
own_answer x w u d same is reserved =
    let both : ◌≡◌ {A = Answer} (Ok (renumber w d)) (Ok d) = ap (renumbered w) (sym is) ∙ sym same ∙ is in
    let kept : renumber w d ≡ d = cc in
    own_number d u w kept reserved

-- a refusal does not depend on the number that a new slot would get
pub refused_any : (c : Config) (s : State) (w v : ℕ) (a : Ask) (e : PoolError) → AllSeated s → IsFreeTo s a w → IsFreeTo s a v → step c s w a ≡ Err e → step c s v a ≡ Err e
refused_any c s w v a e seated free free' = by_ask a free free'
  where
    made : (a : Ask) → ((n m : ℕ) → fitting c s m a ≡ renumbered m (fitting c s n a)) → IsFreeTo s a w → IsFreeTo s a v → step c s w a ≡ Err e → step c s v a ≡ Err e
    made a fits free free' = refused_alike c s w v a e seated free free' (fits w v) (λ d u is. own_answer (fitting c s w a) w u d (fits w w) is)

    by_ask : (a : Ask) → IsFreeTo s a w → IsFreeTo s a v → step c s w a ≡ Err e → step c s v a ≡ Err e
    by_ask (ask.Submit k p) = made (ask.Submit k p) (λ n m. submit_renumbered c s n m k p)
    by_ask (ask.Look t) = made (ask.Look t) (λ n m. look_renumbered c s n m t)
    by_ask (ask.Second t) = made (ask.Second t) (λ n m. second_renumbered c s n m t)
    by_ask (ask.Grow t) = made (ask.Grow t) (λ n m. grow_renumbered c s n m t)
    by_ask (ask.Leave x) = made (ask.Leave x) (λ n m. leave_renumbered c s n m x)
    by_ask ask.Prestart = made ask.Prestart (λ n m. prestart_renumbered c s n m)
    by_ask _ = λ f g is. is

-- nor does one after a legal record
pub refused_legal : (c : Config) (h : List Entry) (w v : ℕ) (a : Ask) (e : PoolError) → Legal c h → IsFreeTo (state c h) a w → IsFreeTo (state c h) a v →
    step c (state c h) w a ≡ Err e → step c (state c h) v a ≡ Err e
refused_legal c h w v a e legal = refused_any c (state c h) w v a e (seated_legal c h legal)

-- an answer makes a slot, whichever its number
abbrev makes_slot : Answer → Bool
makes_slot (Ok d) = is_some (reserves d)
makes_slot (Err e) = false

renumber_makes : (v : ℕ) (d : Did) → is_some (reserves (renumber v d)) ≡ is_some (reserves d)
renumber_makes v d = grind arith

renumbered_makes : (v : ℕ) (x : Answer) → makes_slot (renumbered v x) ≡ makes_slot x
renumbered_makes v (Ok d) = renumber_makes v d
renumbered_makes v (Err e) = refl

-- whether one makes a slot does not depend on the number that it would get
makes_alike : (c : Config) (s : State) (w v : ℕ) (a : Ask) → makes_slot (fitting c s v a) ≡ makes_slot (fitting c s w a)
makes_alike c s w v (ask.Submit k p) = ap makes_slot (submit_renumbered c s w v k p) ∙ renumbered_makes v _
makes_alike c s w v _ = grind (arith, nat_tests)

-- of two answers to one ask both make a slot, or neither does
pub same_slot : (c : Config) (s : State) (a : Ask) (d d' : Did) → Gives c s a d → Gives c s a d' → is_some (reserves d) ≡ is_some (reserves d')
same_slot c s a d d' gives gives' =
    let n = unwrap_or (reserves d) 0 in
    let m = unwrap_or (reserves d') 0 in
    sym (ap makes_slot (within c s (fitting c s n a) d gives.0)) ∙ makes_alike c s m n a ∙ ap makes_slot (within c s (fitting c s m a) d' gives'.0)

-- a take makes no slot
abbrev makes_none : Answer → Bool
makes_none (Ok d) = is_none (reserves d)
makes_none (Err e) = true

take_makes_none : (c : Config) (s : State) (w : ℕ) (x : SlotId) → makes_none (fitting c s w (ask.Take x)) ≡ true
take_makes_none c s w x = grind (arith, nat_tests)

-- an answer makes no slot but the one with the number that was given
pub own_asked : (c : Config) (s : State) (w : ℕ) (a : Ask) (u : ℕ) (d : Did) → fitting c s w a ≡ Ok d → reserves d ≡ Some u → u ≡ w
own_asked c s w (ask.Submit k p) u d is = own_answer _ w u d (submit_renumbered c s w w k p) is
own_asked c s w (ask.Look t) u d is = own_answer _ w u d (look_renumbered c s w w t) is
own_asked c s w (ask.Second t) u d is = own_answer _ w u d (second_renumbered c s w w t) is
own_asked c s w (ask.Grow t) u d is = own_answer _ w u d (grow_renumbered c s w w t) is
own_asked c s w (ask.Leave x) u d is = own_answer _ w u d (leave_renumbered c s w w x) is
own_asked c s w ask.Prestart u d is = own_answer _ w u d (prestart_renumbered c s w w) is
own_asked c s w (ask.Take x) u d is = λ made. absurd (false≢true (sym (ap is_none made) ∙ sym (ap makes_none is) ∙ take_makes_none c s w x))
own_asked c s w _ u d is = λ made. absurd (grind (arith, nat_tests))
