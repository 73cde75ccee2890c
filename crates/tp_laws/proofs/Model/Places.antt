-- What is known of tasks, slots and the queue in each legal record.
use Rattle.std.proofs.Common.{◌≡◌, ℕ, ◌<◌, ◌≤◌, ◌⊎◌, true, List, ◌∷◌, Option, Some, None, refl, arith, sym, ap, ◌∙◌, inl, inr, Contains}
use Rattle.std.proofs.lemmas.Bool.{cases_lt}
use Rattle.std.proofs.lemmas.Bool.Decides.{nat_tests}
use Rattle.tp_types.specs.declared.configs.Config.{Config}
use Rattle.tp_types.specs.declared.ids.TaskId.{TaskId}
use Rattle.tp_types.specs.declared.ids.SlotId.{SlotId}
use Rattle.tp_types.specs.declared.tasks.Place.{Place}
use Rattle.tp_types.specs.declared.tasks.Place.TheVariants as at
use Rattle.tp_record.specs.declared.entries.Entry.{Entry}
use Rattle.tp_record.specs.declared.rows.Stage.{Stage}
use Rattle.tp_record.specs.declared.rows.Stage.TheVariants as stages
use Rattle.tp_record.specs.declared.rows.SlotRow.{SlotRow}
use Rattle.tp_record.specs.Fields.{submitted, place, is_cancelled, owes_second, queue, slot_row, task_row, idling, is_queued_place, is_idle_row}
use Rattle.tp_record.specs.State.{no_row}
use Rattle.tp_record.specs.Step.{Legal}
use Rattle.tp_laws.proofs.Model.Given.{HasRow, IsAt, ReservedWith}
use Rattle.tp_laws.specs.Seats.{slot_of, seat_of}
use Rattle.tp_laws.proofs.Model.Keystone.{fits_stage, fits_row, suits}
use Rattle.tp_laws.proofs.Model.Inversion.{present, queued_place, row_idles, head_at}
use Rattle.tp_laws.proofs.Model.SlotInversion.{seated_at, reserved_at, task_suits}
use Rattle.tp_laws.proofs.Model.Told.{sound_legal}
use Rattle.tp_laws.proofs.Model.Queues.{among-queue, among-idling, Contains-from_among, among_from_Contains}

-- a task in this place is in slot w
abbrev pub IsIn : Place → SlotId → Type 0
IsIn p w = (p ≡ at.Held w) ⊎ ((p ≡ at.Taken w) ⊎ (p ≡ at.Running w))

in_slot : (p : Place) (w : SlotId) → slot_of p ≡ Some w.0 → IsIn p w
in_slot (at.Held u) w is = inl (grind arith)
in_slot _ w is = grind (arith, nat_tests)

slot_of_in : (p : Place) (w : SlotId) → IsIn p w → slot_of p ≡ Some w.0
slot_of_in p w (inl held) = ap slot_of held
slot_of_in p w (inr (inl taken)) = ap slot_of taken
slot_of_in p w (inr (inr running)) = ap slot_of running

-- a slot's task was submitted and is placed in the slot
pub seat_placed : (c : Config) (h : List Entry) → Legal c h → (w : SlotId) (s : Stage) (t : TaskId) → HasRow h w.0 s (Some t) → (t.0 < submitted h) × IsIn (place h t.0) w
seat_placed c h legal w s t row =
    let there = seated_at h (sound_legal c h legal) w.0 s t row in
    (there.0, in_slot (place h t.0) w there.1)

row_with : (h : List Entry) (w t : ℕ) (p : Place) (o : Option SlotRow) → slot_row h w ≡ o → seat_of o ≡ Some t → fits_row p o ≡ true →
    (s : Stage) × HasRow h w s (Some (record { 0 = t })) × (fits_stage p s ≡ true)
row_with h w t p None was seat fits = absurd (grind arith)
row_with h w t p (Some r) was seat fits = by_task r.stage r.task was seat fits
  where
    by_task : (s : Stage) (o : Option TaskId) → slot_row h w ≡ Some (record { stage = s; task = o }) → seat_of (Some (record { stage = s; task = o })) ≡ Some t → fits_stage p s ≡ true →
        (s : Stage) × HasRow h w s (Some (record { 0 = t })) × (fits_stage p s ≡ true)
    by_task s None was seat fits = absurd (grind arith)
    by_task s (Some u) was seat fits = (s, was ∙ same, fits)
      where
        same : ◌≡◌ {A = Option SlotRow} (Some (record { stage = s; task = Some u })) (Some (record { stage = s; task = Some (record { 0 = t }) }))
        same = grind arith

-- a task that is placed in a slot is the slot's task, and the slot works, or is reserved and the task is held
pub placed_seat : (c : Config) (h : List Entry) → Legal c h → (t : ℕ) (w : SlotId) → IsIn (place h t) w →
    (s : Stage) × HasRow h w.0 s (Some (record { 0 = t })) × (fits_stage (place h t) s ≡ true)
placed_seat c h legal t w there =
    let agrees = sound_legal c h legal t w.0 in
    let is = slot_of_in (place h t) w there in
    row_with h w.0 t (place h t) (slot_row h w.0) refl (agrees.seated_where_placed is) (agrees.staged is)

works : (h : List Entry) (w t : ℕ) (p : Place) → (fits_stage p stages.ReservedCore ≡ true → ⊥) → (fits_stage p stages.ReservedMaximum ≡ true → ⊥) →
    (s : Stage) × HasRow h w s (Some (record { 0 = t })) × (fits_stage p s ≡ true) → HasRow h w stages.Working (Some (record { 0 = t }))
works h w t p core maximum found = by_stage found.0 found.1 found.2
  where
    by_stage : (s : Stage) → HasRow h w s (Some (record { 0 = t })) → fits_stage p s ≡ true → HasRow h w stages.Working (Some (record { 0 = t }))
    by_stage stages.Working row fits = row
    by_stage stages.ReservedCore row fits = absurd (core fits)
    by_stage stages.ReservedMaximum row fits = absurd (maximum fits)
    by_stage stages.ReservedBare row fits = absurd (none p fits)
      where
        none : (p : Place) → fits_stage p stages.ReservedBare ≡ true → ⊥
        none p is = grind arith
    by_stage (stages.Idle m) row fits = absurd (none p fits)
      where
        none : (p : Place) → fits_stage p (stages.Idle m) ≡ true → ⊥
        none p is = grind arith
    by_stage stages.Dying row fits = absurd (none p fits)
      where
        none : (p : Place) → fits_stage p stages.Dying ≡ true → ⊥
        none p is = grind arith

-- the slot of a task that was taken works on it
pub taken_works : (c : Config) (h : List Entry) → Legal c h → (t : ℕ) (w : SlotId) → place h t ≡ at.Taken w → HasRow h w.0 stages.Working (Some (record { 0 = t }))
taken_works c h legal t w is = works h w.0 t (place h t) (λ fits. grind arith) (λ fits. grind arith) (placed_seat c h legal t w (inr (inl is)))

-- the slot of a task that runs works on it
pub running_works : (c : Config) (h : List Entry) → Legal c h → (t : ℕ) (w : SlotId) → place h t ≡ at.Running w → HasRow h w.0 stages.Working (Some (record { 0 = t }))
running_works c h legal t w is = works h w.0 t (place h t) (λ fits. grind arith) (λ fits. grind arith) (placed_seat c h legal t w (inr (inr is)))

-- a slot has at most one task
pub slot_shared : (c : Config) (h : List Entry) → Legal c h → (t u : ℕ) (w : SlotId) → IsIn (place h t) w → IsIn (place h u) w → t ≡ u
slot_shared c h legal t u w at_t at_u =
    let one = (sound_legal c h legal t w.0).seated_where_placed (slot_of_in (place h t) w at_t) in
    let other = (sound_legal c h legal u w.0).seated_where_placed (slot_of_in (place h u) w at_u) in
    grind arith

-- a slot that is reserved for a first task has it, and one that is bare, idle or dying has none
pub stage_suits : (c : Config) (h : List Entry) → Legal c h → (w : ℕ) (s : Stage) (o : Option TaskId) → HasRow h w s o → suits s o ≡ true
stage_suits c h legal w s o row = task_suits h (sound_legal c h legal) w s o row

-- the first task of a reserved slot was submitted and is held by it
pub reserved_holds : (c : Config) (h : List Entry) → Legal c h → (w : SlotId) (t : TaskId) → ReservedWith h w.0 t → IsAt h t.0 (at.Held w)
reserved_holds c h legal w t (inl core) = reserved_at h (sound_legal c h legal) w stages.ReservedCore t core refl
reserved_holds c h legal w t (inr maximum) = reserved_at h (sound_legal c h legal) w stages.ReservedMaximum t maximum refl

-- a task that was never submitted has no row
pub task_row-past : (c : Config) (h : List Entry) → Legal c h → (t : ℕ) → submitted h ≤ t → task_row h t ≡ no_row
task_row-past c h legal t past = (sound_legal c h legal t 0).fresh past

-- a task of which the record says anything was submitted
known : (c : Config) (h : List Entry) → Legal c h → (t : ℕ) → (task_row h t ≡ no_row → ⊥) → t < submitted h
known c h legal t some = elim (cases_lt t (submitted h)) [ inl is ↦ is | inr past ↦ absurd (some (task_row-past c h legal t past)) ]

-- a task that is not gone was submitted
pub present_known : (c : Config) (h : List Entry) → Legal c h → (t : ℕ) → (place h t ≡ at.Gone → ⊥) → t < submitted h
present_known c h legal t there = present h (sound_legal c h legal) t there

-- a task that owes a second look was submitted
pub owing_known : (c : Config) (h : List Entry) → Legal c h → (t : ℕ) → owes_second h t ≡ true → t < submitted h
owing_known c h legal t owes = known c h legal t (λ none. absurd (let e = ap (λ r. r.second) none in grind arith))

-- a cancelled task was submitted
pub cancelled_known : (c : Config) (h : List Entry) → Legal c h → (t : ℕ) → is_cancelled h t ≡ true → t < submitted h
cancelled_known c h legal t is = known c h legal t (λ none. absurd (let e = ap (λ r. r.cancelled) none in grind arith))

queued_test : (p : Place) → p ≡ at.Queued → is_queued_place p ≡ true
queued_test p is = grind arith

-- a task in the queue was submitted and is queued
pub queue_at : (c : Config) (h : List Entry) → Legal c h → (t : ℕ) → Contains (queue c h) t → IsAt h t at.Queued
queue_at c h legal t found =
    let there : place h t ≡ at.Queued = queued_place (place h t) (sym (among-queue c h t) ∙ among_from_Contains (queue c h) t found) in
    (present_known c h legal t (λ gone. grind arith), there)

-- a queued task is in the queue
pub queued_in : (c : Config) (h : List Entry) (t : ℕ) → place h t ≡ at.Queued → Contains (queue c h) t
queued_in c h t is = Contains-from_among (queue c h) t (among-queue c h t ∙ queued_test (place h t) is)

-- the queue's head was submitted and is queued
pub head_queued : (c : Config) (h : List Entry) → Legal c h → (t : ℕ) (ts : List ℕ) → queue c h ≡ t ∷ ts → IsAt h t at.Queued
head_queued c h legal t ts is = head_at c h (sound_legal c h legal) t ts is

-- a slot in the order of idling is idle, with no task
pub idling_at : (c : Config) (h : List Entry) → Legal c h → (w : ℕ) → Contains (idling h) w → (m : ℕ) × HasRow h w (stages.Idle m) None
idling_at c h legal w found = row_idles h (sound_legal c h legal) w (sym (among-idling h w) ∙ among_from_Contains (idling h) w found)

-- an idle slot is in the order of idling
pub idle_in : (h : List Entry) (w m : ℕ) (o : Option TaskId) → HasRow h w (stages.Idle m) o → Contains (idling h) w
idle_in h w m o row = Contains-from_among (idling h) w (among-idling h w ∙ ap is_idle_row row)
