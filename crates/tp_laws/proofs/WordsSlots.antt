-- Slots: the words of the rules agree with the working tables.
use Rattle.std.proofs.Common.{◌≡◌, ℕ, suc, ◌+◌, ◌<◌, max, Bool, true, false, not, ◌&&◌, cond, List, [], ◌∷◌, Some, None, Option, Err, refl, arith, sym, ap, ◌∙◌, inl, inr}
use Rattle.std.specs.Prelude.{unwrap_or, ◌↔◌, ◌||◌, is_some, is_none, count_by, if◌then◌else◌}
use Rattle.std.specs.List.{list_any}
use Rattle.std.proofs.lemmas.Bool.{cases_eq, cases_lt, eq-eqb, ne_eqb}
use Rattle.std.proofs.lemmas.Bool.Decides.{nat_tests}
use mathlib.Core.Path.{ap₂}
use Rattle.tp_laws.proofs.WordsLists.{by_option, count_by-cons, count_by-map, count_by_below, any_from, any_none}
use Rattle.tp_types.specs.declared.ids.TaskId.{TaskId}
use Rattle.tp_types.specs.declared.tasks.Place.TheVariants as at
use Rattle.tp_types.specs.declared.configs.Config.{Config}
use Rattle.tp_record.specs.declared.entries.Entry.{Entry}
use Rattle.tp_record.specs.declared.entries.Did.{Did}
use Rattle.tp_record.specs.declared.entries.Did.TheVariants as did
use Rattle.tp_record.specs.declared.entries.Looked.TheVariants as looked
use Rattle.tp_record.specs.declared.entries.Offered.TheVariants as offered_as
use Rattle.tp_record.specs.declared.entries.Took.TheVariants as took
use Rattle.tp_record.specs.declared.entries.Started.TheVariants as started
use Rattle.tp_types.specs.declared.tasks.Kind.{Kind}
use Rattle.tp_record.specs.declared.rows.Stage.{Stage}
use Rattle.tp_record.specs.declared.rows.Stage.TheVariants as stages
use Rattle.tp_record.specs.declared.rows.SlotRow.{SlotRow}
use Rattle.tp_record.specs.Lists.{said_of, is_it, count_from}
use Rattle.tp_record.specs.Effects.{holds, turned, is_plain, is_plain_fault, is_submit, reserves, sets_now, kinds_said}
use Rattle.tp_record.specs.Fields.{submitted, place, kind, now, stage, is_slot, task_in, slot_row, woken, reach, slot_bound, live, largest, is_live, is_live_stage}
use Rattle.tp_record.specs.Words.{slot_numbers, live_slots, largest_live, submitted_by, submissions, in_slot, is_in, is_busy, is_at_take, of_it, kind_submitted, or_else, kind_of, reserved_by, lets_go, slot_for, is_slot_now, opens, was_opened, is_live_now, names_slot, takes_nothing, wakes, ticked, moment, idle_since, faults_plain, is_dying}
use Rattle.tp_laws.specs.Seats.{slot_of, number_of, seat_of}
use Rattle.tp_laws.specs.Agrees.{idle_of, is_dying_stage, is_busy_row, is_working_stage, is_taking_row}
use Rattle.tp_laws.proofs.Model.Given.{HasRow, Given, Told}
use Rattle.tp_laws.proofs.Model.Told.{sound_told}
use Rattle.tp_laws.proofs.WordsTasks.{in_slot_agrees}

-- the kind that an entry submits
kind_step : (d : Did) (t : ℕ) (k : Kind) → or_else (of_it (kind_submitted d) t) k ≡ unwrap_or (said_of t (kinds_said d)) k
kind_step (did.Submit u j pr l) t k = grind (arith, nat_tests)
kind_step _ t k = refl

-- the kinds
pub kind_agrees : (h : List Entry) (t : ℕ) → kind_of h t ≡ kind h t
kind_agrees [] t = refl
kind_agrees (e ∷ h) t = ap (or_else (of_it (kind_submitted e.did) t)) (kind_agrees h t) ∙ kind_step e.did t (kind h t)

-- the moment
moment_step : (d : Did) (n : ℕ) → or_else (ticked d) n ≡ unwrap_or (sets_now d) n
moment_step (did.Tick m) n = refl
moment_step _ n = refl

-- the moment
pub moment_agrees : (h : List Entry) → moment h ≡ now h
moment_agrees [] = refl
moment_agrees (e ∷ h) = ap (or_else (ticked e.did)) (moment_agrees h) ∙ moment_step e.did (now h)

-- what a slot is for after an entry
abbrev for_after : Did → ℕ → Option Stage → Option Stage
for_after d w o = by_option (of_it (reserved_by d) w) (if lets_go d w then None else o)

-- an entry makes and frees slots in words as by the table
slot_step : (d : Did) (w : ℕ) (o : Option Stage) → is_some (for_after d w o) ≡ unwrap_or (said_of w (holds d)) (is_some o)
slot_step (did.Submit u k pr l) w o = grind (arith, nat_tests)
slot_step _ w o = grind (arith, nat_tests)

-- the slots
pub slot_agrees : (h : List Entry) (w : ℕ) → is_slot_now h w ≡ is_slot h w
slot_agrees [] w = refl
slot_agrees (e ∷ h) w = slot_step e.did w (slot_for h w) ∙ ap (unwrap_or (said_of w (holds e.did))) (slot_agrees h w)

-- what an entry says of the stage of the slot that it names, before it
abbrev WasLive : ℕ → ℕ → Stage → Type 0
WasLive v w s = w ≡ v → is_live_stage s ≡ true

-- each entry that hands a task to a slot, or that its worker asks for, finds it live
abbrev SlotFits : Did → ℕ → Stage → Type 0
SlotFits (did.Offer t (offered_as.Hand v)) w s = WasLive v.0 w s
SlotFits (did.Take v (took.Held t)) w s = WasLive v.0 w s
SlotFits (did.Take v (took.Head t)) w s = WasLive v.0 w s
SlotFits (did.Take v took.Idle) w s = WasLive v.0 w s
SlotFits (did.Begin v b) w s = WasLive v.0 w s
SlotFits (did.End v t o) w s = WasLive v.0 w s
SlotFits _ w s = Unit {0}

-- a row that is there is that of a slot
pub row_by : (b : Bool) (r q : SlotRow) → ◌≡◌ {A = Option SlotRow} (cond b (Some r) None) (Some q) → (b ≡ true) × (r ≡ q)
row_by true r q row = (refl, cc)
row_by false r q row = absurd cc

-- the stage in a slot's row
row_stage : (h : List Entry) (v : ℕ) (s : Stage) (t : Option TaskId) → HasRow h v s t → stage h v ≡ s
row_stage h v s t row = ap (λ r. r.stage) (row_by (is_slot h v) _ _ row).1

-- a row says whether its slot is live
was_live : (h : List Entry) (v w : ℕ) (s : Stage) (t : Option TaskId) → is_live_stage s ≡ true → HasRow h v s t → WasLive v w (stage h w)
was_live h v w s t live row same = ap (λ x. is_live_stage (stage h x)) same ∙ ap is_live_stage (row_stage h v s t row) ∙ live

-- a given entry says so
slot_fits : (c : Config) (h : List Entry) (d : Did) (w : ℕ) → Given c h d → SlotFits d w (stage h w)
slot_fits c h (did.Offer t (offered_as.Hand v)) w given = was_live h v.0 w (stages.Idle given.3.0) None refl given.3.1
slot_fits c h (did.Take v (took.Held t)) w given = was_live h v.0 w stages.Working (Some t) refl given.0
slot_fits c h (did.Take v (took.Head t)) w given =
    elim given.0 [ inl working ↦ was_live h v.0 w stages.Working None refl working | inr idle ↦ was_live h v.0 w (stages.Idle idle.0) None refl idle.1 ]
slot_fits c h (did.Take v took.Idle) w given = was_live h v.0 w stages.Working None refl given.0
slot_fits c h (did.Begin v (started.Run t)) w given = was_live h v.0 w stages.Working (Some t) refl given.0
slot_fits c h (did.Begin v (started.Skip t)) w given = was_live h v.0 w stages.Working (Some t) refl given.0
slot_fits c h (did.End v t o) w given = was_live h v.0 w stages.Working (Some t) refl given.0
slot_fits c h _ w given = tt

-- the stage after an entry
abbrev stage_after : ℕ → Bool → Did → ℕ → Stage → Stage
stage_after m dies d w s = unwrap_or (said_of w (turned m dies d)) (woken d s)

-- whether the slot was opened, after an entry
abbrev opened_after : Did → ℕ → Bool → Bool
opened_after d w was = if is_some (of_it (reserved_by d) w) then false else (opens d w || was)

-- what the words say of a slot in this stage: whether it was opened, and what a slot that was not is for
abbrev TellsStage : Option Stage → Bool → Stage → Type 0
TellsStage o was_opened s = is_some o ≡ true → (was_opened ≡ is_live_stage s) × (is_live_stage s ≡ false → o ≡ Some s)

-- an entry keeps that
stage_step : (d : Did) (w m : ℕ) (dies : Bool) (o : Option Stage) (was : Bool) (s : Stage) → SlotFits d w s → TellsStage o was s →
    TellsStage (for_after d w o) (opened_after d w was) (stage_after m dies d w s)
stage_step (did.Submit u k pr l) w m dies o was s fits tells = grind (arith, nat_tests)
stage_step _ w m dies o was s fits tells = grind (arith, nat_tests)

-- so it is at each record
stage_agrees : (c : Config) (h : List Entry) → Told c h → (w : ℕ) → TellsStage (slot_for h w) (was_opened h w) (stage h w)
stage_agrees c [] told w = λ some. absurd cc
stage_agrees c (e ∷ h) told w =
    stage_step e.did w (now h) (is_plain_fault e.did (kind h)) (slot_for h w) (was_opened h w) (stage h w) (slot_fits c h e.did w told.0) (stage_agrees c h told.1 w)

-- since when a slot is idle
abbrev idle_after : Did → ℕ → ℕ → Option ℕ → Option ℕ
idle_after d w m was = if names_slot d w then (if takes_nothing d then Some m else None) else (if wakes d then None else was)

-- an entry leaves a slot idle in words as by the table
idle_step : (d : Did) (w m : ℕ) (dies : Bool) (o : Option Stage) (was : Option ℕ) (s : Stage) → (is_some o ≡ true → was ≡ idle_of s) →
    is_some (for_after d w o) ≡ true → idle_after d w m was ≡ idle_of (stage_after m dies d w s)
idle_step (did.Submit u k pr l) w m dies o was s before some = grind (arith, nat_tests)
idle_step _ w m dies o was s before some = grind (arith, nat_tests)

-- since when the stage says that a slot is idle
idle_stage : (h : List Entry) (w : ℕ) → is_some (slot_for h w) ≡ true → idle_since h w ≡ idle_of (stage h w)
idle_stage [] w some = absurd cc
idle_stage (e ∷ h) w some =
    ap (λ m. idle_after e.did w m (idle_since h w)) (moment_agrees h)
    ∙ idle_step e.did w (now h) (is_plain_fault e.did (kind h)) (slot_for h w) (idle_since h w) (stage h w) (idle_stage h w) some

-- whether an entry ends a plain task with a fault
faults_agrees : (d : Did) (h : List Entry) → faults_plain d h ≡ is_plain_fault d (kind h)
faults_agrees (did.End v t (Err x)) h = ap is_plain (kind_agrees h t.0)
faults_agrees _ h = refl

-- whether a slot is dying
abbrev dying_after : Did → ℕ → Bool → Bool → Bool
dying_after d w dies was = if names_slot d w then dies else was

-- an entry leaves a slot dying in words as by the table
dying_step : (d : Did) (w m : ℕ) (o : Option Stage) (f : ℕ → Kind) (was : Bool) (s : Stage) → (is_some o ≡ true → was ≡ is_dying_stage s) →
    is_some (for_after d w o) ≡ true → dying_after d w (is_plain_fault d f) was ≡ is_dying_stage (stage_after m (is_plain_fault d f) d w s)
dying_step (did.Submit u k pr l) w m o f was s before some = grind (arith, nat_tests)
dying_step (did.End v u x) w m o f was s before some = of_end (is_plain_fault (did.End v u x) f)
  where
    of_end : (dies : Bool) → dying_after (did.End v u x) w dies was ≡ is_dying_stage (stage_after m dies (did.End v u x) w s)
    of_end dies = grind (arith, nat_tests)
dying_step _ w m o f was s before some = grind (arith, nat_tests)

-- whether the stage says that a slot is dying
dying_stage : (h : List Entry) (w : ℕ) → is_some (slot_for h w) ≡ true → is_dying h w ≡ is_dying_stage (stage h w)
dying_stage [] w some = absurd cc
dying_stage (e ∷ h) w some =
    ap (λ b. dying_after e.did w b (is_dying h w)) (faults_agrees e.did h)
    ∙ dying_step e.did w (now h) (slot_for h w) (kind h) (is_dying h w) (stage h w) (dying_stage h w) some

-- Rows

-- a row is that of a slot
row_slot : (h : List Entry) (w : ℕ) (r : SlotRow) → slot_row h w ≡ Some r → is_some (slot_for h w) ≡ true
row_slot h w r row = slot_agrees h w ∙ (row_by (is_slot h w) _ r row).0

-- a reserved slot is for what its stage says
pub reserved_agrees : (c : Config) (h : List Entry) → Told c h → (w : ℕ) (r : SlotRow) → slot_row h w ≡ Some r → is_live_stage r.stage ≡ false → slot_for h w ≡ Some r.stage
reserved_agrees c h told w r row reserved =
    let same : stage h w ≡ r.stage = ap (λ q. q.stage) (row_by (is_slot h w) _ r row).1 in
    (stage_agrees c h told w (row_slot h w r row)).1 (ap is_live_stage same ∙ reserved) ∙ ap (λ s. Some s) same

-- whether a slot is live, by its stage
live_by : (b was : Bool) (o : Option Stage) (s : Stage) (t : Option TaskId) → is_some o ≡ b → TellsStage o was s →
    (is_some o && was) ≡ is_live (if b then Some (record { stage = s; task = t }) else None)
live_by b was o s t is tells = grind (arith, nat_tests)

-- the live slots
pub live_agrees : (c : Config) (h : List Entry) → Told c h → (w : ℕ) → is_live_now h w ≡ is_live (slot_row h w)
live_agrees c h told w = live_by (is_slot h w) (was_opened h w) (slot_for h w) (stage h w) (task_in h w) (slot_agrees h w) (stage_agrees c h told w)

-- the idle slots, and since when
pub idle_agrees : (h : List Entry) (w : ℕ) (r : SlotRow) → slot_row h w ≡ Some r → idle_since h w ≡ idle_of r.stage
idle_agrees h w r row = idle_stage h w (row_slot h w r row) ∙ ap (λ q. idle_of q.stage) (row_by (is_slot h w) _ r row).1

-- the dying slots
pub dying_agrees : (h : List Entry) (w : ℕ) (r : SlotRow) → slot_row h w ≡ Some r → is_dying h w ≡ is_dying_stage r.stage
dying_agrees h w r row = dying_stage h w (row_slot h w r row) ∙ ap (λ q. is_dying_stage q.stage) (row_by (is_slot h w) _ r row).1

-- the number of submissions
submissions_step : (d : Did) (n : ℕ) → cond (is_some (submitted_by d)) (suc n) n ≡ (if is_submit d then suc n else n)
submissions_step (did.Submit u k pr l) n = refl
submissions_step _ n = refl

-- so it is at each record
pub submissions_agrees : (h : List Entry) → submissions h ≡ submitted h
submissions_agrees [] = refl
submissions_agrees (e ∷ h) =
    count_by-cons (λ x. is_some (submitted_by x.did)) e h
    ∙ ap (λ n. cond (is_some (submitted_by e.did)) (suc n) n) (submissions_agrees h)
    ∙ submissions_step e.did (submitted h)

-- a slot with a task has one of those submitted, and one without has none
seat_any : (c : Config) (h : List Entry) → Told c h → (w : ℕ) (r : SlotRow) → slot_row h w ≡ Some r →
    list_any (is_in h w) (count_from 0 (submissions h)) ≡ is_some r.task
seat_any c h told w r row = by_task r.task refl
  where
    by_task : (o : Option TaskId) → r.task ≡ o → list_any (is_in h w) (count_from 0 (submissions h)) ≡ is_some o
    by_task None none = any_none (is_in h w) (count_from 0 (submissions h)) (λ t. not_in t (in_slot h t) refl)
      where
        not_in : (t : ℕ) (o : Option ℕ) → in_slot h t ≡ o → is_it o w ≡ false
        not_in t None is = refl
        not_in t (Some v) is =
            elim (cases_eq w v) [
              | inl same ↦ absurd (
                  let placed : slot_of (place h t) ≡ Some w = sym (in_slot_agrees c h told t) ∙ is ∙ ap (λ x. Some x) (sym same) in
                  let seated : seat_of (slot_row h w) ≡ Some t = (sound_told c h told t w).seated_where_placed placed in
                  let other : seat_of (slot_row h w) ≡ None = ap seat_of row ∙ ap number_of none in
                  cc)
              | inr other ↦ ne_eqb w v other
            ]
    by_task (Some t) some =
        let seated : seat_of (slot_row h w) ≡ Some t.0 = ap seat_of row ∙ ap number_of some in
        let placed : slot_of (place h t.0) ≡ Some w = (sound_told c h told t.0 w).placed_where_seated seated in
        let is : is_in h w t.0 ≡ true = ap (λ o. is_it o w) (in_slot_agrees c h told t.0 ∙ placed) ∙ eq-eqb w w refl in
        any_from (is_in h w) 0 (submissions h) t.0 (omega arith) (known t.0 placed) is
      where
        known : (t : ℕ) → slot_of (place h t) ≡ Some w → t < 0 + submissions h
        known t placed =
            elim (cases_lt t (submitted h)) [
              | inl below ↦ omega (arith, submissions_agrees h)
              | inr past ↦ absurd (
                  let gone : place h t ≡ at.Gone = ap (λ q. q.place) ((sound_told c h told t w).fresh past) in
                  let none : slot_of (place h t) ≡ None = ap slot_of gone in
                  cc)
            ]

-- a slot's row names just the task that is in it
pub seat_agrees : (c : Config) (h : List Entry) → Told c h → (w t : ℕ) → in_slot h t ≡ Some w ↔ seat_of (slot_row h w) ≡ Some t
seat_agrees c h told w t =
    let agree = sound_told c h told t w in
    let placed = in_slot_agrees c h told t in
    ((λ is. agree.seated_where_placed (sym placed ∙ is)), (λ is. placed ∙ agree.placed_where_seated is))

-- the busy slots
pub busy_agrees : (c : Config) (h : List Entry) → Told c h → (w : ℕ) → is_busy h w ≡ is_busy_row (slot_row h w)
busy_agrees c h told w = by_row (slot_row h w) refl
  where
    by_row : (o : Option SlotRow) → slot_row h w ≡ o → is_busy h w ≡ is_busy_row o
    by_row None row = rw (live_agrees c h told w ∙ ap is_live row) refl
    by_row (Some r) row = ap₂ (λ a b. a && b) (live_agrees c h told w ∙ ap is_live row) (seat_any c h told w r row)

-- a slot that is about to take, by its stage and its task
taking_by : (s : Stage) (o : Option TaskId) →
    (is_live_stage s && not (is_live_stage s && is_some o) && is_none (idle_of s) && not (is_dying_stage s)) ≡ (is_working_stage s && is_none o)
taking_by s o = grind (arith, nat_tests)

-- the slots that are about to take
pub taking_agrees : (c : Config) (h : List Entry) → Told c h → (w : ℕ) → is_at_take h w ≡ is_taking_row (slot_row h w)
taking_agrees c h told w = by_row (slot_row h w) refl
  where
    by_row : (o : Option SlotRow) → slot_row h w ≡ o → is_at_take h w ≡ is_taking_row o
    by_row None row = rw (live_agrees c h told w ∙ ap is_live row) refl
    by_row (Some r) row =
        ap₂ (λ a b. a && not b && is_none (idle_since h w) && not (is_dying h w)) (live_agrees c h told w ∙ ap is_live row) (busy_agrees c h told w ∙ ap is_busy_row row)
        ∙ ap₂ (λ o b. is_live_stage r.stage && not (is_live_stage r.stage && is_some r.task) && is_none o && not b) (idle_agrees h w r row) (dying_agrees h w r row)
        ∙ taking_by r.stage r.task

-- the bound of the slots' numbers
above : Option (ℕ × Stage) → ℕ
above None = 0
above (Some p) = suc p.0

-- an entry reserves in words as by the table
above_reach : (d : Did) → above (reserved_by d) ≡ reach (reserves d)
unfolding above
above_reach (did.Submit u k pr (looked.Reserve w)) = refl
above_reach _ = grind arith

-- the bounds are the same
numbers_agree : (h : List Entry) → slot_numbers h ≡ slot_bound h
unfolding above
numbers_agree [] = refl
numbers_agree (e ∷ h) = ap₂ max (numbers_agree h) (above_reach e.did)

-- the number of live slots
pub live_slots_agree : (c : Config) (h : List Entry) → Told c h → live_slots h ≡ live h
live_slots_agree c h told =
    ap (λ n. count_by (is_live_now h) (count_from 0 n)) (numbers_agree h)
    ∙ count_by_below (is_live_now h) (λ w. is_live (slot_row h w)) 0 (slot_bound h) (λ w below. live_agrees c h told w)
    ∙ sym (count_by-map is_live (slot_row h) (count_from 0 (slot_bound h)))

-- the greatest number of live slots so far
pub largest_agrees : (c : Config) (h : List Entry) → Told c h → largest_live h ≡ largest h
largest_agrees c [] told = refl
largest_agrees c (e ∷ h) told = ap₂ max (live_slots_agree c (e ∷ h) told) (largest_agrees c h told.1)
