-- An answer speaks of the number that a new slot would get only where it reserves it.
use Rattle.std.proofs.Common.{◌≡◌, ℕ, ◌-◌, ◌^◌, Bool, true, false, not, ◌&&◌, ◌||◌, cond, List, [], ◌∷◌, length, Option, Some, None, Ok, Err, inl, inr, refl, sym, subst, ap, ◌∙◌, ◌⊎◌, eq-eqb, arith}
use Rattle.std.proofs.lemmas.Bool.Decides.{nat_tests}
use Rattle.std.specs.Prelude.{◌==◌, nat_lt, nat_le, is_none, unwrap_or, IfOk, IfSome, ⊤}
use Rattle.tp_types.specs.declared.ids.TaskId.{TaskId}
use Rattle.tp_types.specs.declared.ids.SlotId.{SlotId}
use Rattle.tp_types.specs.declared.tasks.Place.{Place}
use Rattle.tp_types.specs.declared.tasks.Place.TheVariants as at
use Rattle.tp_types.specs.declared.configs.Config.{Config}
use Rattle.tp_types.specs.declared.refusals.PoolError.{PoolError}
use Rattle.tp_types.specs.declared.refusals.PoolError.TheVariants.{BookFull}
use Rattle.tp_record.specs.declared.entries.Ask.{Ask}
use Rattle.tp_record.specs.declared.entries.Ask.TheVariants as ask
use Rattle.tp_record.specs.declared.entries.Did.{Did}
use Rattle.tp_record.specs.declared.entries.Did.TheVariants as did
use Rattle.tp_record.specs.declared.entries.Looked.{Looked}
use Rattle.tp_record.specs.declared.entries.Looked.TheVariants as looked
use Rattle.tp_record.specs.declared.rows.Stage.{Stage}
use Rattle.tp_record.specs.declared.rows.Stage.TheVariants as stages
use Rattle.tp_record.specs.declared.rows.TaskRow.{TaskRow}
use Rattle.tp_record.specs.declared.rows.SlotRow.{SlotRow}
use Rattle.tp_record.specs.Lists.{is_it}
use Rattle.tp_record.specs.Effects.{frees, reserves, reserved_looked}
use Rattle.tp_record.specs.Fields.{is_queued_place, is_idle_stage}
use Rattle.tp_record.specs.State.{State, slot_at, task_at}
use Rattle.tp_record.specs.Step as steps
use Rattle.tp_record.specs.Step.{Answer, Gives, is_free_for}
use Rattle.tp_rules.specs.PlainState.{least_free, IsAnswer}

-- x, the answer at the number w, makes slot w, or makes none and is y, the answer at 0
pub record Makes (w : ℕ) (x y : Answer) : Type 0 where
  pub made : (d : Did) → x ≡ Ok d → (reserves d ≡ Some w) ⊎ ((reserves d ≡ None) × (y ≡ Ok d))

some : (w : ℕ) (d : Did) (y : Answer) → reserves d ≡ Some w → Makes w (Ok d) y
some w d y is = record { made = λ e q. inl (cc) }

none : (w : ℕ) (d : Did) → reserves d ≡ None → Makes w (Ok d) (Ok d)
none w d is = record { made = λ e q. inr (cc, cc) }

refused : (w : ℕ) (e : PoolError) (y : Answer) → Makes w (Err e) y
refused w e y = record { made = λ d q. cc }

either : (w : ℕ) (b : Bool) (x y p q : Answer) → Makes w x p → Makes w y q → Makes w (cond b x y) (cond b p q)
either w true x y p q h k = h
either w false x y p q h k = k

module _ (c : Config) (s : State) (w : ℕ) where
  -- where a look reserves
  looks : (f : Looked → Did) → ((l : Looked) → reserves (f l) ≡ reserved_looked l) → Makes w (Ok (f (steps.look s w))) (Ok (f (steps.look s 0)))
  looks f is = by_tests (nat_lt 0 s.rank) (nat_lt (steps.slot_count s) s.core)
    where
      by_tests : (a b : Bool) →
          Makes w (Ok (f (cond a looked.Refuse (cond b (looked.Reserve (record { 0 = w })) looked.Queue))))
          (Ok (f (cond a looked.Refuse (cond b (looked.Reserve (record { 0 = 0 })) looked.Queue))))
      by_tests true b = none w (f looked.Refuse) (is looked.Refuse)
      by_tests false true = some w (f (looked.Reserve (record { 0 = w }))) _ (is (looked.Reserve (record { 0 = w })))
      by_tests false false = none w (f looked.Queue) (is looked.Queue)

  look_makes : (t : TaskId) (p : Place) → Makes w (steps.look_answer s w t p) (steps.look_answer s 0 t p)
  look_makes t at.Looking = looks (did.Look t) (λ l. refl)
  look_makes t _ = refused w _ _

  grow_makes : (t : TaskId) (p : Place) → Makes w (steps.grow_answer s w t p) (steps.grow_answer s 0 t p)
  grow_makes t at.ToGrow = either w (s.rank == 0 && nat_lt (steps.slot_count s) s.maximum) _ _ _ _ (some w _ _ refl) (none w _ refl)
  grow_makes t _ = refused w _ _

  held_makes : (v : SlotId) (t : TaskId) (p : Place) → Makes w (steps.held_answer v t p) (steps.held_answer v t p)
  held_makes v t (at.Held u) = none w _ refl
  held_makes v t _ = refused w _ _

  queue_makes : (v : SlotId) (g : Stage) (ts : List ℕ) → Makes w (steps.next_of_queue s v g ts) (steps.next_of_queue s v g ts)
  queue_makes v g (t ∷ ts) = none w _ refl
  queue_makes v g [] =
      either w (steps.timed_out s g) _ _ _ _ (none w _ refl)
      (either w (is_idle_stage g) _ _ _ _ (refused w _ _) (none w _ refl))

  next_makes : (v : SlotId) (g : Stage) → Makes w (steps.take_next s v g) (steps.take_next s v g)
  next_makes v g =
      either w (nat_le 2 s.rank || (s.rank == 1 && length s.queue == 0)) _ _ _ _ (none w _ refl)
      (either w (nat_lt s.maximum (steps.slot_count s) && (nat_lt 1 (steps.slot_count s) || length s.queue == 0)) _ _ _ _ (none w _ refl)
      (queue_makes v g s.queue))

  take_makes : (v : SlotId) (g : Stage) (o : Option TaskId) → Makes w (steps.take_answer s v g o) (steps.take_answer s v g o)
  take_makes v stages.Working (Some t) = held_makes v t (task_at s t.0).place
  take_makes v stages.Working None = next_makes v stages.Working
  take_makes v (stages.Idle m) None = next_makes v (stages.Idle m)
  take_makes v _ _ = refused w _ _

  leave_makes : (v : SlotId) (g : Stage) → Makes w (steps.leave_answer s w v g) (steps.leave_answer s 0 v g)
  leave_makes v stages.Dying =
      either w (steps.wants_worker s && nat_lt (steps.slot_count s - 1) s.maximum) _ _ _ _ (some w _ _ refl) (none w _ refl)
  leave_makes v _ = refused w _ _

  second_makes : (t : TaskId) (r : TaskRow) → Makes w (steps.second_answer s w t r) (steps.second_answer s 0 t r)
  second_makes t r =
      either w (not r.second) _ _ _ _ (refused w _ _)
      (either w (nat_lt 0 s.rank && is_queued_place r.place) _ _ _ _ (none w _ refl)
      (either w (steps.slot_count s == 0 && steps.wants_worker s) _ _ _ _ (some w _ _ refl) (none w _ refl)))

  of_task_makes : (t : TaskId) (f g : TaskRow → Answer) → ((r : TaskRow) → Makes w (f r) (g r)) → Makes w (steps.of_task s t f) (steps.of_task s t g)
  of_task_makes t f g h = either w (steps.is_known s t.0) _ _ _ _ (h (task_at s t.0)) (refused w _ _)

  of_slot_makes : (o : Option SlotRow) (f g : SlotRow → Answer) → ((r : SlotRow) → Makes w (f r) (g r)) → Makes w (steps.of_row o f) (steps.of_row o g)
  of_slot_makes None f g h = refused w _ _
  of_slot_makes (Some r) f g h = h r

  fitting_makes : (a : Ask) → Makes w (steps.fitting c s w a) (steps.fitting c s 0 a)
  fitting_makes (ask.Submit k p) =
      either w (nat_lt (length s.tasks) (2 ^ 32 - 1)) _ _ _ _
      (looks (did.Submit (record { 0 = length s.tasks }) k p) (λ l. refl)) (refused w _ _)
  fitting_makes (ask.Look t) = of_task_makes t _ _ (λ r. look_makes t r.place)
  fitting_makes (ask.Second t) = of_task_makes t _ _ (second_makes t)
  fitting_makes (ask.Grow t) = of_task_makes t _ _ (λ r. grow_makes t r.place)
  fitting_makes (ask.Take v) = of_slot_makes (slot_at s.slots v.0) _ _ (λ r. take_makes v r.stage r.task)
  fitting_makes (ask.Leave v) = of_slot_makes (slot_at s.slots v.0) _ _ (λ r. leave_makes v r.stage)
  fitting_makes ask.Prestart = either w (nat_lt (steps.slot_count s) s.core && steps.wants_worker s) _ _ _ _ (some w _ _ refl) (none w _ refl)
  fitting_makes _ = record { made = λ d is. inr (grind (arith, nat_tests), is) }

-- the least number that is no slot is none
slot_at-least_free : (slots : List (Option SlotRow)) → slot_at slots (least_free slots) ≡ None
slot_at-least_free [] = refl
slot_at-least_free (None ∷ slots) = refl
slot_at-least_free (Some r ∷ slots) = slot_at-least_free slots

within : (c : Config) (s : State) (x : Answer) (d : Did) → steps.within_room c s x ≡ Ok d → (x ≡ Ok d) × (steps.leaves_room c s d ≡ true)
within c s (Err e) d is = cc
within c s (Ok f) d is = by_room (steps.leaves_room c s f) refl is
  where
    by_room : (b : Bool) → steps.leaves_room c s f ≡ b → ◌≡◌ {A = Answer} (cond b (Ok f) (Err BookFull)) (Ok d) →
        (◌≡◌ {A = Answer} (Ok f) (Ok d)) × (steps.leaves_room c s d ≡ true)
    by_room true room is = let same : f ≡ d = cc in (is, rw (← same) room)
    by_room false room is = cc

-- a step at a number that is free is one that a record may have
gives_at : (c : Config) (s : State) (w : ℕ) (a : Ask) (d : Did) → is_free_for s d w ≡ true → steps.step c s w a ≡ Ok d → Gives c s a d
gives_at c s w a d free is =
    let x = within c s (steps.fitting c s w a) d is in
    let P : Option ℕ → Type 0 = λ o. (steps.step c s (unwrap_or o 0) a ≡ Ok d) × IfSome o (λ v. is_free_for s d v ≡ true) in
    elim ((fitting_makes c s w a).made d x.0) [
      | inl m ↦ subst P (sym m) (is, free)
      | inr m ↦ subst P (sym m.0)
          (ap (steps.within_room c s) m.1 ∙ ap (λ (b : Bool). cond {A = Answer} b (Ok d) (Err BookFull)) x.1, tt)
    ]

-- a step that is given at no number makes the slot of its own, which is one already
pub taken_at : (c : Config) (s : State) (w : ℕ) (a : Ask) (d : Did) → steps.step c s w a ≡ Ok d → (Gives c s a d → ⊥) → (reserves d ≡ Some w) × (is_free_for s d w ≡ false)
taken_at c s w a d is not_given =
    let x = within c s (steps.fitting c s w a) d is in
    let P : Option ℕ → Type 0 = λ o. (steps.step c s (unwrap_or o 0) a ≡ Ok d) × IfSome o (λ v. is_free_for s d v ≡ true) in
    elim ((fitting_makes c s w a).made d x.0) [
      | inl m ↦ (m, by_test (is_free_for s d w) refl)
      | inr m ↦ absurd (not_given (subst P (sym m.0)
          (ap (steps.within_room c s) m.1 ∙ ap (λ (b : Bool). cond {A = Answer} b (Ok d) (Err BookFull)) x.1, tt)))
    ]
  where
    by_test : (b : Bool) → is_free_for s d w ≡ b → is_free_for s d w ≡ false
    by_test true free = absurd (not_given (gives_at c s w a d free is))
    by_test false free = free

-- a worker that leaves frees its slot
leave_frees : (s : State) (w : ℕ) (v : SlotId) (g : Stage) (d : Did) → steps.leave_answer s w v g ≡ Ok d → frees d ≡ Some v.0
leave_frees s w v stages.Dying d is = by_test (steps.wants_worker s && nat_lt (steps.slot_count s - 1) s.maximum) is
  where
    by_test : (b : Bool) → ◌≡◌ {A = Answer} (cond b (Ok (did.Leave v (Some (record { 0 = w })))) (Ok (did.Leave v None))) (Ok d) → frees d ≡ Some v.0
    by_test true is = let same : did.Leave v (Some (record { 0 = w })) ≡ d = cc in ap frees (sym same)
    by_test false is = let same : did.Leave v None ≡ d = cc in ap frees (sym same)
leave_frees s w v _ d is = cc

fitting_leave_frees : (s : State) (w : ℕ) (v : SlotId) (d : Did) (o : Option SlotRow) → steps.of_row o (λ r. steps.leave_answer s w v r.stage) ≡ Ok d → frees d ≡ Some v.0
fitting_leave_frees s w v d None is = cc
fitting_leave_frees s w v d (Some r) is = leave_frees s w v r.stage d is

or_true : (b : Bool) → (b || true) ≡ true
or_true true = refl
or_true false = refl

own_free : (c : Config) (s : State) (w : ℕ) (d : Did) → steps.fitting c s w (ask.Leave (record { 0 = w })) ≡ Ok d → is_free_for s d w ≡ true
own_free c s w d is =
    let own : is_it (frees d) w ≡ true = ap (λ o. is_it o w) (fitting_leave_frees s w (record { 0 = w }) d (slot_at s.slots w) is) ∙ eq-eqb w w refl in
    ap (λ b. is_none (slot_at s.slots w) || b) own ∙ or_true (is_none (slot_at s.slots w))

-- a number that the step may use is free for what fits there
free_at : (c : Config) (s : State) (w : ℕ) (a : Ask) (d : Did) → steps.IsFreeTo s a w → steps.fitting c s w a ≡ Ok d → is_free_for s d w ≡ true
free_at c s w a d (inl free) is = ap (λ o. is_none o || is_it (frees d) w) free
free_at c s w a d (inr leaves) is =
    let P : Ask → Type 0 = λ b. (steps.fitting c s w b ≡ Ok d → is_free_for s d w ≡ true) in
    subst P (sym leaves) (own_free c s w d) is

-- what fits at such a number fits at the one that its entry reserves, if it reserves any
pub fitting_at : (c : Config) (s : State) (w : ℕ) (a : Ask) (d : Did) → steps.IsFreeTo s a w → steps.fitting c s w a ≡ Ok d →
    (steps.fitting c s (unwrap_or (reserves d) 0) a ≡ Ok d) × IfSome (reserves d) (λ v. is_free_for s d v ≡ true)
fitting_at c s w a d free is =
    let P : Option ℕ → Type 0 = λ o. (steps.fitting c s (unwrap_or o 0) a ≡ Ok d) × IfSome o (λ v. is_free_for s d v ≡ true) in
    elim ((fitting_makes c s w a).made d is) [
      | inl m ↦ subst P (sym m) (is, free_at c s w a d free is)
      | inr m ↦ subst P (sym m.0) (m.1, tt)
    ]

-- what the step answers there, a record may have
gives_at_free_to : (c : Config) (s : State) (w : ℕ) (a : Ask) (d : Did) → steps.IsFreeTo s a w → steps.step c s w a ≡ Ok d → Gives c s a d
gives_at_free_to c s w a d free is = gives_at c s w a d (free_at c s w a d free (within c s (steps.fitting c s w a) d is).0) is

-- what the step answers at the least number that is no slot, a record may have
pub gives_at_least : (c : Config) (s : State) (a : Ask) (d : Did) → steps.step c s (least_free s.slots) a ≡ Ok d → Gives c s a d
gives_at_least c s a d is = gives_at_free_to c s (least_free s.slots) a d (inl (slot_at-least_free s.slots)) is

-- an answer over a plain state, at the least number that is no slot there
pub answer_at_least : (c : Config) (r : Answer) (p s : State) (w : ℕ) (a : Ask) → p ≡ s → w ≡ least_free p.slots →
    IsAnswer ⊤ r (steps.step c p w a) → IsAnswer ⊤ r (steps.step c s (least_free s.slots) a)
answer_at_least c r p s w a same number answered =
    let P : State → Type 0 = λ q. IsAnswer ⊤ r (steps.step c q (least_free q.slots) a) in
    let Q : ℕ → Type 0 = λ n. IsAnswer ⊤ r (steps.step c p n a) in
    subst P same (subst Q number answered)

-- each entry that a program answers is one that a record may have
pub answer_gives : (c : Config) (r : Answer) (s : State) (a : Ask) → IsAnswer ⊤ r (steps.step c s (least_free s.slots) a) → IfOk r (λ d. Gives c s a d)
answer_gives c (Ok d) s a answered = gives_at_least c s a d answered
answer_gives c (Err e) s a answered = tt

-- each entry that a program answers at a number that the step may use is one that a record may have
pub answer_at_gives : (c : Config) (r : Answer) (s : State) (w : ℕ) (a : Ask) → steps.IsFreeTo s a w → IsAnswer ⊤ r (steps.step c s w a) → IfOk r (λ d. Gives c s a d)
answer_at_gives c (Ok d) s w a free answered = gives_at_free_to c s w a d free answered
answer_at_gives c (Err e) s w a free answered = tt
