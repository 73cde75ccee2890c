-- Each entry of a legal record says what is given of it (`Given`), and at each of its fronts places and slots agree.
use Rattle.std.proofs.Common.{◌≡◌, ℕ, ◌<◌, ◌≤◌, ◌⊎◌, Bool, true, false, ◌&&◌, ◌||◌, List, [], ◌∷◌, length, Option, Some, None, Ok, refl, arith, ap, subst, inl, inr}
use Rattle.std.specs.Prelude.{is_some, is_none, unwrap_or, nat_lt, nat_le, ◌==◌, IfSome, count_by, if◌then◌else◌}
use Rattle.std.proofs.lemmas.Bool.{ltb-true, leb-true, eqb-true, and_parts, or_cases}
use Rattle.tp_types.specs.declared.configs.Config.{Config}
use Rattle.tp_types.specs.declared.ids.TaskId.{TaskId}
use Rattle.tp_types.specs.declared.tasks.Fate.{Fate}
use Rattle.tp_types.specs.declared.tasks.Fate.TheVariants as fate
use Rattle.tp_record.specs.declared.entries.Entry.{Entry}
use Rattle.tp_record.specs.declared.entries.Ask.{Ask}
use Rattle.tp_record.specs.declared.entries.Ask.TheVariants as ask
use Rattle.tp_record.specs.declared.entries.Did.{Did}
use Rattle.tp_record.specs.declared.entries.Did.TheVariants as did
use Rattle.tp_record.specs.Lists.{is_it}
use Rattle.tp_record.specs.Effects.{reserves, frees, is_plain}
use Rattle.tp_types.specs.Queues.{is_ranked}
use Rattle.tp_laws.proofs.Model.Arranged.{filter-passes, line-pass, count_pass_agree}
use Rattle.tp_record.specs.Fields.{rank, now, submitted, kind, place, is_cancelled, ending, queued, priority, queue, offered, is_queued, slot_row, is_queued_place, task_row, task_rows}
use Rattle.tp_record.specs.State.{state, row_at, fate_of}
use Rattle.tp_record.specs.Step.{Gives, Legal, fitting, slot_count, is_free_for, look_answer, offer_answer, second_answer, grow_answer, verdict_answer, caller_end_answer, cancel_answer, open_answer, fail_answer, take_answer, begin_answer, end_answer, leave_answer, tidy_answer, first_done, done_of, prestart_answer, wants_worker}
use Rattle.tp_laws.proofs.Model.Weak.{within}
use Rattle.tp_laws.proofs.Model.Readings.{row_read, slot_read}
use Rattle.tp_laws.proofs.Model.Given.{Given, Told}
use Rattle.tp_laws.proofs.Model.Keystone.{IsSound, sound_nil, sound_more}
use Rattle.tp_laws.proofs.Model.Inversion.{Says, says_if, free_row, of_task_says, of_slot_says, present, queued_place, empty_queue, submit_says, look_at_says, offer_says, second_says, grow_says, verdict_says, caller_end_says}
use Rattle.tp_laws.proofs.Model.SlotInversion.{open_says, fail_says, take_says, begin_says, end_says, leave_says}

tidy_says : (c : Config) (h : List Entry) → Says c h (tidy_answer (state c h))
tidy_says c h = says_if c h (slot_count (state c h) == 0 && (rank h == 2 || (rank h == 1 && length (queue c h) == 0))) _ _
    (λ is _.
    let both = and_parts (slot_count (state c h) == 0) (rank h == 2 || (rank h == 1 && length (queue c h) == 0)) is in
    (eqb-true _ _ both.0, stopped both.1))
    (λ _. tt)
  where
    stopped : (rank h == 2 || (rank h == 1 && length (queue c h) == 0)) ≡ true → (rank h ≡ 2) ⊎ ((rank h ≡ 1) × (queue c h ≡ []))
    stopped is = elim (or_cases (rank h == 2) (rank h == 1 && length (queue c h) == 0) is) [
      | inl two ↦ inl (eqb-true _ _ two)
      | inr one ↦
          let both = and_parts (rank h == 1) (length (queue c h) == 0) one in
          inr (eqb-true _ _ both.0, empty_queue (queue c h) (eqb-true _ _ both.1))
    ]

remove_says : (c : Config) (h : List Entry) (t : TaskId) → t.0 < submitted h → (b : Bool) → is_queued_place (place h t.0) ≡ b → Says c h (Ok (did.Remove t b))
remove_says c h t known true is = λ _. (known, queued_place (place h t.0) is)
remove_says c h t known false is = λ _. (known, is)

purge_says : (c : Config) (h : List Entry) → IsSound h → Says c h (Ok (did.Purge (count_by (λ t. (row_at (task_rows h) t).cancelled) (queue c h))))
purge_says c h sound = λ _.
    count_pass_agree (is_queued h) (λ t. (row_at (task_rows h) t).cancelled) (is_cancelled h)
    (λ t is.
    let there = queued_place (place h t) is in
    ap (λ r. r.cancelled) (row_read h t (present h sound t (λ gone. grind arith))))
    (queue c h) (line-pass (is_ranked c.queue) (is_queued h) (priority h) (queued h) (filter-passes (is_queued h) (offered h)))

cancel_says : (c : Config) (h : List Entry) (t : TaskId) (flag : Bool) → t.0 < submitted h → Says c h (cancel_answer t flag (task_row h t.0))
cancel_says c h t flag known =
    says_if c h (is_plain (kind h t.0)) _ _ (λ _. tt) (λ future. by_fate future (is_none (fate_of (task_row h t.0))) refl)
  where
    by_fate : is_plain (kind h t.0) ≡ false → (b : Bool) → is_none (fate_of (task_row h t.0)) ≡ b → Says c h (Ok (did.Cancel t flag b))
    by_fate future true is = λ _. (known, future, alive (is_cancelled h t.0) (ending h t.0) is, unended (is_cancelled h t.0) (ending h t.0) is)
      where
        alive : (x : Bool) (f : Option Fate) → is_none (if x then Some fate.Cancelled else f) ≡ true → x ≡ false
        alive x f is = grind arith

        unended : (x : Bool) (f : Option Fate) → is_none (if x then Some fate.Cancelled else f) ≡ true → f ≡ None
        unended x f is = grind arith
    by_fate future false is = λ _. (known, future, fated (fate_of (task_row h t.0)) is)
      where
        fated : {A : Type 0} (o : Option A) → is_none o ≡ false → is_some o ≡ true
        fated None is = absurd (grind arith)
        fated (Some x) is = refl

take_done_says : (c : Config) (h : List Entry) (g : ℕ) (ts : List ℕ) → done_of (state c h) g ≡ ts → Says c h (first_done g ts)
take_done_says c h g [] is = tt
take_done_says c h g (t ∷ ts) is = λ _. (ts, is)

maximum_fits : (n low : ℕ) → (nat_le 1 n && nat_le n 1024 && nat_le low n) ≡ true → (1 ≤ n) × (n ≤ 1024) × (low ≤ n)
maximum_fits n low is =
    let outer = and_parts (nat_le 1 n && nat_le n 1024) (nat_le low n) is in
    let inner = and_parts (nat_le 1 n) (nat_le n 1024) outer.0 in
    (leb-true _ _ inner.0, leb-true _ _ inner.1, leb-true _ _ outer.1)

prestart_says : (c : Config) (h : List Entry) (w : ℕ) → Says c h (prestart_answer (state c h) w)
prestart_says c h w =
    says_if c h (nat_lt (slot_count (state c h)) (state c h).core && wants_worker (state c h)) _ _
    (λ is free.
    let both = and_parts (nat_lt (slot_count (state c h)) (state c h).core) (wants_worker (state c h)) is in
    (ltb-true _ _ both.0, both.1, free_row (slot_row h w) free))
    (λ _ _. tt)

-- an answer to an ask says what is given of it
fitting_says : (c : Config) (h : List Entry) → IsSound h → (w : ℕ) (a : Ask) → Says c h (fitting c (state c h) w a)
fitting_says c h sound w (ask.Submit k p) = submit_says c h w k p
fitting_says c h sound w (ask.Look t) = of_task_says c h t (λ r. look_answer (state c h) w t r.place) (λ known. look_at_says c h w t known (place h t.0) refl)
fitting_says c h sound w (ask.Offer t) = of_task_says c h t (λ r. offer_answer c (state c h) t r.place) (λ known. offer_says c h sound t known (place h t.0) refl)
fitting_says c h sound w (ask.Second t) = of_task_says c h t (second_answer (state c h) w t) (λ known. second_says c h w t known)
fitting_says c h sound w (ask.Grow t) = of_task_says c h t (λ r. grow_answer (state c h) w t r.place) (λ known. grow_says c h w t known (place h t.0) refl)
fitting_says c h sound w (ask.Verdict t v) = of_task_says c h t (verdict_answer c (state c h) t v) (λ known. verdict_says c h sound t v known)
fitting_says c h sound w (ask.CallerEnd t o) = of_task_says c h t (λ r. caller_end_answer t o r.place) (λ known. caller_end_says c h t o known (place h t.0) refl)
fitting_says c h sound w (ask.Open v) = of_slot_says c h v (open_answer (state c h) v) (open_says c h sound v)
fitting_says c h sound w (ask.Fail v) = of_slot_says c h v (fail_answer (state c h) v) (fail_says c h sound v)
fitting_says c h sound w (ask.Take v) = of_slot_says c h v (λ r. take_answer (state c h) v r.stage r.task) (take_says c h sound v)
fitting_says c h sound w (ask.Begin v) = of_slot_says c h v (λ r. begin_answer (state c h) v r.stage r.task) (begin_says c h sound v)
fitting_says c h sound w (ask.End v o) = of_slot_says c h v (λ r. end_answer (state c h) v o r.stage r.task) (end_says c h sound v o)
fitting_says c h sound w (ask.Leave v) = of_slot_says c h v (λ r. leave_answer (state c h) w v r.stage) (leave_says c h sound w v)
fitting_says c h sound w ask.Shutdown = λ _. tt
fitting_says c h sound w ask.Stop = λ _. refl
fitting_says c h sound w ask.Tidy = tidy_says c h
fitting_says c h sound w ask.Ended = says_if c h (rank h == 3) _ _ (λ is _. eqb-true _ _ is) (λ _. tt)
fitting_says c h sound w (ask.Remove t) = of_task_says c h t (λ r. Ok (did.Remove t (is_queued_place r.place))) (λ known. remove_says c h t known (is_queued_place (place h t.0)) refl)
fitting_says c h sound w ask.Purge = purge_says c h sound
fitting_says c h sound w (ask.Cancel t flag) = of_task_says c h t (cancel_answer t flag) (λ known. cancel_says c h t flag known)
fitting_says c h sound w (ask.TakeDone g) = take_done_says c h g (done_of (state c h) g) refl
fitting_says c h sound w (ask.Core n) = says_if c h (nat_le n (state c h).maximum) _ _ (λ is _. leb-true _ _ is) (λ _. tt)
fitting_says c h sound w (ask.Maximum n) = says_if c h (nat_le 1 n && nat_le n 1024 && nat_le (state c h).core n) _ _ (λ is _. maximum_fits n (state c h).core is) (λ _. tt)
fitting_says c h sound w (ask.Keep n) = says_if c h (n == 0 && (state c h).core_timeout) _ _ (λ _. tt) (λ _ _. tt)
fitting_says c h sound w (ask.CoreTimeout on) = says_if c h (on && (state c h).keep == 0) _ _ (λ _. tt) (λ _ _. tt)
fitting_says c h sound w (ask.Tick n) = says_if c h (nat_le (now h) n) _ _ (λ is _. leb-true _ _ is) (λ _. tt)
fitting_says c h sound w ask.Prestart = prestart_says c h w

fresh_read : (c : Config) (h : List Entry) (d : Did) (o : Option ℕ) → IfSome o (λ w. is_free_for (state c h) d w ≡ true) → IfSome o (λ w. (is_none (slot_row h w) || is_it (frees d) w) ≡ true)
fresh_read c h d None free = tt
fresh_read c h d (Some w) free = subst (λ r. (is_none r || is_it (frees d) w) ≡ true) (slot_read h w) free

-- what fits, where places and slots agree, says what is given of it, whatever the room
pub given_answer : (c : Config) (h : List Entry) (n : ℕ) (a : Ask) (d : Did) → IsSound h → fitting c (state c h) n a ≡ Ok d → IfSome (reserves d) (λ w. is_free_for (state c h) d w ≡ true) → Given c h d
given_answer c h n a d sound is free = subst (Says c h) is (fitting_says c h sound n a) (fresh_read c h d (reserves d) free)

-- so does what the step gives
pub given_sound : (c : Config) (h : List Entry) (a : Ask) (d : Did) → IsSound h → Gives c (state c h) a d → Given c h d
given_sound c h a d sound gives =
    let n = unwrap_or (reserves d) 0 in
    given_answer c h n a d sound (within c (state c h) (fitting c (state c h) n a) d gives.0) gives.1

-- places and slots agree where each entry says what is given of it
pub sound_told : (c : Config) (h : List Entry) → Told c h → IsSound h
sound_told c [] told = sound_nil
sound_told c (e ∷ h) told = sound_more c e h told.0 (sound_told c h told.1)

-- each entry of a legal record says what is given of it
pub told_legal : (c : Config) (h : List Entry) → Legal c h → Told c h
told_legal c [] legal = tt
told_legal c (e ∷ h) legal =
    let told = told_legal c h legal.1 in
    (given_sound c h e.ask e.did (sound_told c h told) legal.0, told)

-- places and slots of a legal record agree
pub sound_legal : (c : Config) (h : List Entry) → Legal c h → IsSound h
sound_legal c h legal = sound_told c h (told_legal c h legal)

-- what the step gives after a legal record says what is given of it
pub given_legal : (c : Config) (h : List Entry) (a : Ask) (d : Did) → Legal c h → Gives c (state c h) a d → Given c h d
given_legal c h a d legal gives = given_sound c h a d (sound_legal c h legal) gives
