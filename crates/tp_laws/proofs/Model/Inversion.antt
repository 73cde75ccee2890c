-- What the step's answer says of the history before it, where places and slots agree there: one lemma for each ask.
use Rattle.std.proofs.Common.{◌≡◌, ℕ, ◌-◌, ◌^◌, ◌<◌, Bool, true, false, not, ◌&&◌, ◌||◌, List, [], ◌∷◌, length, Option, Some, None, refl, arith, sym, ap, ◌∙◌, subst, inl, inr}
use Rattle.std.specs.Prelude.{All, is_none, nat_lt, nat_le, ◌==◌, IfOk, IfSome, if◌then◌else◌}
use Rattle.std.proofs.lemmas.Bool.{cond_both, ltb-true, ltb-false, leb-false, eqb-true, and_parts, or_parts, cases_lt, not-false}
use Rattle.std.proofs.lemmas.Bool.Decides.{nat_tests}
use Rattle.std.proofs.lemmas.List.Elements.{filter_passes, All-head}
use Rattle.tp_types.specs.declared.configs.Config.{Config}
use Rattle.tp_types.specs.declared.configs.QueueKind.{QueueKind}
use Rattle.tp_types.specs.declared.configs.QueueKind.TheVariants.{Handoff, Unbounded, Bounded, Priority}
use Rattle.tp_types.specs.Queues.{is_ranked}
use Rattle.tp_laws.proofs.Model.Arranged.{AllPass, filter-passes, line-pass}
use Rattle.tp_types.specs.declared.configs.Verdict.{Verdict}
use Rattle.tp_types.specs.declared.configs.Verdict.TheVariants as verdict
use Rattle.tp_types.specs.declared.ids.TaskId.{TaskId}
use Rattle.tp_types.specs.declared.ids.SlotId.{SlotId}
use Rattle.tp_types.specs.declared.tasks.Kind.{Kind}
use Rattle.tp_types.specs.declared.tasks.Place.{Place}
use Rattle.tp_types.specs.declared.tasks.Place.TheVariants as at
use Rattle.tp_record.specs.declared.entries.Entry.{Entry}
use Rattle.tp_record.specs.declared.entries.Did.{Did}
use Rattle.tp_record.specs.declared.entries.Did.TheVariants as did
use Rattle.tp_record.specs.declared.entries.Looked.{Looked}
use Rattle.tp_record.specs.declared.entries.Looked.TheVariants as looked
use Rattle.tp_record.specs.declared.entries.Ruled.TheVariants as ruled
use Rattle.tp_record.specs.declared.rows.Stage.{Stage}
use Rattle.tp_record.specs.declared.rows.Stage.TheVariants as stages
use Rattle.tp_record.specs.declared.rows.SlotRow.{SlotRow}
use Rattle.tp_record.specs.declared.rows.TaskRow.{TaskRow}
use Rattle.tp_record.specs.Lists.{is_it}
use Rattle.tp_record.specs.Effects.{Outcome, reserves, reserved_looked, frees}
use Rattle.tp_record.specs.Fields.{rank, submitted, kind, place, is_cancelled, owes_second, retries, priority, queued, queue, offered, is_queued, slot_row, slot_rows, idling, is_queued_place, task_row, task_rows, is_idle_stage, is_idle, is_idle_row, idled}
use Rattle.tp_record.specs.State.{state, slot_at}
use Rattle.tp_record.specs.Step.{Answer, of_task, of_slot, of_row, slot_count, wants_worker, leaves_room, look, submit_answer, look_answer, hand_answer, offer_to, offer_answer, second_answer, grow_answer, verdict_answer, rule, retry_of, is_refused_place, allows, caller_end_answer}
use Rattle.tp_laws.proofs.Model.Readings.{tasks_counted, row_read, slot_read}
use Rattle.tp_laws.proofs.Model.Keystone.{IsSound, suits, suits_row}
use Rattle.tp_laws.proofs.Model.Given.{Given, GivenLook, GivenRuled, HasQueueRoom, HasRow, IsAt}

-- the number that an entry reserves is no slot, or is freed by it
abbrev pub IsFresh : List Entry → Did → Type 0
IsFresh h d = IfSome (reserves d) (λ w. (is_none (slot_row h w) || is_it (frees d) w) ≡ true)

-- an answer that is an entry says what is given of it
abbrev pub Says : Config → List Entry → Answer → Type 0
Says c h a = IfOk a (λ d. IsFresh h d → Given c h d)

-- an answer by a test
pub says_if : (c : Config) (h : List Entry) (b : Bool) (x y : Answer) → (b ≡ true → Says c h x) → (b ≡ false → Says c h y) → Says c h (if b then x else y)
says_if c h true x y this that = this refl
says_if c h false x y this that = that refl

pub free_row : (o : Option SlotRow) → (is_none o || false) ≡ true → o ≡ None
free_row None is = refl
free_row (Some r) is = absurd (grind arith)

-- a step of a task reads its row
pub of_task_says : (c : Config) (h : List Entry) (t : TaskId) (answer : TaskRow → Answer) →
    (t.0 < submitted h → Says c h (answer (task_row h t.0))) → Says c h (of_task (state c h) t answer)
of_task_says c h t answer says = says_if c h (nat_lt t.0 (length (task_rows h))) _ _
    (λ is.
    let n = tasks_counted h in
    let known : t.0 < submitted h = omega (arith, ltb-true _ _ is) in
    subst (λ r. Says c h (answer r)) (sym (row_read h t.0 known)) (says known))
    (λ _. tt)

of_row_says : (c : Config) (h : List Entry) (answer : SlotRow → Answer) (o : Option SlotRow) →
    ((r : SlotRow) → o ≡ Some r → Says c h (answer r)) → Says c h (of_row o answer)
of_row_says c h answer None says = tt
of_row_says c h answer (Some r) says = says r refl

-- a step of a slot reads its row
pub of_slot_says : (c : Config) (h : List Entry) (v : SlotId) (answer : SlotRow → Answer) →
    ((r : SlotRow) → slot_row h v.0 ≡ Some r → Says c h (answer r)) → Says c h (of_slot (state c h) v answer)
of_slot_says c h v answer says = of_row_says c h answer (slot_at (slot_rows h) v.0) (λ r is. says r (sym (slot_read h v.0) ∙ is))

-- a task that is not gone was submitted
pub present : (h : List Entry) → IsSound h → (t : ℕ) → (place h t ≡ at.Gone → ⊥) → t < submitted h
present h sound t there = elim (cases_lt t (submitted h)) [
  | inl known ↦ known
  | inr past ↦ absurd (there (ap (λ r. r.place) ((sound t 0).fresh past)))
]

pub queued_place : (p : Place) → is_queued_place p ≡ true → p ≡ at.Queued
queued_place p is = grind arith

-- a queue of no tasks is empty
pub empty_queue : (q : List ℕ) → length q ≡ 0 → q ≡ []
empty_queue [] is = refl
empty_queue (t ∷ ts) is = absurd (omega arith)

-- the queue's head is queued, and was submitted
pub head_at : (c : Config) (h : List Entry) → IsSound h → (t : ℕ) (ts : List ℕ) → queue c h ≡ t ∷ ts → IsAt h t at.Queued
head_at c h sound t ts is =
    let queued : is_queued h t ≡ true = (subst (AllPass (is_queued h)) is (line-pass (is_ranked c.queue) (is_queued h) (priority h) (queued h) (filter-passes (is_queued h) (offered h)))).0 in
    let there : place h t ≡ at.Queued = queued_place (place h t) queued in
    (present h sound t (λ gone. grind arith), there)

pub not_above : (n : ℕ) → nat_lt 0 n ≡ false → n ≡ 0
not_above n is = omega (arith, ltb-false 0 n is)

look_says : (c : Config) (h : List Entry) (w : ℕ) →
    IfSome (reserved_looked (look (state c h) w)) (λ x. (is_none (slot_row h x) || false) ≡ true) → GivenLook c h (look (state c h) w)
look_says c h w =
    cond_both (nat_lt 0 (rank h)) looked.Refuse _ P (λ above _. ltb-true 0 (rank h) above) (λ runs.
    cond_both (nat_lt (slot_count (state c h)) (state c h).core) (looked.Reserve (record { 0 = w })) looked.Queue P
    (λ below free. (not_above (rank h) runs, ltb-true _ _ below, free_row (slot_row h w) free))
    (λ _ _. not_above (rank h) runs))
  where
    P : Looked → Type 0
    P l = IfSome (reserved_looked l) (λ x. (is_none (slot_row h x) || false) ≡ true) → GivenLook c h l

pub submit_says : (c : Config) (h : List Entry) (w : ℕ) (k : Kind) (p : ℕ) → Says c h (submit_answer (state c h) w k p)
submit_says c h w k p = says_if c h (nat_lt (length (task_rows h)) (2 ^ 32 - 1)) _ _ (λ _ free. (tasks_counted h, look_says c h w free)) (λ _. tt)

pub look_at_says : (c : Config) (h : List Entry) (w : ℕ) (t : TaskId) → t.0 < submitted h → (p : Place) → place h t.0 ≡ p → Says c h (look_answer (state c h) w t p)
look_at_says c h w t known at.Looking is = λ free. ((known, is), look_says c h w free)
look_at_says c h w t known _ is = tt

-- an idle slot's row
pub row_idles : (h : List Entry) → IsSound h → (w : ℕ) → is_idle h w ≡ true → (m : ℕ) × HasRow h w (stages.Idle m) None
row_idles h sound w is = by_row (slot_row h w) refl is (sound 0 w).suited
  where
    by_stage : (s : Stage) (o : Option TaskId) → slot_row h w ≡ Some (record { stage = s; task = o }) → is_idle_stage s ≡ true → suits s o ≡ true → (m : ℕ) × HasRow h w (stages.Idle m) None
    by_stage (stages.Idle m) None was idle suited = (m, was)
    by_stage (stages.Idle m) (Some t) was idle suited = absurd (grind arith)
    by_stage stages.Working o was idle suited = absurd (grind arith)
    by_stage stages.Dying o was idle suited = absurd (grind arith)
    by_stage stages.ReservedCore o was idle suited = absurd (grind arith)
    by_stage stages.ReservedMaximum o was idle suited = absurd (grind arith)
    by_stage stages.ReservedBare o was idle suited = absurd (grind arith)

    by_row : (o : Option SlotRow) → slot_row h w ≡ o → is_idle_row o ≡ true → suits_row o ≡ true → (m : ℕ) × HasRow h w (stages.Idle m) None
    by_row None was idle suited = absurd (grind arith)
    by_row (Some r) was idle suited = by_stage r.stage r.task was idle suited

-- the slot that is idle longest is idle
pub first_idles : (h : List Entry) → IsSound h → (w : ℕ) (ws : List ℕ) → idling h ≡ w ∷ ws → (m : ℕ) × HasRow h w (stages.Idle m) None
first_idles h sound w ws is =
    row_idles h sound w
    (All-head (λ x. is_idle h x ≡ true) w ws
    (subst (λ q. All (λ x. is_idle h x ≡ true) q) is
    (filter_passes (is_idle h) (idled h))))

hand_says : (c : Config) (h : List Entry) → IsSound h → (t : TaskId) → IsAt h t.0 at.ToOffer → c.queue ≡ Handoff → (ws : List ℕ) → idling h ≡ ws → Says c h (hand_answer t ws)
hand_says c h sound t there kind [] is = λ _. there
hand_says c h sound t there kind (w ∷ ws) is = λ _. (there, kind, (ws, is), first_idles h sound w ws is)

offer_to_says : (c : Config) (h : List Entry) → IsSound h → (t : TaskId) → IsAt h t.0 at.ToOffer → (q : QueueKind) → c.queue ≡ q → Says c h (offer_to q (state c h) t)
offer_to_says c h sound t there Handoff is = hand_says c h sound t there is (idling h) refl
offer_to_says c h sound t there Unbounded is = λ _. (there, subst (λ q. HasQueueRoom q (length (queue c h))) (sym is) tt)
offer_to_says c h sound t there Priority is = λ _. (there, subst (λ q. HasQueueRoom q (length (queue c h))) (sym is) tt)
offer_to_says c h sound t there (Bounded n) is = says_if c h (nat_lt (length (queue c h)) n) _ _
    (λ room _. (there, subst (λ q. HasQueueRoom q (length (queue c h))) (sym is) (ltb-true _ _ room)))
    (λ _ _. there)

pub offer_says : (c : Config) (h : List Entry) → IsSound h → (t : TaskId) → t.0 < submitted h → (p : Place) → place h t.0 ≡ p → Says c h (offer_answer c (state c h) t p)
offer_says c h sound t known at.ToOffer is = offer_to_says c h sound t (known, is) c.queue refl
offer_says c h sound t known _ is = tt

stays_running : (n : ℕ) (p : Place) → (nat_lt 0 n && is_queued_place p) ≡ false → p ≡ at.Queued → n ≡ 0
stays_running n p is queued = grind (arith, nat_tests)

no_worker_wanted : (n : ℕ) (b : Bool) → (n == 0 && b) ≡ false → n ≡ 0 → b ≡ false
no_worker_wanted n b is none = grind (arith, nat_tests)

pub second_says : (c : Config) (h : List Entry) (w : ℕ) (t : TaskId) → t.0 < submitted h → Says c h (second_answer (state c h) w t (task_row h t.0))
second_says c h w t known =
    says_if c h (not (owes_second h t.0)) _ _ (λ _. tt) (λ owes.
    says_if c h (nat_lt 0 (rank h) && is_queued_place (place h t.0)) _ _
    (λ is _.
    let both = and_parts (nat_lt 0 (rank h)) (is_queued_place (place h t.0)) is in
    ((known, queued_place (place h t.0) both.1), not-false (owes_second h t.0) owes, ltb-true _ _ both.0))
    (λ stays.
    says_if c h (slot_count (state c h) == 0 && wants_worker (state c h)) _ _
    (λ is free.
    let both = and_parts (slot_count (state c h) == 0) (wants_worker (state c h)) is in (
      known,
      not-false (owes_second h t.0) owes,
      stays_running (rank h) (place h t.0) stays,
      eqb-true _ _ both.0,
      both.1,
      free_row (slot_row h w) free,
    ))
    (λ none _. (
      known,
      not-false (owes_second h t.0) owes,
      stays_running (rank h) (place h t.0) stays,
      no_worker_wanted (slot_count (state c h)) (wants_worker (state c h)) none,
    ))))

pub grow_says : (c : Config) (h : List Entry) (w : ℕ) (t : TaskId) → t.0 < submitted h → (p : Place) → place h t.0 ≡ p → Says c h (grow_answer (state c h) w t p)
grow_says c h w t known at.ToGrow is =
    says_if c h (rank h == 0 && nat_lt (slot_count (state c h)) (state c h).maximum) _ _
    (λ room free.
    let both = and_parts (rank h == 0) (nat_lt (slot_count (state c h)) (state c h).maximum) room in
    ((known, is), eqb-true _ _ both.0, ltb-true _ _ both.1, free_row (slot_row h w) free))
    (λ _ _. (known, is))
grow_says c h w t known _ is = tt

refused_place : (p : Place) → is_refused_place p ≡ true → p ≡ at.Refused
refused_place p is = grind arith

retry_says : (c : Config) (h : List Entry) → IsSound h → (t : ℕ) → rank h ≡ 0 → retries h t < 64 → (q : List ℕ) → queue c h ≡ q → GivenRuled c h t (retry_of q)
retry_says c h sound t runs few [] is = (runs, few, is)
retry_says c h sound t runs few (u ∷ us) is = (runs, few, (us, is), head_at c h sound u us is)

rule_says : (c : Config) (h : List Entry) → IsSound h → (t : TaskId) (v : Verdict) → GivenRuled c h t.0 (rule c (state c h) t (task_row h t.0) v)
rule_says c h sound t verdict.Abort = tt
rule_says c h sound t verdict.Discard = tt
rule_says c h sound t verdict.CallerRuns =
    cond_both (nat_lt 0 (rank h)) ruled.Discarded _ (GivenRuled c h t.0) (λ _. tt) (λ runs.
    cond_both (is_cancelled h t.0) ruled.Skip ruled.Caller (GivenRuled c h t.0)
    (λ is. (not_above (rank h) runs, is)) (λ is. (not_above (rank h) runs, is)))
rule_says c h sound t verdict.DiscardOldest =
    cond_both (nat_lt 0 (rank h) || nat_le 64 (retries h t.0)) ruled.Discarded _ (GivenRuled c h t.0) (λ _. tt) (λ no.
    cond_both (leaves_room c (state c h) (did.Verdict t verdict.DiscardOldest (retry_of (queue c h)))) _ ruled.Discarded (GivenRuled c h t.0)
    (λ _.
    let both = or_parts (nat_lt 0 (rank h)) (nat_le 64 (retries h t.0)) no in
    retry_says c h sound t.0 (not_above (rank h) both.0) (leb-false 64 (retries h t.0) both.1) (queue c h) refl)
    (λ _. tt))

pub verdict_says : (c : Config) (h : List Entry) → IsSound h → (t : TaskId) (v : Verdict) → t.0 < submitted h → Says c h (verdict_answer c (state c h) t v (task_row h t.0))
verdict_says c h sound t v known =
    says_if c h (is_refused_place (place h t.0) && allows c.policy v) _ _
    (λ is _.
    let both = and_parts (is_refused_place (place h t.0)) (allows c.policy v) is in
    ((known, refused_place (place h t.0) both.0), rule_says c h sound t v))
    (λ _. tt)

pub caller_end_says : (c : Config) (h : List Entry) (t : TaskId) (o : Outcome) → t.0 < submitted h → (p : Place) → place h t.0 ≡ p → Says c h (caller_end_answer t o p)
caller_end_says c h t o known at.Caller is = λ _. (known, is)
caller_end_says c h t o known _ is = tt
