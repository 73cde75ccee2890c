-- What an entry does not name owes no more after it, and so what is owed falls where it falls at what the entry names.
use Rattle.std.proofs.Common.{◌≡◌, ℕ, suc, ◌+◌, ◌-◌, ◌≤◌, max, cond, Bool, true, false, List, ◌∷◌, Option, Some, None, refl, arith, sym, ap, ◌∙◌}
use Rattle.std.specs.Prelude.{is_some, ◌==◌, if◌then◌else◌}
use Rattle.std.proofs.lemmas.Bool.{ne_eqb, false≢true}
use Rattle.std.proofs.lemmas.Bool.Decides.{nat_tests}
use Rattle.tp_types.specs.declared.configs.Config.{Config}
use Rattle.tp_types.specs.declared.ids.TaskId.{TaskId}
use Rattle.tp_types.specs.declared.ids.SlotId.{SlotId}
use Rattle.tp_types.specs.declared.tasks.Place.{Place}
use Rattle.tp_types.specs.declared.tasks.Place.TheVariants as at
use Rattle.tp_record.specs.declared.entries.Entry.{Entry}
use Rattle.tp_record.specs.declared.entries.Did.{Did}
use Rattle.tp_record.specs.declared.entries.Did.TheVariants as did
use Rattle.tp_record.specs.declared.entries.Looked.TheVariants as looked
use Rattle.tp_record.specs.declared.entries.Offered.TheVariants as offered
use Rattle.tp_record.specs.declared.entries.Seconded.TheVariants as seconded
use Rattle.tp_record.specs.declared.entries.Grown.TheVariants as grown
use Rattle.tp_record.specs.declared.entries.Opened.TheVariants as opened
use Rattle.tp_record.specs.declared.entries.Failed.TheVariants as failed
use Rattle.tp_record.specs.declared.entries.Took.TheVariants as took
use Rattle.tp_record.specs.declared.entries.Started.TheVariants as started
use Rattle.tp_record.specs.declared.rows.Stage.{Stage}
use Rattle.tp_record.specs.declared.rows.Stage.TheVariants as stages
use Rattle.tp_record.specs.declared.rows.TaskRow.{TaskRow}
use Rattle.tp_record.specs.Lists.{said_of, is_it}
use Rattle.tp_record.specs.Effects.{moved, seconds, holds, turned, seated, reaches, is_plain_fault}
use Rattle.tp_record.specs.Fields.{rank, submitted, place, now, kind, task_row, slot_row, slot_bound, reach, sweeps, is_slot, stage, task_in, woken, woken_stage}
use Rattle.tp_record.specs.State.{state, due, row_after, place_weight, stage_weight, slot_weight}
use Rattle.tp_laws.specs.Room.{lowers}
use Rattle.tp_laws.proofs.Model.Given.{Given}
use Rattle.tp_laws.specs.Seats.{slot_of}
use Rattle.tp_laws.proofs.Model.Keystone.{IsSound, suits, suits_row, fits_row, sound_more}
use Rattle.tp_laws.proofs.Model.Totals.{at_named, total, total-le, total-one, total-two}
use Rattle.tp_laws.proofs.Model.Weights.{held_core, weight_of, is_core, task_due, slot_due, due_totals}

-- Tasks

-- the task whose place or second look an entry changes, a retry aside
abbrev pub names : Did → Option ℕ
names (did.Look t l) = Some t.0
names (did.Offer t o) = Some t.0
names (did.Second t s) = Some t.0
names (did.Grow t g) = Some t.0
names (did.Verdict t v r) = Some t.0
names (did.CallerEnd t o) = Some t.0
names (did.Open w (opened.GivenUpRefuse t)) = Some t.0
names (did.Fail w (failed.Offer t)) = Some t.0
names (did.Fail w (failed.Refuse t)) = Some t.0
names (did.Take w (took.Held t)) = Some t.0
names (did.Take w (took.Head t)) = Some t.0
names (did.Begin w (started.Run t)) = Some t.0
names (did.Begin w (started.Skip t)) = Some t.0
names (did.End w t o) = Some t.0
names _ = None

-- an entry moves no other task
unmoved : (n : ℕ) (d : Did) (t : ℕ) → lowers n d ≡ true → is_it (names d) t ≡ false → said_of t (moved d) ≡ None
unmoved n d t low other = grind (arith, nat_tests)

-- nor does it say anything of another's second look
unseconded : (n : ℕ) (d : Did) (t : ℕ) → lowers n d ≡ true → is_it (names d) t ≡ false → said_of t (seconds d) ≡ None
unseconded n d t low other = grind (arith, nat_tests)

-- a place owes no more where no slot comes to be reserved for the core
kept_place : (f f' : ℕ → Bool) (p : Place) → ((w : SlotId) → p ≡ at.Held w → f' w.0 ≡ true → f w.0 ≡ true) → place_weight (held_core f' p) p ≤ place_weight (held_core f p) p
kept_place f f' (at.Held w) core = by_core (f' w.0) (f w.0) (core w refl)
  where
    by_core : (b b' : Bool) → (b ≡ true → b' ≡ true) → cond b 9 5 ≤ cond b' 9 5
    by_core true true le = omega arith
    by_core true false le = absurd (false≢true (le refl))
    by_core false true le = omega arith
    by_core false false le = omega arith
kept_place f f' _ core = omega arith

-- nor does one that an entry may sweep
swept_place : (f f' : ℕ → Bool) (b : Bool) (p : Place) → ((w : SlotId) → p ≡ at.Held w → f' w.0 ≡ true → f w.0 ≡ true) →
    place_weight (held_core f' (cond b at.Gone p)) (cond b at.Gone p) ≤ place_weight (held_core f p) p
swept_place f f' true p core = omega arith
swept_place f f' false p core = kept_place f f' p core

-- a task of which an entry says neither its place nor its second look
other_row : (f f' : ℕ → Bool) (d : Did) (t : ℕ) (r : TaskRow) → said_of t (moved d) ≡ None → said_of t (seconds d) ≡ None →
    ((w : SlotId) → r.place ≡ at.Held w → f' w.0 ≡ true → f w.0 ≡ true) → weight_of f' (row_after d t r) ≤ weight_of f r
other_row f f' d t r stays owes core =
    let a = swept_place f f' (sweeps d r.cancelled r.place) r.place core in
    rw (stays, owes) (omega (arith, a))

-- the slot that an entry reserves for the core
abbrev makes_core : Did → Option ℕ
makes_core (did.Submit t k p (looked.Reserve w)) = Some w.0
makes_core (did.Look t (looked.Reserve w)) = Some w.0
makes_core _ = None

-- a slot is reserved for the core by this entry, or was before
core_was : (e : Entry) (h : List Entry) (w : ℕ) → is_it (makes_core e.did) w ≡ false → is_core (e ∷ h) w ≡ true → is_core h w ≡ true
core_was e h w other is = grind (arith, nat_tests)

-- the slot that an entry reserves for the core was none
core_free : (c : Config) (h : List Entry) (d : Did) (w : ℕ) → Given c h d → is_it (makes_core d) w ≡ true → slot_row h w ≡ None
core_free c h (did.Submit t k p (looked.Reserve u)) w given is = grind (arith, nat_tests)
core_free c h _ w given is = grind (arith, nat_tests)

-- a slot that holds a task is not newly reserved for the core
core_stays : (c : Config) (e : Entry) (h : List Entry) → Given c h e.did → IsSound h → (t : ℕ) (w : SlotId) → place h t ≡ at.Held w → is_core (e ∷ h) w.0 ≡ true → is_core h w.0 ≡ true
core_stays c e h given sound t w held core = by_test (is_it (makes_core e.did) w.0) refl
  where
    by_test : (b : Bool) → is_it (makes_core e.did) w.0 ≡ b → is_core h w.0 ≡ true
    by_test true is =
        let fits : fits_row (place h t) (slot_row h w.0) ≡ true = (sound t w.0).staged (ap slot_of held) in
        absurd (false≢true (sym (ap (fits_row (place h t)) (core_free c h e.did w.0 given is)) ∙ fits))
    by_test false is = core_was e h w.0 is core

-- a task that an entry does not name owes no more after it
pub other_task : (c : Config) (e : Entry) (h : List Entry) → Given c h e.did → IsSound h → lowers (rank h) e.did ≡ true → (t : ℕ) → is_it (names e.did) t ≡ false → task_due (e ∷ h) t ≤ task_due h t
other_task c e h given sound low t other =
    other_row (is_core h) (is_core (e ∷ h)) e.did t (task_row h t) (unmoved (rank h) e.did t low other) (unseconded (rank h) e.did t low other)
    (λ w held. core_stays c e h given sound t w held)

-- Slots

-- the slot that an entry turns, frees or gives a task, and beside it the slot that is reserved in place of one that leaves
abbrev pub seats : Did → Option ℕ
seats (did.Look t (looked.Reserve w)) = Some w.0
seats (did.Offer t (offered.Hand w)) = Some w.0
seats (did.Second t (seconded.StayReserve w)) = Some w.0
seats (did.Grow t (grown.Reserve w)) = Some w.0
seats (did.Open w o) = Some w.0
seats (did.Fail w f) = Some w.0
seats (did.Take w k) = Some w.0
seats (did.Begin w b) = Some w.0
seats (did.End w t o) = Some w.0
seats (did.Leave w o) = Some w.0
seats _ = None

abbrev pub replaces : Did → Option ℕ
replaces (did.Leave v (Some w)) = if w.0 == v.0 then None else Some w.0
replaces _ = None

-- an entry that says nothing of slot w: it stays as it was, but for one that wakes
abbrev IsUnsaid : List Entry → Did → ℕ → Type 0
IsUnsaid h d w = (said_of w (holds d) ≡ None) × (said_of w (turned (now h) (is_plain_fault d (kind h)) d) ≡ None) × (said_of w (seated d) ≡ None)

-- an entry says nothing of another slot
unsaid : (h : List Entry) (d : Did) (w : ℕ) → lowers (rank h) d ≡ true → is_it (seats d) w ≡ false → is_it (replaces d) w ≡ false → IsUnsaid h d w
unsaid h d w low other another = (grind (arith, nat_tests), grind (arith, nat_tests), grind (arith, nat_tests))

-- a slot owes no more at a greater rank
later_stage : (n m : ℕ) (b : Bool) (g : Stage) → n ≤ m → stage_weight m b g ≤ stage_weight n b g
later_stage n m b g later = grind (arith, nat_tests)

-- nor one that wakes, which has no task
woken_idle : (n m : ℕ) (g : Stage) (o : Option TaskId) → 1 ≤ m → n ≤ m → suits g o ≡ true → stage_weight m (is_some o) (woken_stage g) ≤ stage_weight n (is_some o) g
woken_idle n m (stages.Idle k) None above later suited = grind (arith, nat_tests)
woken_idle n m _ o above later suited = grind (arith, nat_tests)

-- no slot owes more after it wakes, or at the rank that an entry reaches
woken_weight : (d : Did) (n : ℕ) (g : Stage) (o : Option TaskId) → suits g o ≡ true → stage_weight (max (reaches d) n) (is_some o) (woken d g) ≤ stage_weight n (is_some o) g
woken_weight did.Shutdown n g o suited = woken_idle n (max 1 n) g o (omega arith) (omega arith) suited
woken_weight _ n g o suited = grind (arith, nat_tests)

-- a slot that an entry does not name owes no more after it
pub other_slot : (e : Entry) (h : List Entry) → IsSound h → lowers (rank h) e.did ≡ true → (w : ℕ) → is_it (seats e.did) w ≡ false → is_it (replaces e.did) w ≡ false → slot_due (e ∷ h) w ≤ slot_due h w
other_slot e h sound low w other another =
    let said = unsaid h e.did w low other another in
    rw (said.0, said.1, said.2) (by_slot (is_slot h w) (sound 0 w).suited)
  where
    by_slot : (b : Bool) → suits_row (cond b (Some (record { stage = stage h w; task = task_in h w })) None) ≡ true →
        slot_weight (max (reaches e.did) (rank h)) (cond b (Some (record { stage = woken e.did (stage h w); task = task_in h w })) None)
        ≤ slot_weight (rank h) (cond b (Some (record { stage = stage h w; task = task_in h w })) None)
    by_slot true suited = woken_weight e.did (rank h) (stage h w) (task_in h w) suited
    by_slot false suited = omega arith

-- What is owed

-- a sum rises by no more than its function does where it may rise
total_named : (f g : ℕ → ℕ) (o : Option ℕ) (n : ℕ) → reach o ≤ n → ((i : ℕ) → is_it o i ≡ false → g i ≤ f i) → total g n + at_named f o ≤ total f n + at_named g o
total_named f g None n below le = let e = total-le f g n (λ i within. le i refl) in omega arith
total_named f g (Some x) n below le = total-one f g n x (omega arith) (λ i other. le i (ne_eqb i x other))

-- the same, where it may rise at two places
total_both : (f g : ℕ → ℕ) (o p : Option ℕ) (n : ℕ) → reach o ≤ n → reach p ≤ n → ((x : ℕ) → o ≡ Some x → p ≡ Some x → ⊥) → ((i : ℕ) → is_it o i ≡ false → is_it p i ≡ false → g i ≤ f i) →
    total g n + (at_named f o + at_named f p) ≤ total f n + (at_named g o + at_named g p)
total_both f g None p n below_o below_p apart le = let e = total_named f g p n below_p (λ i other. le i refl other) in omega arith
total_both f g (Some x) None n below_o below_p apart le = let e = total_named f g (Some x) n below_o (λ i other. le i other refl) in omega arith
total_both f g (Some x) (Some y) n below_o below_p apart le =
    total-two f g n x y (omega arith) (omega arith) (λ same. apart x refl (ap (λ z. Some z) (sym same))) (λ i ne_x ne_y. le i (ne_eqb i x ne_x) (ne_eqb i y ne_y))

-- the slot that is reserved in place of one that leaves is counted once
replaces_apart : (d : Did) (w : ℕ) → seats d ≡ Some w → replaces d ≡ Some w → ⊥
replaces_apart d w at is = grind (arith, nat_tests)

-- what is owed at what an entry names, and by the pool
abbrev pub named_due : List Entry → Did → ℕ
named_due h d = at_named (task_due h) (names d) + (at_named (slot_due h) (seats d) + at_named (slot_due h) (replaces d)) + (4 - rank h)

-- what is owed falls where it falls at what the entry names
pub falls_named : (c : Config) (e : Entry) (h : List Entry) → Given c h e.did → IsSound h → lowers (rank h) e.did ≡ true →
    suc (named_due (e ∷ h) e.did) ≤ named_due h e.did → suc (due (state c (e ∷ h))) ≤ due (state c h)
falls_named c e h given sound low named =
    let m = submitted h + submitted (e ∷ h) + reach (names e.did) in
    let n = slot_bound h + slot_bound (e ∷ h) + reach (seats e.did) + reach (replaces e.did) in
    let before = due_totals c h m n sound (omega arith) (omega arith) in
    let after = due_totals c (e ∷ h) m n (sound_more c e h given sound) (omega arith) (omega arith) in
    let tasks = total_named (task_due h) (task_due (e ∷ h)) (names e.did) m (omega arith) (other_task c e h given sound low) in
    let slots = total_both (slot_due h) (slot_due (e ∷ h)) (seats e.did) (replaces e.did) n (omega arith) (omega arith) (replaces_apart e.did) (other_slot e h sound low) in
    omega (arith, before, after, tasks, slots, named)
