-- A move leads to a situation in which a walk may be, and lowers the rank.
use Rattle.std.proofs.Common.{◌≡◌, ℕ, zero, suc, ◌==◌, ◌+◌, ◌-◌, ◌*◌, ◌<◌, ◌≤◌, ◌⊎◌, Bool, true, false, cond, List, [], ◌∷◌, ◌++◌, length, get_or, set, replicate, sum_by, Option, Some, None, Ok, Err, slice_get, refl, sym, ap, ◌∙◌, subst, inl, inr, arith}
use Rattle.std.specs.List.{Contains, flat_map}
use Rattle.std.proofs.lemmas.Bool.Decides.{nat_tests}
use Rattle.std.proofs.lemmas.List.{length-append, length-replicate}
use Rattle.std.proofs.lemmas.List.Elements.{Contains-append_cases}
use Rattle.std.proofs.lemmas.List.Sums.{sum_by-cons}
use Rattle.std.proofs.lemmas.Option.{slice_get_past}
use Rattle.tp_types.specs.declared.configs.Config.{Config}
use Rattle.tp_types.specs.declared.ids.SlotId.{SlotId}
use Rattle.tp_types.specs.declared.ids.TaskId.{TaskId}
use Rattle.tp_types.specs.declared.refusals.PoolError.TheVariants.{BookFull}
use Rattle.tp_record.specs.declared.entries.Entry.{Entry}
use Rattle.tp_record.specs.declared.entries.Ask.{Ask}
use Rattle.tp_record.specs.declared.entries.Ask.TheVariants as ask
use Rattle.tp_record.specs.declared.entries.Did.{Did}
use Rattle.tp_record.specs.declared.entries.Did.TheVariants as did
use Rattle.tp_record.specs.declared.entries.Opened.TheVariants as opened
use Rattle.tp_record.specs.declared.entries.Seconded.TheVariants as seconded
use Rattle.tp_record.specs.declared.rows.SlotRow.{SlotRow}
use Rattle.tp_record.specs.Effects.{reserves}
use Rattle.tp_record.specs.Lists.{long_enough}
use Rattle.tp_record.specs.State as states
use Rattle.tp_record.specs.Step.{Answer, Gives, fitting, of_row, leave_answer, leaves_room, within_room, step}
use Rattle.tp_laws.proofs.Model.Functions.{own_asked}
use Rattle.tp_laws.proofs.Model.NextState.{next_is_state}
use Rattle.tp_rules.specs.PlainState.{IsSmall, least_free}
use Rattle.tp_rules.proofs.Numbers.{gives_at_least, answer_at_gives}
use Rattle.tp_rules.proofs.Sizes.{rows_retries, length-task_rows, length-queue}
use Rattle.tp_rules.proofs.Tables.{length-change_each}
use Rattle.tp_explore.specs.declared.callers.Caller.{Caller}
use Rattle.tp_explore.specs.declared.callers.Doing.{Doing}
use Rattle.tp_explore.specs.declared.callers.Doing.TheVariants.{Nothing, Submitting, Starting, Staffing}
use Rattle.tp_explore.specs.declared.deeds.NextAsk.{NextAsk}
use Rattle.tp_explore.specs.declared.deeds.Mover.{Mover}
use Rattle.tp_explore.specs.declared.deeds.Mover.TheVariants as mover
use Rattle.tp_explore.specs.declared.plans.Call.{Call}
use Rattle.tp_explore.specs.declared.plans.Plan.{Plan}
use Rattle.tp_explore.specs.Situation.{Situation, bare, calls_of, goes_on}
use Rattle.tp_explore.proofs.Bare.{step_bare}
use Rattle.tp_explore.specs.Moves.{before, next_call, waited, moved_on, along, starting, begun, submitting, started, staffed, after, caller_asks, call_asks, call_at, first_call, deeds_by, callers_deeds, slots_deeds, slot_asks, deeds, new_slot, moved_on_at, given_up, refused_in, made_by, made, moves, owes, rank, Holds}

-- lists

within_flat : {A B : Type 0} (f : A → List B) (xs : List A) (y : B) → Contains (flat_map f xs) y → (x : A) × Contains xs x × Contains (f x) y
within_flat f [] y c = absurd (omega (arith, c.1))
within_flat f (x ∷ xs) y c = elim (Contains-append_cases (f x) (flat_map f xs) y c) as (λ _. (z : _) × Contains (x ∷ xs) z × Contains (f z) y) [
  | inl h ↦ (x, (0, omega arith, refl), h)
  | inr h ↦ let p = within_flat f xs y h in (p.0, (suc p.1.0, omega (arith, p.1.1), p.1.2), p.2)
]

pub one_of : {A : Type 0} (x y : A) → Contains (x ∷ []) y → x ≡ y
one_of x y c = let z : c.0 ≡ 0 = omega (arith, c.1) in rw z at c.2

get_or_any : {A : Type 0} (xs : List A) (k : ℕ) (d e : A) → k < length xs → get_or xs k d ≡ get_or xs k e
get_or_any [] k d e lt = absurd (omega arith)
get_or_any (x ∷ xs) zero d e lt = refl
get_or_any (x ∷ xs) (suc k) d e lt = get_or_any xs k d e (omega arith)

-- a step that is answered leaves room
room_left : (c : Config) (s : states.State) (x : Answer) (d : Did) → within_room c s x ≡ Ok d → (x ≡ Ok d) × (suc s.steps ≤ c.record_limit)
room_left c s (Err e) d is = cc
room_left c s (Ok f) d is = by_room (leaves_room c s f) refl is
  where
    by_room : (b : Bool) → leaves_room c s f ≡ b → ◌≡◌ {A = Answer} (cond b (Ok f) (Err BookFull)) (Ok d) → (◌≡◌ {A = Answer} (Ok f) (Ok d)) × (suc s.steps ≤ c.record_limit)
    by_room true room is = (is, (let p : suc s.steps + states.due (states.next s f) ≤ c.record_limit = grind (arith, nat_tests) in omega arith))
    by_room false room is = cc

-- and is one of a record
pub gives : (c : Config) (s : states.State) (a : Ask) (d : Did) → step c s (new_slot s a) a ≡ Ok d → Gives c s a d
gives c s a d = by_ask a
  where
    by_ask : (a : Ask) → step c s (new_slot s a) a ≡ Ok d → Gives c s a d
    by_ask (ask.Leave v) is = answer_at_gives c (Ok d) s v.0 (ask.Leave v) (inr refl) is
    by_ask a is = gives_at_least c s a d is

-- the table of slots grows by at most one

least_free-le : (slots : List (Option SlotRow)) → least_free slots ≤ length slots
least_free-le [] = omega arith
least_free-le (None ∷ slots) = omega arith
least_free-le (Some r ∷ slots) = omega (arith, least_free-le slots)

slot_known : (slots : List (Option SlotRow)) (w : ℕ) (r : SlotRow) → states.slot_at slots w ≡ Some r → w < length slots
slot_known [] w r e = cc
slot_known (o ∷ slots) zero r e = omega arith
slot_known (o ∷ slots) (suc w) r e = omega (arith, slot_known slots w r e)

new_slot-le : (c : Config) (s : states.State) (a : Ask) (d : Did) → fitting c s (new_slot s a) a ≡ Ok d → new_slot s a ≤ length s.slots
new_slot-le c s a d = by_ask a
  where
    by_row : (v : SlotId) (o : Option SlotRow) → states.slot_at s.slots v.0 ≡ o → of_row o (λ r. leave_answer s v.0 v r.stage) ≡ Ok d → v.0 ≤ length s.slots
    by_row v None e is = cc
    by_row v (Some r) e is = omega (arith, slot_known s.slots v.0 r e)

    by_ask : (a : Ask) → fitting c s (new_slot s a) a ≡ Ok d → new_slot s a ≤ length s.slots
    by_ask (ask.Leave v) is = by_row v (states.slot_at s.slots v.0) refl is
    by_ask _ is = least_free-le s.slots

length-long_enough : (u : ℕ) (slots : List (Option SlotRow)) → u ≤ length slots → length (long_enough (Some u) None slots) ≤ suc (length slots)
length-long_enough u slots le =
    let a = length-append slots (replicate (suc u - length slots) None) in
    let b = length-replicate {A = Option SlotRow} (suc u - length slots) None in
    omega arith

more_slots : (c : Config) (s : states.State) (a : Ask) (d : Did) → fitting c s (new_slot s a) a ≡ Ok d → length (states.next s d).slots ≤ suc (length s.slots)
more_slots c s a d is =
    let same = length-change_each (states.slot_after d s) 0 (long_enough (reserves d) None s.slots) in
    let long = by_reserved (reserves d) refl in
    omega arith
  where
    by_reserved : (o : Option ℕ) → reserves d ≡ o → length (long_enough o None s.slots) ≤ suc (length s.slots)
    by_reserved None e = omega arith
    by_reserved (Some u) e =
        let w : u ≡ new_slot s a = own_asked c s (new_slot s a) a u d is e in
        let le = new_slot-le c s a d is in
        length-long_enough u s.slots (omega arith)

-- what is owed by callers

waits_fewer : (s : Situation) (calls : List Call) (n : ℕ) → (waited s calls n).left ≤ n
waits_fewer s calls n = omega arith

moved_on_owes : (s : Situation) (calls : List Call) (c : Caller) → owes (moved_on s calls c) ≤ owes c
moved_on_owes s calls c = by_doing c.doing refl
  where
    by_doing : (d : Doing) → c.doing ≡ d → owes (moved_on s calls c) ≤ owes c
    by_doing Nothing e = rw e (let p = waits_fewer s calls c.left in omega arith)
    by_doing (Submitting t) e = rw e (omega arith)
    by_doing (Staffing w more) e = rw e (omega arith)
    by_doing (Starting more) e = rw e (by_test (length s.pool.queue == 0))
      where
        by_test : (b : Bool) → owes (cond b (waited s calls (c.left - 1)) (record c { doing = Starting more })) ≤ 2 * c.left + 1
        by_test true = let p = waits_fewer s calls (c.left - 1) in omega arith
        by_test false = omega arith

along_left : (s : states.State) (c : Caller) (t : TaskId) → (along s c t).left ≤ c.left
along_left s c t = by_test (goes_on s t.0)
  where
    by_test : (b : Bool) → (cond b (record c { doing = Submitting t }) (next_call c)).left ≤ c.left
    by_test true = omega arith
    by_test false = omega arith

starting_left : (c : Caller) (more : ℕ) → (starting c more).left ≤ c.left
starting_left c zero = omega arith
starting_left c (suc more) = omega arith

begun_left : (s : states.State) (c : Caller) (d : Did) → (begun s c d).left ≤ c.left
begun_left s c (did.Submit t k p l) = along_left s c t
begun_left s c (did.Core n more) = starting_left c more
begun_left s c _ = grind arith

submitting_left : (s : states.State) (c : Caller) (t : TaskId) (d : Did) → (submitting s c t d).left ≤ c.left
submitting_left s c t (did.Second u (seconded.StayReserve w)) = omega arith
submitting_left s c t _ = along_left s c t

started_left : (c : Caller) (more : ℕ) (d : Did) → (started c more d).left ≤ c.left
started_left c more d = grind arith

staffed_left : (c : Caller) (more : ℕ) (d : Did) → (staffed c more d).left ≤ c.left
staffed_left c more (did.Open w opened.Live) = starting_left c more
staffed_left c more _ = omega arith

after_left : (s : states.State) (c : Caller) (d : Did) → (after s c d).left ≤ c.left
after_left s c d = by_doing c.doing refl
  where
    by_doing : (x : Doing) → c.doing ≡ x → (after s c d).left ≤ c.left
    by_doing Nothing e = rw e (begun_left s c d)
    by_doing (Submitting t) e = rw e (submitting_left s c t d)
    by_doing (Starting more) e = rw e (started_left c (more - 1) d)
    by_doing (Staffing w more) e = rw e (staffed_left c more d)

owes_few : (c : Caller) → (owes c ≤ 2 * c.left + 1) × (2 * c.left ≤ owes c)
owes_few c = by_doing c.doing refl
  where
    by_doing : (x : Doing) → c.doing ≡ x → (owes c ≤ 2 * c.left + 1) × (2 * c.left ≤ owes c)
    by_doing Nothing e = rw e (omega arith, omega arith)
    by_doing (Submitting t) e = rw e (omega arith, omega arith)
    by_doing (Starting more) e = rw e (omega arith, omega arith)
    by_doing (Staffing w more) e = rw e (omega arith, omega arith)

-- after an answer a caller owes at most one more
after_owes : (s : states.State) (c : Caller) (d : Did) → owes (after s c d) ≤ suc (owes c)
after_owes s c d =
    let a = owes_few (after s c d) in
    let b = owes_few c in
    let l = after_left s c d in
    omega (arith, a.0, b.1, l)

sum-set : (i : ℕ) (x : Caller) (cs : List Caller) (more : ℕ) → (i < length cs → owes x ≤ more + owes (get_or cs i x)) → sum_by owes (set cs i x) ≤ more + sum_by owes cs
sum-set i x [] more h = omega arith
sum-set zero x (c ∷ cs) more h =
    let a = sum_by-cons owes x cs in
    let b = sum_by-cons owes c cs in
    let k = h (omega arith) in
    omega arith
sum-set (suc i) x (c ∷ cs) more h =
    let a = sum_by-cons owes c (set cs i x) in
    let b = sum_by-cons owes c cs in
    let k = sum-set i x cs more (λ lt. h (omega arith)) in
    omega arith

sum-less : (i : ℕ) (x : Caller) (cs : List Caller) → i < length cs → suc (owes x) ≤ owes (get_or cs i x) → suc (sum_by owes (set cs i x)) ≤ sum_by owes cs
sum-less i x [] lt less = absurd (omega arith)
sum-less zero x (c ∷ cs) lt less =
    let a = sum_by-cons owes x cs in
    let b = sum_by-cons owes c cs in
    omega arith
sum-less (suc i) x (c ∷ cs) lt less =
    let a = sum_by-cons owes c (set cs i x) in
    let b = sum_by-cons owes c cs in
    let k = sum-less i x cs (omega arith) less in
    omega arith

-- whom a deed is by

by_of : (m : Mover) (asks : List Ask) (d : NextAsk) → Contains (deeds_by m asks) d → (d.by ≡ m) × Contains asks d.ask
by_of m [] d c = absurd (omega (arith, c.1))
by_of m (a ∷ asks) d c = elim (Contains-append_cases (record { by = m; ask = a } ∷ []) (deeds_by m asks) d c) as (λ _. (d.by ≡ m) × Contains (a ∷ asks) d.ask) [
  | inl h ↦ let e = one_of _ d h in (ap (λ z. z.by) (sym e), (0, omega arith, ap (λ z. z.ask) e))
  | inr h ↦ let p = by_of m asks d h in (p.0, (suc p.1.0, omega (arith, p.1.1), p.1.2))
]

callers_deed : (plan : Plan) (s : Situation) (k : ℕ) (cs : List Caller) (d : NextAsk) → Contains (callers_deeds plan s k cs) d →
    (j : ℕ) × (j < length cs) × (d.by ≡ mover.Caller (k + j)) × ((e : Caller) → Contains (caller_asks plan s (calls_of plan (k + j)) (moved_on s (calls_of plan (k + j)) (get_or cs j e))) d.ask)
callers_deed plan s k [] d c = absurd (omega (arith, c.1))
callers_deed plan s k (x ∷ cs) d c =
    let asks = caller_asks plan s (calls_of plan k) (moved_on s (calls_of plan k) x) in
    let zero_more : k + 0 ≡ k = omega arith in
    elim (Contains-append_cases (deeds_by (mover.Caller k) asks) (callers_deeds plan s (suc k) cs) d c)
    as (λ _. (j : ℕ) × (j < length (x ∷ cs)) × (d.by ≡ mover.Caller (k + j)) × ((e : Caller) → Contains (caller_asks plan s (calls_of plan (k + j)) (moved_on s (calls_of plan (k + j)) (get_or (x ∷ cs) j e))) d.ask)) [
      | inl h ↦ let p = by_of (mover.Caller k) asks d h in (0, omega arith, rw zero_more p.0, λ e. rw zero_more p.1)
      | inr h ↦
          let p = callers_deed plan s (suc k) cs d h in
          let n : suc k + p.0 ≡ k + suc p.0 = omega arith in
          (suc p.0, omega (arith, p.1), rw n at p.2, rw n at p.3)
    ]

slots_deed : (plan : Plan) (s : Situation) (w : ℕ) (os : List (Option SlotRow)) (d : NextAsk) → Contains (slots_deeds plan s w os) d → d.by ≡ mover.Pool
slots_deed plan s w [] d c = absurd (omega (arith, c.1))
slots_deed plan s w (o ∷ os) d c = elim (Contains-append_cases (deeds_by mover.Pool (slot_asks plan s w o)) (slots_deeds plan s (suc w) os) d c) as (λ _. d.by ≡ mover.Pool) [
  | inl h ↦ (by_of mover.Pool (slot_asks plan s w o) d h).0
  | inr h ↦ slots_deed plan s (suc w) os d h
]

-- a deed by a caller is one of its asks
deed_of : (plan : Plan) (s : Situation) (d : NextAsk) (i : ℕ) → Contains (deeds plan s) d → d.by ≡ mover.Caller i →
    (i < length s.callers) × Contains (caller_asks plan s (calls_of plan i) (moved_on_at plan s i)) d.ask
deed_of plan s d i c by = elim (Contains-append_cases (callers_deeds plan s 0 s.callers ++ slots_deeds plan s 0 s.pool.slots) (deeds_by mover.Pool (ask.Tidy ∷ ask.Ended ∷ [])) d c)
    as (λ _. (i < length s.callers) × Contains (caller_asks plan s (calls_of plan i) (moved_on_at plan s i)) d.ask) [
      | inl h ↦ by_front (Contains-append_cases (callers_deeds plan s 0 s.callers) (slots_deeds plan s 0 s.pool.slots) d h)
      | inr h ↦ absurd (never (by_of mover.Pool (ask.Tidy ∷ ask.Ended ∷ []) d h).0)
    ]
  where
    never : d.by ≡ mover.Pool → ⊥
    never pool = let e : mover.Pool ≡ mover.Caller i = sym pool ∙ by in cc

    by_front : Contains (callers_deeds plan s 0 s.callers) d ⊎ Contains (slots_deeds plan s 0 s.pool.slots) d → (i < length s.callers) × Contains (caller_asks plan s (calls_of plan i) (moved_on_at plan s i)) d.ask
    by_front (inl h) =
        let p = callers_deed plan s 0 s.callers d h in
        let n : 0 + p.0 ≡ p.0 = omega arith in
        let same : i ≡ p.0 = let e : mover.Caller i ≡ mover.Caller p.0 = sym by ∙ (rw n at p.2) in cc in
        (omega (arith, p.1, same), rw same (rw n at (p.3 (before 0))))
    by_front (inr h) = absurd (never (slots_deed plan s 0 s.pool.slots d h))

-- a call that is refused lowers what its caller owes

no_call : (calls : List Call) (n : ℕ) → length calls ≤ n → slice_get calls n ≡ None
no_call calls n le = slice_get_past calls n le

given_up_owes : (plan : Plan) (s : Situation) (calls : List Call) (c : Caller) (a : Ask) → Contains (caller_asks plan s calls (moved_on s calls c)) a → (x : Doing) → (moved_on s calls c).doing ≡ x →
    (y : Situation) (i : ℕ) → Contains (refused_in s i (moved_on s calls c) x) y → (y ≡ given_up s i (moved_on s calls c)) × (suc (owes (next_call (moved_on s calls c))) ≤ owes c)
given_up_owes plan s calls c a asks Nothing e y i r =
    let z = moved_on_owes s calls c in
    let o : owes (moved_on s calls c) ≡ 2 * (moved_on s calls c).left = rw e (omega arith) in
    let some = some_left (moved_on s calls c).left (rw e at asks) in
    (sym (one_of _ y r), omega arith)
  where
    some_left : (n : ℕ) → Contains (first_call (call_at calls n) (call_asks plan s)) a → 0 < n
    some_left zero k =
        let none : call_at calls 0 ≡ None = no_call calls (length calls - 0) (omega arith) in
        absurd (let bare = rw none at k in omega (arith, bare.1))
    some_left (suc n) k = omega arith
given_up_owes plan s calls c a asks (Starting more) e y i r =
    let z = moved_on_owes s calls c in
    let o : owes (moved_on s calls c) ≡ 2 * (moved_on s calls c).left + 1 = rw e refl in
    (sym (one_of _ y r), omega arith)
given_up_owes plan s calls c a asks (Submitting t) e y i r = absurd (omega (arith, r.1))
given_up_owes plan s calls c a asks (Staffing w more) e y i r = absurd (omega (arith, r.1))

-- a move

fewer_steps : (limit steps a b : ℕ) → suc steps ≤ limit → a ≤ suc b → 2 * (limit - suc steps) + a < 2 * (limit - steps) + b
fewer_steps limit steps a b le more = omega arith

module _ (plan : Plan) (s : Situation) (h : Holds plan s) where
  answered : (a : Ask) (d : Did) → step plan.config s.pool (new_slot s.pool a) a ≡ Ok d → step plan.config (states.state plan.config h.history) (new_slot (states.state plan.config h.history) a) a ≡ Ok d
  answered a d is =
      let st = states.state plan.config h.history in
      let at : step plan.config (bare st) (new_slot (bare st) a) a ≡ Ok d = subst (λ p. step plan.config p (new_slot p a) a ≡ Ok d) h.stands is in
      sym (step_bare plan.config st (new_slot st a) a) ∙ at

  -- what is so of the situation after an entry, however its callers are
  entered : (a : Ask) (d : Did) → step plan.config s.pool (new_slot s.pool a) a ≡ Ok d → (cs : List Caller) (js : List (Option TaskId)) → sum_by owes cs ≤ suc (sum_by owes s.callers) →
      (y : Situation) → y ≡ record { pool = bare (states.next s.pool d); callers = cs; numbers = js } → Holds plan y × (rank plan y < rank plan s)
  entered a d is cs js few y same =
      let st = states.state plan.config h.history in
      let c = plan.config in
      let e : Entry = record { by = 0; ask = a; did = d } in
      let given = gives c st a d (answered a d is) in
      let room = room_left c s.pool (fitting c s.pool (new_slot s.pool a) a) d is in
      let more = more_slots c s.pool a d room.0 in
      let to : Situation = record { pool = bare (states.next s.pool d); callers = cs; numbers = js } in
      let lower : rank plan to < rank plan s = fewer_steps c.record_limit s.pool.steps (sum_by owes cs) (sum_by owes s.callers) room.1 few in
      let stands : bare (states.next s.pool d) ≡ bare (states.state c (e ∷ h.history)) =
      ap (λ p. bare (states.next p d)) h.stands ∙ ap bare (sym (next_is_state c h.history e h.legal given)) in
      let old_slots = h.slots in
      let old_bound = h.bounded in
      let holds : Holds plan to = record {
        history = e ∷ h.history;
        legal = (given, h.legal);
        stands = stands;
        limit = h.limit;
        steps = room.1;
        slots = omega arith;
        bounded = omega arith;
      } in
      subst (λ z. Holds plan z × (rank plan z < rank plan s)) (sym same) (holds, lower)

  -- what is so of the situation after a call was given up
  given_up_to : (i : ℕ) (c : Caller) → i < length s.callers → suc (owes c) ≤ owes (get_or s.callers i c) → (y : Situation) → y ≡ record s { callers = set s.callers i c } → Holds plan y × (rank plan y < rank plan s)
  given_up_to i c lt less y same =
      let few = sum-less i c s.callers lt less in
      let to : Situation = record s { callers = set s.callers i c } in
      let lower : rank plan to < rank plan s = omega arith in
      let old = h.bounded in
      let holds : Holds plan to = record {
        history = h.history;
        legal = h.legal;
        stands = h.stands;
        limit = h.limit;
        steps = h.steps;
        slots = h.slots;
        bounded = omega arith;
      } in
      subst (λ z. Holds plan z × (rank plan z < rank plan s)) (sym same) (holds, lower)

module _ (plan : Plan) (s : Situation) (h : Holds plan s) (y : Situation) where
  by_answer : (d : NextAsk) → Contains (deeds plan s) d → (x : Answer) → step plan.config s.pool (new_slot s.pool d.ask) d.ask ≡ x → (m : Mover) → d.by ≡ m → Contains (made_by plan s m x) y →
      Holds plan y × (rank plan y < rank plan s)
  by_answer d c (Ok a) is mover.Pool by r = entered plan s h d.ask a is s.callers s.numbers (omega arith) y (sym (one_of _ y r))
  by_answer d c (Ok a) is (mover.Caller i) by r =
      let caller = after (states.next s.pool a) (moved_on_at plan s i) a in
      let few : sum_by owes (set s.callers i caller) ≤ 1 + sum_by owes s.callers = sum-set i caller s.callers 1 (λ lt.
      let p = after_owes (states.next s.pool a) (moved_on_at plan s i) a in
      let q = moved_on_owes s (calls_of plan i) (get_or s.callers i (before 0)) in
      let same : get_or s.callers i (before 0) ≡ get_or s.callers i caller = get_or_any s.callers i (before 0) caller lt in
      let k = ap owes same in
      omega arith) in
      entered plan s h d.ask a is _ _ (omega arith) y (sym (one_of _ y r))
  by_answer d c (Err e) is mover.Pool by r = absurd (omega (arith, r.1))
  by_answer d c (Err e) is (mover.Caller i) by r =
      let p = deed_of plan s d i c by in
      let q = given_up_owes plan s (calls_of plan i) (get_or s.callers i (before 0)) d.ask p.1 (moved_on_at plan s i).doing refl y i r in
      let same : get_or s.callers i (before 0) ≡ get_or s.callers i (next_call (moved_on_at plan s i)) = get_or_any s.callers i (before 0) _ p.0 in
      let k = ap owes same in
      given_up_to plan s h i (next_call (moved_on_at plan s i)) p.0 (let l = q.1 in omega arith) y q.0

both : (plan : Plan) (x y : Situation) → Holds plan x → Contains (moves plan x) y → Holds plan y × (rank plan y < rank plan x)
both plan x y h c =
    let p = within_flat (made plan x) (deeds plan x) y c in
    by_answer plan x h y p.0 p.1 _ refl p.0.by refl p.2

pub stays_in : (plan : Plan) (x y : Situation) → Holds plan x → Contains (moves plan x) y → Holds plan y
stays_in plan x y h c = (both plan x y h c).0

pub lowers_rank : (plan : Plan) (x y : Situation) → Holds plan x → Contains (moves plan x) y → rank plan y < rank plan x
lowers_rank plan x y h c = (both plan x y h c).1

-- the pool of such a situation is small

pub is_small : (plan : Plan) (s : Situation) → Holds plan s → IsSmall 1048576 s.pool
is_small plan s h =
    let c = plan.config in
    let few : length h.history ≤ 1048576 = let e = ap (λ p. p.steps) h.stands in let a = h.steps in let b = h.limit in omega arith in
    let old = h.slots in
    let steps = h.steps in
    let limit = h.limit in
    let tasks = length-task_rows h.history in
    let queue = length-queue c h.history in
    subst (λ p. IsSmall 1048576 p) (sym h.stands) (record {
      steps = few;
      tasks = omega arith;
      retries = λ t. let r = rows_retries h.history t in omega arith;
      queue = omega arith;
      slots = let e = ap (λ p. length p.slots) h.stands in omega arith;
      completions = omega arith;
    })
