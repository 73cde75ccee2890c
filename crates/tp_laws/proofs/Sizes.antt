-- The slots stay within the maximum, and a bounded queue within its capacity.
use Rattle.std.proofs.Common.{◌≡◌, ℕ, suc, ◌+◌, ◌<◌, ◌≤◌, max, Bool, true, false, cond, List, [], ◌∷◌, length, Some, None, Option, refl, arith, sym, ap, ◌∙◌, subst, ◌⊎◌, inl, inr}
use mathlib.Core.Path.{ap₂}
use Rattle.std.specs.Prelude.{nat_le, nat_lt, unwrap_or, is_some, count_by, filter, option_to_list}
use Rattle.std.proofs.lemmas.Bool.{false≢true, cases_lt, le-leb, lt-leb}
use Rattle.std.proofs.lemmas.List.{length-append}
use Rattle.std.proofs.lemmas.List.Sums.{sum_by-le-sum_by}
use Rattle.std.proofs.lemmas.Bool.Decides.{nat_tests}
use Rattle.tp_types.specs.declared.configs.Config.{Config}
use Rattle.tp_types.specs.declared.configs.QueueKind.{QueueKind}
use Rattle.tp_types.specs.declared.configs.QueueKind.TheVariants.{Handoff, Unbounded, Bounded, Priority}
use Rattle.tp_types.specs.Config.{IsConfig}
use Rattle.tp_types.specs.Queues.{is_ranked}
use Rattle.tp_record.specs.declared.entries.Entry.{Entry}
use Rattle.tp_record.specs.declared.entries.Did.{Did}
use Rattle.tp_record.specs.declared.entries.Did.TheVariants as did
use Rattle.tp_record.specs.declared.entries.Looked.TheVariants as looked
use Rattle.tp_record.specs.declared.entries.Offered.TheVariants as offered
use Rattle.tp_record.specs.Lists.{count_from, join_line}
use Rattle.tp_record.specs.Effects.{reserves, frees, queues, sets_core, sets_maximum}
use Rattle.tp_record.specs.declared.rows.Stage.{Stage}
use Rattle.tp_record.specs.declared.rows.SlotRow.{SlotRow}
use Rattle.tp_record.specs.Fields.{queue, priority, slot_bound, reach, is_slot, is_live, is_live_stage, slot_rows, largest}
use Rattle.tp_record.specs.State.{State, state, row_at, stays_queued}
use Rattle.tp_record.specs.Step.{slot_count, Legal}
use Rattle.tp_record.specs.Words.{reserved_by, slot_numbers, is_slot_now}
use Rattle.tp_laws.proofs.Model.Given.{Given, Told, HasQueueRoom}
use Rattle.tp_laws.proofs.Model.Arranged.{line-length}
use Rattle.tp_laws.proofs.Model.Told.{told_legal}
use Rattle.tp_laws.proofs.Model.NextState.{next_is_state}
use Rattle.tp_laws.proofs.WordsQueue.{queue_words}
use Rattle.tp_laws.proofs.WordsSlots.{slot_agrees}
use Rattle.tp_laws.specs.Laws.{HasGoodSizes, slots_now, SlotsWithinMaximum, IsWithin, QueueWithinCapacity}
use Rattle.tp_laws.proofs.Counting.{one, slot_count-more, slots_counted_below, count_same}

-- the settings that size the pool: the core is within the maximum, and the maximum is at least 1
abbrev pub Sized : ℕ → ℕ → Type 0
Sized core maximum = (core ≤ maximum) × (1 ≤ maximum)

sized_said : (c : Config) (h : List Entry) (d : Did) → Given c h d → Sized (state c h).core (state c h).maximum →
    Sized (unwrap_or (sets_core d) (state c h).core) (unwrap_or (sets_maximum d) (state c h).maximum)
sized_said c h (did.Core n k) given was = (given, was.1)
sized_said c h (did.Maximum n) given was = (given.2, given.0)
sized_said c h _ given was = was

pub sized : (c : Config) (h : List Entry) → Sized c.core c.maximum → Told c h → Sized (state c h).core (state c h).maximum
sized c [] sizes told = sizes
sized c (e ∷ h) sizes told = sized_said c h e.did told.0 (sized c h sizes told.1)

-- those of a pool's settings are good, at its recorder's limit too
pub sizes_at : (c : Config) (limit : ℕ) → IsConfig c → 64 ≤ limit → HasGoodSizes (record c { record_limit = limit })
sizes_at c limit config least = record { least_maximum = config.least_maximum; greatest_core = config.greatest_core; least_limit = least }

pub good_sizes : (c : Config) → IsConfig c → HasGoodSizes c
good_sizes c config = sizes_at c c.record_limit config config.least_limit

pub sized_by : (c : Config) → HasGoodSizes c → Sized c.core c.maximum
sized_by c sizes = (sizes.greatest_core, sizes.least_maximum)

-- an entry that reserves leaves at most as many slots as the maximum, m slots being those that it keeps
reserved_within : (c : Config) (h : List Entry) (d : Did) (m : ℕ) → Given c h d → Sized (state c h).core (state c h).maximum →
    m + one (is_some (frees d)) ≡ slot_count (state c h) → is_some (reserves d) ≡ true → m + 1 ≤ (state c h).maximum
reserved_within c h (did.Submit t k pr (looked.Reserve w)) m given sizes kept is = let room = given.1.1 in let low = sizes.0 in omega arith
reserved_within c h _ m given sizes kept is = grind (arith, nat_tests)

same_maximum : (d : Did) (n : ℕ) → is_some (reserves d) ≡ true → unwrap_or (sets_maximum d) n ≡ n
same_maximum d n is = grind arith

pub slots_within : (c : Config) (h : List Entry) (e : Entry) → Sized c.core c.maximum → Told c (e ∷ h) → is_some (reserves e.did) ≡ true → slot_count (state c (e ∷ h)) ≤ (state c (e ∷ h)).maximum
slots_within c h e sizes told is =
    let more = slot_count-more c e h told in
    let within : more.0 + 1 ≤ (state c h).maximum = reserved_within c h e.did more.0 told.0 (sized c h sizes told.1) more.2 is in
    let count : slot_count (state c (e ∷ h)) ≡ more.0 + one (is_some (reserves e.did)) = more.1 in
    let made : one (is_some (reserves e.did)) ≡ 1 = ap one is in
    let same : unwrap_or (sets_maximum e.did) (state c h).maximum ≡ (state c h).maximum = same_maximum e.did (state c h).maximum is in
    omega arith

-- no pool has more than 1,024 slots: the maximum is never greater

maximum_said : (c : Config) (h : List Entry) (d : Did) → Given c h d → (state c h).maximum ≤ 1024 → unwrap_or (sets_maximum d) (state c h).maximum ≤ 1024
maximum_said c h (did.Maximum n) given was = given.1
maximum_said c h _ given was = was

maximum_few : (c : Config) (h : List Entry) → c.maximum ≤ 1024 → Told c h → (state c h).maximum ≤ 1024
maximum_few c [] most told = most
maximum_few c (e ∷ h) most told = maximum_said c h e.did told.0 (maximum_few c h most told.1)

pub slots_few : (c : Config) (h : List Entry) → Sized c.core c.maximum → c.maximum ≤ 1024 → Told c h → slot_count (state c h) ≤ 1024
slots_few c [] sizes most told = omega arith
slots_few c (e ∷ h) sizes most told = by (slots_few c h sizes most told.1) (is_some (reserves e.did)) refl
  where
    by : slot_count (state c h) ≤ 1024 → (b : Bool) → is_some (reserves e.did) ≡ b → slot_count (state c (e ∷ h)) ≤ 1024
    by was true is =
        let within : slot_count (state c (e ∷ h)) ≤ (state c (e ∷ h)).maximum = slots_within c h e sizes told is in
        let few : (state c (e ∷ h)).maximum ≤ 1024 = maximum_few c (e ∷ h) most told in
        omega (arith, within, few)
    by was false is =
        let more = slot_count-more c e h told in
        let after : slot_count (state c (e ∷ h)) ≡ more.0 + one (is_some (reserves e.did)) = more.1 in
        let before : more.0 + one (is_some (frees e.did)) ≡ slot_count (state c h) = more.2 in
        let none : one (is_some (reserves e.did)) ≡ 0 = ap one is in
        omega (arith, was, after, before, none)

-- nor more live ones
live_slot : (o : Option SlotRow) → cond (is_live o) 1 0 ≤ cond (is_some o) 1 0
live_slot None = omega arith
live_slot (Some r) = elim (is_live_stage r.stage) as (λ b. cond b 1 0 ≤ 1) [ true ↦ omega arith | false ↦ omega arith ]

pub largest_few : (c : Config) (h : List Entry) → Sized c.core c.maximum → c.maximum ≤ 1024 → Told c h → largest h ≤ 1024
largest_few c [] sizes most told = omega arith
largest_few c (e ∷ h) sizes most told =
    let before = largest_few c h sizes most told.1 in
    let slots : count_by is_some (slot_rows (e ∷ h)) ≤ 1024 = slots_few c (e ∷ h) sizes most told in
    let lives : count_by is_live (slot_rows (e ∷ h)) ≤ count_by is_some (slot_rows (e ∷ h)) =
    sum_by-le-sum_by (λ o. cond (is_live o) 1 0) (λ o. cond (is_some o) 1 0) (slot_rows (e ∷ h)) live_slot in
    omega (arith, before, slots, lives)

-- a filter keeps at most what there is
filter_short : (p : ℕ → Bool) (xs : List ℕ) → length (filter p xs) ≤ length xs
filter_short p [] = omega arith
filter_short p (x ∷ xs) = by_test (p x) (filter_short p xs)
  where
    by_test : (b : Bool) → length (filter p xs) ≤ length xs → length (cond b (x ∷ filter p xs) (filter p xs)) ≤ suc (length xs)
    by_test true short = omega arith
    by_test false short = omega arith

queue_room : (c : Config) (h : List Entry) (d : Did) → Given c h d → is_some (queues d) ≡ true → HasQueueRoom c.queue (length (queue c h))
queue_room c h (did.Offer t offered.Queued) given is = given.1
queue_room c h _ given is = absurd (false≢true is)

within_more : (k : QueueKind) (n m : ℕ) (o : Option ℕ) → m ≤ n + length (option_to_list o) → (is_some o ≡ true → HasQueueRoom k n) → IsWithin k n → IsWithin k m
within_more Unbounded n m o short room was = tt
within_more Priority n m o short room was = tt
within_more Handoff n m None short room was = let e : n ≡ 0 = was in omega arith
within_more Handoff n m (Some u) short room was = absurd (room refl)
within_more (Bounded b) n m None short room was = let e : n ≤ b = was in omega arith
within_more (Bounded b) n m (Some u) short room was = let r : n < b = room refl in omega arith

-- those that are not behind k, and those that are
length_parts : (number : ℕ → ℕ) (k : ℕ) (xs : List ℕ) → length (filter (λ y. nat_le (number y) k) xs) + length (filter (λ y. nat_lt k (number y)) xs) ≡ length xs
length_parts number k [] = refl
length_parts number k (x ∷ xs) = by (cases_lt k (number x)) (length_parts number k xs)
  where
    by : (k < number x) ⊎ (number x ≤ k) → length (filter (λ y. nat_le (number y) k) xs) + length (filter (λ y. nat_lt k (number y)) xs) ≡ length xs →
        length (filter (λ y. nat_le (number y) k) (x ∷ xs)) + length (filter (λ y. nat_lt k (number y)) (x ∷ xs)) ≡ suc (length xs)
    by (inl more) rest = rw (lt-leb (number x) k more, le-leb (suc k) (number x) more) (omega (arith, rest))
    by (inr less) rest = rw (le-leb (number x) k less, lt-leb (suc k) (number x) (omega (arith, less))) (omega (arith, rest))

-- one more in a line
length_join : (b : Bool) (number : ℕ → ℕ) (o : Option ℕ) (xs : List ℕ) → length (join_line b number o xs) ≡ length xs + length (option_to_list o)
length_join b number None xs = omega arith
length_join true number (Some x) xs =
    let parts = length_parts number (number x) xs in
    let all = length-append (filter (λ y. nat_le (number y) (number x)) xs) (x ∷ filter (λ y. nat_lt (number x) (number y)) xs) in
    omega (arith, parts, all)
length_join false number (Some x) xs = length-append xs (x ∷ [])

queue_shorter : (c : Config) (e : Entry) (h : List Entry) → Legal c (e ∷ h) → length (queue c (e ∷ h)) ≤ length (queue c h) + length (option_to_list (queues e.did))
queue_shorter c e h legal =
    let rows = (state c h).tasks in
    let same = ap length (ap (λ (s : State). s.queue) (next_is_state c h e legal.1 legal.0)) in
    let long = length_join (is_ranked c.queue) (λ t. (row_at rows t).priority) (queues e.did) (filter (stays_queued e.did rows) (queue c h)) in
    let short = filter_short (stays_queued e.did rows) (queue c h) in
    omega (arith, same, long, short)

queue_within : (c : Config) (h : List Entry) → Legal c h → IsWithin c.queue (length (queue c h))
queue_within c [] legal = subst (IsWithin c.queue) (sym (line-length (is_ranked c.queue) (priority []) [])) (none c.queue)
  where
    none : (k : QueueKind) → IsWithin k 0
    none Handoff = refl
    none Unbounded = tt
    none Priority = tt
    none (Bounded b) = omega arith
queue_within c (e ∷ h) legal =
    within_more c.queue (length (queue c h)) (length (queue c (e ∷ h))) (queues e.did) (queue_shorter c e h legal) (queue_room c h e.did (told_legal c (e ∷ h) legal).0) (queue_within c h legal.1)

pub queue_within_capacity : (c : Config) (h : List Entry) → Legal c h → QueueWithinCapacity c h
queue_within_capacity c h legal = subst (IsWithin c.queue) (ap length (sym (queue_words c h (told_legal c h legal)))) (queue_within c h legal)

-- the number that an entry reserves, in words and by the tables
abbrev above : Option (ℕ × Stage) → ℕ
above None = 0
above (Some p) = suc p.0

above_reach : (d : Did) → above (reserved_by d) ≡ reach (reserves d)
above_reach d = grind arith

numbers_agree : (h : List Entry) → slot_numbers h ≡ slot_bound h
numbers_agree [] = refl
numbers_agree (e ∷ h) = ap₂ max (numbers_agree h) (above_reach e.did)

-- the slots in words are those that the state counts
pub slots_agree : (c : Config) (h : List Entry) → slots_now h ≡ slot_count (state c h)
slots_agree c h =
    ap (λ n. count_by (is_slot_now h) (count_from 0 n)) (numbers_agree h)
    ∙ count_same (is_slot_now h) (is_slot h) 0 (slot_bound h) (λ w from. slot_agrees h w)
    ∙ sym (slots_counted_below c h)

reserves_agrees : (d : Did) → is_some (reserved_by d) ≡ is_some (reserves d)
reserves_agrees d = grind arith

pub slots_within_maximum : (c : Config) (e : Entry) (h : List Entry) → HasGoodSizes c → Told c (e ∷ h) → SlotsWithinMaximum c e h
slots_within_maximum c e h sizes told is =
    let count : slots_now (e ∷ h) ≡ slot_count (state c (e ∷ h)) = slots_agree c (e ∷ h) in
    let within : slot_count (state c (e ∷ h)) ≤ (state c (e ∷ h)).maximum = slots_within c h e (sized_by c sizes) told (sym (reserves_agrees e.did) ∙ is) in
    omega arith
