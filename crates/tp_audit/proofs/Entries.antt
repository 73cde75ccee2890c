-- What an entry that changes what it names alone makes of the tables.
use Rattle.std.proofs.Common.{◌≡◌, ℕ, suc, ◌+◌, ◌-◌, ◌<◌, ◌≤◌, Bool, true, false, cond, List, [], ◌∷◌, ◌++◌, length, get_or, set, replicate, Option, Some, None, refl, arith, sym, ap, ap₂, ◌∙◌, inl, inr}
use Rattle.std.specs.Prelude.{◌==◌, nat_le, nat_lt, filter, max, count_by, is_some, unwrap_or, option_to_list}
use Rattle.std.proofs.lemmas.Bool.{cases_lt, cases_eq, eq-eqb, ne_eqb, or_cases, false≢true}
use Rattle.std.proofs.lemmas.Bool.Decides.{nat_tests}
use Rattle.std.proofs.lemmas.List.{append-nil, get_or_past, get_or-set_same, get_or-set_other, set_past, length-append, length-replicate}
use Rattle.std.proofs.lemmas.List.Elements.{filter-append}
use Rattle.std.proofs.lemmas.Option.{none-some}
use Rattle.tp_types.specs.declared.tasks.Place.TheVariants as at
use Rattle.tp_record.specs.declared.entries.Did.{Did}
use Rattle.tp_record.specs.declared.rows.TaskRow.{TaskRow}
use Rattle.tp_record.specs.declared.rows.SlotRow.{SlotRow}
use Rattle.tp_record.specs.Lists.{said_of, is_it, without, join_line, change_each, long_enough, is_among}
use Rattle.tp_record.specs.Effects.{queues, idles, cancels, tries, reserves, frees, one_said}
use Rattle.tp_record.specs.Fields.{is_queued_place, is_idle_row, is_live, swept, counted}
use Rattle.tp_record.specs.State.{State, next, row_at, slot_at, no_row, no_seat, row_after, seat_after, seat_by, slot_after, slots_after, stays_queued, stays_idle}
use Rattle.tp_laws.proofs.Model.Queues.{among-append, Contains-from_among}
use Rattle.tp_laws.proofs.Model.Arranged.{filter-swap}
use Rattle.tp_laws.proofs.Model.NextState.{idle_left}
use Rattle.tp_laws.proofs.Effects.Names.{is_wide, names, drops, seats, replaces, other_row, other_slot, place_unsaid, not_swept}
use Rattle.tp_audit.specs.Changed.{change_at, leave_out}
use Rattle.tp_audit.specs.Named.{unless, turns, if_awake, wakes, take_out}
use Rattle.tp_audit.specs.Tables.{undone, grown, applied, Suits}
use Rattle.tp_audit.proofs.Tabled.{count_set, count_long}
use Rattle.tp_audit.proofs.Changing.{change_each-two, filter-two}

-- Tasks

-- the named tasks change, one after the other
pub tasks_two : (d : Did) (rows mid last : List TaskRow) (o p : Option ℕ) → is_wide d ≡ false → ((t : ℕ) → is_it (names d) t ≡ true → is_it (drops d) t ≡ false) →
    o ≡ names d → p ≡ drops d → mid ≡ change_at (row_after d) no_row o rows → last ≡ change_at (row_after d) no_row p mid → last ≡ change_each (row_after d) 0 rows
tasks_two d rows mid last o p narrow apart one two first second =
    second ∙ ap (change_at (row_after d) no_row p) first
    ∙ ap (λ x. change_at (row_after d) no_row p (change_at (row_after d) no_row x rows)) one
    ∙ ap (λ x. change_at (row_after d) no_row x (change_at (row_after d) no_row (names d) rows)) two
    ∙ sym (change_each-two (row_after d) no_row (names d) (drops d) rows apart (λ i r off out. other_row d i r narrow off out))

-- The queue

other_stays : (d : Did) (rows : List TaskRow) (t : ℕ) → is_wide d ≡ false → is_it (names d) t ≡ false → is_it (drops d) t ≡ false → stays_queued d rows t ≡ true
other_stays d rows t narrow one two =
    ap (λ o. is_queued_place (unwrap_or o (swept d (row_at rows t).cancelled at.Queued))) (place_unsaid d t (narrow, one, two))
    ∙ ap is_queued_place (not_swept d (row_at rows t).cancelled at.Queued narrow)

-- the named tasks leave the queue, unless the entry leaves them there
pub queue_two : (d : Did) (rows : List TaskRow) (xs mid last : List ℕ) (o p : Option ℕ) → is_wide d ≡ false → o ≡ names d → p ≡ drops d →
    mid ≡ leave_out (stays_queued d rows) o xs → last ≡ leave_out (stays_queued d rows) p mid → last ≡ filter (stays_queued d rows) xs
queue_two d rows xs mid last o p narrow one two first second =
    second ∙ ap (leave_out (stays_queued d rows) p) first
    ∙ ap (λ x. leave_out (stays_queued d rows) p (leave_out (stays_queued d rows) x xs)) one
    ∙ ap (λ x. leave_out (stays_queued d rows) x (leave_out (stays_queued d rows) (names d) xs)) two
    ∙ sym (filter-two (stays_queued d rows) (names d) (drops d) xs (λ t there off out. other_stays d rows t narrow off out))

-- Slots

-- a number that is no slot, and is not reserved, stays none
pub unmade : (d : Did) (s : State) (w : ℕ) → is_it (reserves d) w ≡ false → slot_after d s w None ≡ None
unmade d s w off = by_names (reserves d) (frees d) off
  where
    by_names : (o p : Option ℕ) → is_it o w ≡ false → seat_by (said_of w (one_said o true ++ one_said p false)) (seat_after d s w no_seat) (seat_after d s w) None ≡ None
    by_names None None off = refl
    by_names None (Some v) off = elim (cases_eq w v) [ inl same ↦ rw (eq-eqb w v same) refl | inr other ↦ rw (ne_eqb w v other) refl ]
    by_names (Some u) None off = rw off refl
    by_names (Some u) (Some v) off = rw off (elim (cases_eq w v) [ inl same ↦ rw (eq-eqb w v same) refl | inr other ↦ rw (ne_eqb w v other) refl ])

-- a row put at a slot's number
pub put_there : (xs : List (Option SlotRow)) (w : ℕ) (r : SlotRow) (o : Option SlotRow) → slot_at xs w ≡ Some r → set (long_enough (Some w) None xs) w o ≡ set xs w o
put_there xs w r o is = elim (cases_lt w (length xs)) [
  | inl within ↦
      let none : suc w - length xs ≡ 0 = omega (arith, within) in
      ap (λ ys. set ys w o) (ap (λ n. xs ++ replicate n None) none ∙ append-nil xs)
  | inr past ↦ absurd (none-some r (sym (get_or_past xs w None past) ∙ is))
]

-- a slot that has a row after the entry, and is not reserved, was a slot
pub was_slot : (d : Did) (s : State) (w : ℕ) (o p : Option SlotRow) (r : SlotRow) → is_it (reserves d) w ≡ false → p ≡ slot_after d s w o → p ≡ Some r → o ≡ None → ⊥
was_slot d s w o p r off after is none = none-some r (sym (unmade d s w off) ∙ ap (slot_after d s w) (sym none) ∙ sym after ∙ is)

pub turned_there : (d : Did) (s : State) (xs new : List (Option SlotRow)) (w : ℕ) (o p : Option SlotRow) (r : SlotRow) → is_it (reserves d) w ≡ false →
    o ≡ slot_at xs w → p ≡ slot_after d s w o → p ≡ Some r → new ≡ set (long_enough (Some w) None xs) w (Some r) → new ≡ set xs w (slot_after d s w (slot_at xs w))
turned_there d s xs new w None p r off at after is to = absurd (was_slot d s w None p r off after is refl)
turned_there d s xs new w (Some q) p r off at after is to =
    to ∙ put_there xs w q (Some r) (sym at) ∙ ap (set xs w) (sym is ∙ after ∙ ap (slot_after d s w) at)

unless_apart : (o p : Option ℕ) (i : ℕ) → is_it o i ≡ true → is_it (unless o p) i ≡ false
unless_apart o None i on = refl
unless_apart o (Some w) i on = elim (cases_eq i w) [
  | inl same ↦ rw (ap (is_it o) (sym same) ∙ on) refl
  | inr other ↦ by_test (is_it o w) other
]
  where
    by_test : (b : Bool) → (i ≡ w → ⊥) → is_it (cond b None (Some w)) i ≡ false
    by_test true other = refl
    by_test false other = ne_eqb i w other

unless_off : (o p : Option ℕ) (i : ℕ) → is_it o i ≡ false → is_it (unless o p) i ≡ false → is_it p i ≡ false
unless_off o None i off out = refl
unless_off o (Some w) i off out = elim (cases_eq i w) [
  | inl same ↦ rw (ap (is_it o) (sym same) ∙ off) at out
  | inr other ↦ ne_eqb i w other
]

replaces_reserved : (d : Did) (i : ℕ) → is_it (reserves d) i ≡ false → is_it (replaces d) i ≡ false
replaces_reserved d i off = grind (arith, nat_tests)

untouched : (d : Did) (s : State) (i : ℕ) (o : Option SlotRow) → is_wide d ≡ false → is_it (reserves d) i ≡ false → is_it (turns d) i ≡ false → slot_after d s i o ≡ o
untouched d s i o narrow off out = other_slot d s i o narrow (unless_off (reserves d) (seats d) i off out) (replaces_reserved d i off)

-- the reserved slot is made, and the named one turned
pub slots_two : (d : Did) (s : State) → is_wide d ≡ false →
    slots_after d s ≡ change_at (slot_after d s) None (turns d) (change_at (slot_after d s) None (reserves d) (long_enough (reserves d) None s.slots))
slots_two d s narrow =
    change_each-two (slot_after d s) None (reserves d) (turns d) (long_enough (reserves d) None s.slots)
    (unless_apart (reserves d) (seats d)) (λ i o off out. untouched d s i o narrow off out)

-- The order of idling

made_awake : (d : Did) (s : State) (w : ℕ) → reserves d ≡ Some w → stays_idle d s w ≡ false
made_awake d s w is = grind (arith, nat_tests)

-- the reserved slot and the woken one leave the order of idling
pub idling_two : (d : Did) (s : State) (xs : List ℕ) → is_wide d ≡ false → ((w : ℕ) → is_among w xs ≡ true → is_it (turns d) w ≡ false → is_idle_row (slot_at s.slots w) ≡ true) →
    filter (stays_idle d s) xs ≡ take_out (wakes d s) (take_out (reserves d) xs)
idling_two d s xs narrow idle =
    filter-two (stays_idle d s) (reserves d) (turns d) xs
    (λ w there off out. ap is_idle_row (untouched d s w (slot_at s.slots w) narrow off out) ∙ idle w there out)
    ∙ ap (leave_out (stays_idle d s) (turns d)) (reserved (reserves d) (made_awake d s))
    ∙ turned (turns d) (take_out (reserves d) xs)
  where
    reserved : (o : Option ℕ) → ((w : ℕ) → o ≡ Some w → stays_idle d s w ≡ false) → leave_out (stays_idle d s) o xs ≡ take_out o xs
    reserved None awake = refl
    reserved (Some w) awake = rw (awake w refl) refl

    turned : (o : Option ℕ) (ys : List ℕ) → leave_out (stays_idle d s) o ys ≡ take_out (if_awake d s o) ys
    turned None ys = refl
    turned (Some w) ys = by_test (stays_idle d s w)
      where
        by_test : (b : Bool) → cond b ys (without w ys) ≡ take_out (cond b None (Some w)) ys
        by_test true = refl
        by_test false = refl

-- All tables

queued_stays : (d : Did) (rows : List TaskRow) (t : ℕ) → queues d ≡ Some t → stays_queued d rows t ≡ true
queued_stays d rows t is = grind (arith, nat_tests)

idled_turns : (d : Did) (w : ℕ) → is_it (idles d) w ≡ true → is_it (turns d) w ≡ true
idled_turns d w is = grind (arith, nat_tests)

-- what is put at a list's end passes the filter
filter-more : (p : ℕ → Bool) (o : Option ℕ) (xs : List ℕ) → ((x : ℕ) → o ≡ Some x → p x ≡ true) → filter p (xs ++ option_to_list o) ≡ filter p xs ++ option_to_list o
filter-more p None xs all = filter-append p xs []
filter-more p (Some x) xs all = filter-append p xs (x ∷ []) ∙ ap (λ b. filter p xs ++ cond b (x ∷ []) []) (all x refl)

-- what is put in a line passes the filter
filter-join : (p : ℕ → Bool) (b : Bool) (f : ℕ → ℕ) (o : Option ℕ) (xs : List ℕ) → ((x : ℕ) → o ≡ Some x → p x ≡ true) → filter p (join_line b f o xs) ≡ join_line b f o (filter p xs)
filter-join p b f None xs all = refl
filter-join p false f (Some x) xs all = filter-more p (Some x) xs all
filter-join p true f (Some x) xs all =
    filter-append p (filter (λ y. nat_le (f y) (f x)) xs) (x ∷ filter (λ y. nat_lt (f x) (f y)) xs)
    ∙ rw (all x refl)
    (ap₂ (λ us vs. us ++ x ∷ vs) (filter-swap p (λ y. nat_le (f y) (f x)) xs) (filter-swap p (λ y. nat_lt (f x) (f y)) xs))

-- the tables' changes, one after the other, lead to the next state
pub named_next : (s : State) (d : Did) → is_wide d ≡ false → Suits s d → applied d (wakes d s) (grown d s) ≡ undone (next s d)
named_next s d narrow suits =
    let slots = sym (slots_two d s narrow) in
    let queue = filter-join (stays_queued d s.tasks) s.ranked (λ t. (row_at s.tasks t).priority) (queues d) s.queue (λ t is. queued_stays d s.tasks t is) in
    let idling = sym (idling_two d s (s.idling ++ option_to_list (idles d)) narrow idle) ∙ filter-more (stays_idle d s) (idles d) s.idling idled in
    λ i. record (undone (next s d)) {
      queue = queue i;
      slots = slots i;
      idling = idling i;
      largest = max (count_by is_live (slots i)) s.largest;
    }
  where
    idle : (w : ℕ) → is_among w (s.idling ++ option_to_list (idles d)) ≡ true → is_it (turns d) w ≡ false → is_idle_row (slot_at s.slots w) ≡ true
    idle w there off = elim (or_cases (is_among w s.idling) (is_among w (option_to_list (idles d))) (sym (among-append w s.idling (option_to_list (idles d))) ∙ there)) [
      | inl old ↦ suits.idle w (Contains-from_among s.idling w old)
      | inr new ↦ absurd (false≢true (sym off ∙ idled_turns d w (one (idles d) new)))
    ]
      where
        one : (o : Option ℕ) → is_among w (option_to_list o) ≡ true → is_it o w ≡ true
        one None is = is
        one (Some x) is = elim (or_cases (w == x) false is) [ inl e ↦ e | inr e ↦ absurd (false≢true e) ]

    idled : (w : ℕ) → idles d ≡ Some w → stays_idle d s w ≡ true
    idled w is =
        let slot = (suits.busy w is).1 in
        ap (λ o. is_idle_row (slot_after d s w o)) slot.1 ∙ idle_left d s w slot.0 is

-- one slot more is made at most
pub count_made : (d : Did) (s : State) (o : Option ℕ) (xs : List (Option SlotRow)) → count_by is_some (change_at (slot_after d s) None o (long_enough o None xs)) ≤ count_by is_some xs + 1
count_made d s None xs = omega arith
count_made d s (Some w) xs =
    let ys : List (Option SlotRow) = long_enough (Some w) None xs in
    let y = slot_after d s w (get_or ys w None) in
    let within : w < length ys = long in
    let e = count_set is_some refl ys w y within in
    let same = count_long is_some refl (Some w) xs in
    let one = at_most_one (is_some y) in
    omega (arith, e, same, one)
  where
    at_most_one : (b : Bool) → cond b 1 0 ≤ 1
    at_most_one true = omega arith
    at_most_one false = omega arith

    long : w < length (xs ++ replicate (suc w - length xs) None)
    long = let a = length-append xs (replicate {A = Option SlotRow} (suc w - length xs) None) in let b = length-replicate {A = Option SlotRow} (suc w - length xs) None in omega (arith, a, b)

-- a slot's new row makes no more slots
pub put_few : (xs new : List (Option SlotRow)) (w : ℕ) (o : Option SlotRow) (row : SlotRow) → o ≡ slot_at xs w → (o ≡ None → ⊥) → new ≡ set (long_enough (Some w) None xs) w (Some row) → count_by is_some new ≤ count_by is_some xs
put_few xs new w None row at there to = absurd (there refl)
put_few xs new w (Some r) row at there to = elim (cases_lt w (length xs)) [
  | inl within ↦
      let e = count_set is_some refl xs w (Some row) within in
      let was : cond (is_some (get_or xs w None)) 1 0 ≡ 1 = ap (λ o. cond {A = ℕ} (is_some o) 1 0) (sym at) in
      let same = ap (count_by is_some) (to ∙ put_there xs w r (Some row) (sym at)) in
      omega (arith, e, was, same)
  | inr past ↦ absurd (none-some r (sym (get_or_past xs w None past) ∙ sym at))
]

-- an entry that retries nothing leaves the numbers of retries
pub keeps_few : (d : Did) (rows : List TaskRow) (t n : ℕ) → tries d ≡ [] → ((u : ℕ) → (row_at rows u).retries < n) → (u : ℕ) → (row_at (change_at (row_after d) no_row (Some t) rows) u).retries < n
keeps_few d rows t n none few u = elim (cases_lt t (length rows)) [
  | inl within ↦ elim (cases_eq u t) [
    | inl same ↦
        let here : (row_at (set rows t (row_after d t (row_at rows t))) u).retries ≡ (row_at rows t).retries =
        ap (λ r. r.retries) (ap (row_at (set rows t (row_after d t (row_at rows t)))) same ∙ get_or-set_same rows t (row_after d t (row_at rows t)) no_row within)
        ∙ ap (λ ps. counted (said_of t ps) (row_at rows t).retries) none in
        rw here (few t)
    | inr other ↦ rw (get_or-set_other rows t u (row_after d t (row_at rows t)) no_row other) (few u)
  ]
  | inr past ↦ rw (set_past rows t (row_after d t (row_at rows t)) past) (few u)
]

-- an entry that cancels nothing leaves who is cancelled
pub keeps_cancelled : (d : Did) (rows : List TaskRow) (t : ℕ) → cancels d ≡ [] → (u : ℕ) → (row_at (change_at (row_after d) no_row (Some t) rows) u).cancelled ≡ (row_at rows u).cancelled
keeps_cancelled d rows t none u = elim (cases_lt t (length rows)) [
  | inl within ↦ elim (cases_eq u t) [
    | inl same ↦
        ap (λ r. r.cancelled) (ap (row_at (set rows t (row_after d t (row_at rows t)))) same ∙ get_or-set_same rows t (row_after d t (row_at rows t)) no_row within)
        ∙ ap (λ ps. unwrap_or (said_of t ps) (row_at rows t).cancelled) none
        ∙ ap (λ x. (row_at rows x).cancelled) (sym same)
    | inr other ↦ ap (λ r. r.cancelled) (get_or-set_other rows t u (row_after d t (row_at rows t)) no_row other)
  ]
  | inr past ↦ ap (λ xs. (row_at xs u).cancelled) (set_past rows t (row_after d t (row_at rows t)) past)
]
