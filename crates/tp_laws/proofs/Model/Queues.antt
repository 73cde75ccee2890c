-- The queue holds each queued task once, the order of idling each idle slot once, and what is done each completion that
-- is not handed out once. These hold of every history.
use Rattle.std.proofs.Common.{◌≡◌, ℕ, zero, suc, ◌<◌, ◌⊎◌, Bool, true, false, not, ◌&&◌, ◌||◌, cond, List, [], ◌∷◌, ◌++◌, length, Option, Some, None, refl, arith, sym, ap, ◌∙◌, inl, inr, Contains}
use Rattle.std.specs.Prelude.{◌==◌, nat_le, nat_lt, filter, unwrap_or, slice_index_or, if◌then◌else◌}
use Rattle.std.proofs.lemmas.Bool.{eq-eqb, ne_eqb, eqb-true, cases_eq, or_cases}
use Rattle.std.proofs.lemmas.Bool.Decides.{nat_tests}
use Rattle.tp_types.specs.declared.tasks.Place.{Place}
use Rattle.tp_record.specs.declared.entries.Entry.{Entry}
use Rattle.tp_record.specs.declared.entries.Did.{Did}
use Rattle.tp_record.specs.declared.rows.Stage.{Stage}
use Rattle.tp_record.specs.Lists.{said_of, is_it, is_among, IsOnce, without, at_end, arrange, in_line, join_line}
use Rattle.tp_types.specs.declared.configs.Config.{Config}
use Rattle.tp_types.specs.Queues.{is_ranked}
use mathlib.Core.Path.{ap₂}
use Rattle.tp_laws.proofs.Model.Arranged.{sorted-cut, sorted-arrange}
use Rattle.tp_record.specs.Effects.{moved, queues, turned, idles, completes, hands_out, is_plain_fault}
use Rattle.tp_record.specs.Fields.{place, is_cancelled, kind, now, swept, is_queued, is_queued_place, offered, queued, priority, queue, stage, woken, is_idle, is_idle_stage, idled, idling, is_done, completed, done}

pub among-append : (x : ℕ) (xs ys : List ℕ) → is_among x (xs ++ ys) ≡ (is_among x xs || is_among x ys)
among-append x [] ys = refl
among-append x (z ∷ xs) ys = ap (λ b. x == z || b) (among-append x xs ys) ∙ grouped (x == z) (is_among x xs) (is_among x ys)
  where
    grouped : (a b c : Bool) → (a || (b || c)) ≡ ((a || b) || c)
    grouped true b c = refl
    grouped false b c = refl

pub among-filter : (x : ℕ) (p : ℕ → Bool) (xs : List ℕ) → is_among x (filter p xs) ≡ (p x && is_among x xs)
among-filter x p [] = nothing (p x)
  where
    nothing : (b : Bool) → false ≡ (b && false)
    nothing true = refl
    nothing false = refl
among-filter x p (y ∷ ys) = by_tests (among-filter x p ys) (cases_eq x y) (p y) refl
  where
    by_tests : is_among x (filter p ys) ≡ (p x && is_among x ys) → (x ≡ y) ⊎ (x ≡ y → ⊥) → (b : Bool) → p y ≡ b →
        is_among x (cond b (y ∷ filter p ys) (filter p ys)) ≡ (p x && (x == y || is_among x ys))
    by_tests rest (inl same) true is = rw (eq-eqb x y same, ap p same, is) refl
    by_tests rest (inl same) false is = rest ∙ rw (ap p same, is) refl
    by_tests rest (inr other) true is = rw (ne_eqb x y other) rest
    by_tests rest (inr other) false is = rw (ne_eqb x y other) rest

-- what is put at the end is there, and the others stay
pub among-at_end : (x : ℕ) (o : Option ℕ) (xs : List ℕ) → is_among x (at_end o xs) ≡ (is_it o x || is_among x xs)
among-at_end x None xs = refl
among-at_end x (Some y) xs =
    among-append x (without y xs) (y ∷ [])
    ∙ ap (λ b. b || (x == y || false)) (among-filter x (λ z. not (z == y)) xs)
    ∙ either (x == y) (is_among x xs)
  where
    either : (a b : Bool) → ((not a && b) || (a || false)) ≡ (a || b)
    either true b = refl
    either false true = refl
    either false false = refl

pub once-filter : (p : ℕ → Bool) (xs : List ℕ) → IsOnce xs → IsOnce (filter p xs)
once-filter p [] once = tt
once-filter p (x ∷ xs) once = by_test (once-filter p xs once.1) (p x)
  where
    by_test : IsOnce (filter p xs) → (b : Bool) → IsOnce (cond b (x ∷ filter p xs) (filter p xs))
    by_test rest true = (among-filter x p xs ∙ rw once.0 (none (p x)), rest)
      where
        none : (b : Bool) → (b && false) ≡ false
        none true = refl
        none false = refl
    by_test rest false = rest

once-push : (xs : List ℕ) (y : ℕ) → IsOnce xs → is_among y xs ≡ false → IsOnce (xs ++ y ∷ [])
once-push [] y once new = (refl, tt)
once-push (x ∷ xs) y once new = (among-append x xs (y ∷ []) ∙ apart (is_among x xs) once.0, once-push xs y once.1 later)
  where
    apart : (b : Bool) → b ≡ false → (b || (x == y || false)) ≡ false
    apart b is = grind (arith, nat_tests)

    later : is_among y xs ≡ false
    later = grind (arith, nat_tests)

pub once-at_end : (o : Option ℕ) (xs : List ℕ) → IsOnce xs → IsOnce (at_end o xs)
once-at_end None xs once = once
once-at_end (Some y) xs once =
    once-push (without y xs) y (once-filter (λ z. not (z == y)) xs once)
    (among-filter y (λ z. not (z == y)) xs ∙ rw (eq-eqb y y refl) refl)

or_true : (b : Bool) → (b || true) ≡ true
or_true true = refl
or_true false = refl

-- in the list, by its test and by the word of std
pub Contains-from_among : (xs : List ℕ) (x : ℕ) → is_among x xs ≡ true → Contains xs x
Contains-from_among [] x is = absurd (grind arith)
Contains-from_among (y ∷ ys) x is = elim (or_cases (x == y) (is_among x ys) is) [
  | inl same ↦ (0, omega arith, sym (eqb-true x y same))
  | inr later ↦
      let found = Contains-from_among ys x later in
      (suc found.0, omega (arith, found.1), found.2)
]

pub among_from_Contains : (xs : List ℕ) (x : ℕ) → Contains xs x → is_among x xs ≡ true
among_from_Contains xs x found = at_index xs found.0 found.1 found.2
  where
    at_index : (xs : List ℕ) (k : ℕ) → k < length xs → slice_index_or xs k x ≡ x → is_among x xs ≡ true
    at_index [] k within is = absurd (omega arith)
    at_index (y ∷ ys) zero within is = rw (eq-eqb x y (sym is)) refl
    at_index (y ∷ ys) (suc k) within is = rw (at_index ys k (omega arith) is) (or_true (x == y))

-- a filter of what was put at the end, entry by entry, has just what passes its test, if each that passes was put there
passes_among : (p : ℕ → Bool) (xs : List ℕ) (x : ℕ) → (p x ≡ true → is_among x xs ≡ true) → is_among x (filter p xs) ≡ p x
passes_among p xs x there = among-filter x p xs ∙ by_test (p x) there
  where
    by_test : (b : Bool) → (b ≡ true → is_among x xs ≡ true) → (b && is_among x xs) ≡ b
    by_test true there = there refl
    by_test false there = refl

-- a task that is queued after an entry is put there by it, or was there
queued_by : (d : Did) (t : ℕ) (c : Bool) (p : Place) →
    is_queued_place (unwrap_or (said_of t (moved d)) (swept d c p)) ≡ true → (is_it (queues d) t || is_queued_place p) ≡ true
queued_by d t c p is = grind (arith, nat_tests)

offered_queued : (h : List Entry) (t : ℕ) → is_queued h t ≡ true → is_among t (offered h) ≡ true
offered_queued [] t is = is
offered_queued (e ∷ h) t is =
    among-at_end t (queues e.did) (offered h)
    ∙ elim (or_cases (is_it (queues e.did) t) (is_queued h t) (queued_by e.did t (is_cancelled h t) (place h t) is)) [
      | inl put ↦ rw put refl
      | inr was ↦ rw (offered_queued h t was) (or_true (is_it (queues e.did) t))
    ]

-- a task is in the queue exactly where it is queued
pub among-queued : (h : List Entry) (t : ℕ) → is_among t (queued h) ≡ is_queued h t
among-queued h t = passes_among (is_queued h) (offered h) t (offered_queued h t)

-- a line has the elements that are lined up
pub among-line : (b : Bool) (f : ℕ → ℕ) (t : ℕ) (xs : List ℕ) → is_among t (in_line b f xs) ≡ is_among t xs
among-line false f t xs = refl
among-line true f t [] = refl
among-line true f t (x ∷ xs) =
    among-append t (filter (λ y. nat_lt (f y) (f x)) (arrange f xs)) (x ∷ filter (λ y. nat_le (f x) (f y)) (arrange f xs))
    ∙ ap₂ (λ a b. a || (t == x || b)) (among-filter t (λ y. nat_lt (f y) (f x)) (arrange f xs) ∙ ap (λ b. nat_lt (f t) (f x) && b) (among-line true f t xs))
    (among-filter t (λ y. nat_le (f x) (f y)) (arrange f xs) ∙ ap (λ b. nat_le (f x) (f t) && b) (among-line true f t xs))
    ∙ either (is_among t xs)
  where
    either : (b : Bool) → (nat_lt (f t) (f x) && b || (t == x || nat_le (f x) (f t) && b)) ≡ (t == x || b)
    either b = grind (arith, nat_tests)

-- one more in a line is there, and the others stay
pub among-join : (b : Bool) (f : ℕ → ℕ) (t : ℕ) (o : Option ℕ) (xs : List ℕ) → is_among t (join_line b f o xs) ≡ (is_it o t || is_among t xs)
among-join b f t None xs = refl
among-join false f t (Some x) xs = among-append t xs (x ∷ []) ∙ either (is_among t xs) (t == x)
  where
    either : (a b : Bool) → (a || (b || false)) ≡ (b || a)
    either a b = grind arith
among-join true f t (Some x) xs =
    among-append t (filter (λ y. nat_le (f y) (f x)) xs) (x ∷ filter (λ y. nat_lt (f x) (f y)) xs)
    ∙ ap₂ (λ a b. a || (t == x || b)) (among-filter t (λ y. nat_le (f y) (f x)) xs) (among-filter t (λ y. nat_lt (f x) (f y)) xs)
    ∙ either (is_among t xs)
  where
    either : (b : Bool) → (nat_le (f t) (f x) && b || (t == x || nat_lt (f x) (f t) && b)) ≡ (t == x || b)
    either b = grind (arith, nat_tests)

pub among-queue : (c : Config) (h : List Entry) (t : ℕ) → is_among t (queue c h) ≡ is_queued h t
among-queue c h t = among-line (is_ranked c.queue) (priority h) t (queued h) ∙ among-queued h t

once-offered : (h : List Entry) → IsOnce (offered h)
once-offered [] = tt
once-offered (e ∷ h) = once-at_end (queues e.did) (offered h) (once-offered h)

-- no task is in the queue twice
pub once-queued : (h : List Entry) → IsOnce (queued h)
once-queued h = once-filter (is_queued h) (offered h) (once-offered h)

once-around : (us : List ℕ) (x : ℕ) (vs : List ℕ) → IsOnce (us ++ vs) → is_among x (us ++ vs) ≡ false → IsOnce (us ++ x ∷ vs)
once-around [] x vs once new = (new, once)
once-around (u ∷ us) x vs once new =
    let other : (x == u) ≡ false = grind (arith, nat_tests) in
    let later : is_among x (us ++ vs) ≡ false = grind (arith, nat_tests) in
    (among-append u us (x ∷ vs) ∙ apart (is_among u us) (is_among u vs) (sym (among-append u us vs) ∙ once.0) other, once-around us x vs once.1 later)
  where
    apart : (a b : Bool) → (a || b) ≡ false → (x == u) ≡ false → (a || (u == x || b)) ≡ false
    apart a b none other = grind (arith, nat_tests)

pub once-line : (b : Bool) (f : ℕ → ℕ) (xs : List ℕ) → IsOnce xs → IsOnce (in_line b f xs)
once-line false f xs once = once
once-line true f [] once = tt
once-line true f (x ∷ xs) once =
    let whole = sorted-cut f (f x) (arrange f xs) (sorted-arrange f xs) in
    once-around (filter (λ y. nat_lt (f y) (f x)) (arrange f xs)) x (filter (λ y. nat_le (f x) (f y)) (arrange f xs))
    (rw whole (once-line true f xs once.1)) (rw whole (among-line true f x xs ∙ once.0))

pub once-queue : (c : Config) (h : List Entry) → IsOnce (queue c h)
once-queue c h = once-line (is_ranked c.queue) (priority h) (queued h) (once-queued h)

-- a slot that is idle after an entry becomes so by it, or was idle
idled_by : (d : Did) (w m : ℕ) (f : Bool) (s : Stage) →
    is_idle_stage (unwrap_or (said_of w (turned m f d)) (woken d s)) ≡ true → (is_it (idles d) w || is_idle_stage s) ≡ true
idled_by d w m f s is = grind (arith, nat_tests)

idled_staged : (h : List Entry) (w : ℕ) → is_idle_stage (stage h w) ≡ true → is_among w (idled h) ≡ true
idled_staged [] w is = is
idled_staged (e ∷ h) w is =
    among-at_end w (idles e.did) (idled h)
    ∙ elim (or_cases (is_it (idles e.did) w) (is_idle_stage (stage h w)) (idled_by e.did w (now h) (is_plain_fault e.did (kind h)) (stage h w) is)) [
      | inl put ↦ rw put refl
      | inr was ↦ rw (idled_staged h w was) (or_true (is_it (idles e.did) w))
    ]

idle_staged : (h : List Entry) (w : ℕ) → is_idle h w ≡ true → is_idle_stage (stage h w) ≡ true
idle_staged h w is = grind arith

-- a slot is in the order of idling exactly where it is idle
pub among-idling : (h : List Entry) (w : ℕ) → is_among w (idling h) ≡ is_idle h w
among-idling h w = passes_among (is_idle h) (idled h) w (λ is. idled_staged h w (idle_staged h w is))

once-idled : (h : List Entry) → IsOnce (idled h)
once-idled [] = tt
once-idled (e ∷ h) = once-at_end (idles e.did) (idled h) (once-idled h)

-- no slot is in the order of idling twice
pub once-idling : (h : List Entry) → IsOnce (idling h)
once-idling h = once-filter (is_idle h) (idled h) (once-idled h)

-- what is done after an entry is completed by it, or was done
done_by : (d : Did) (t : ℕ) (b x : Bool) → (if b then true else unwrap_or (said_of t (hands_out d)) x) ≡ true → (b || x) ≡ true
done_by d t b x is = grind (arith, nat_tests)

completed_done : (h : List Entry) (t : ℕ) → is_done h t ≡ true → is_among t (completed h) ≡ true
completed_done [] t is = is
completed_done (e ∷ h) t is =
    among-at_end t (completes e.did (kind h) (is_cancelled h)) (completed h)
    ∙ elim (or_cases (is_it (completes e.did (kind h) (is_cancelled h)) t) (is_done h t) (done_by e.did t (is_it (completes e.did (kind h) (is_cancelled h)) t) (is_done h t) is)) [
      | inl put ↦ rw put refl
      | inr was ↦ rw (completed_done h t was) (or_true (is_it (completes e.did (kind h) (is_cancelled h)) t))
    ]

-- a completion is listed exactly where it is not handed out
pub among-done : (h : List Entry) (t : ℕ) → is_among t (done h) ≡ is_done h t
among-done h t = passes_among (is_done h) (completed h) t (completed_done h t)

once-completed : (h : List Entry) → IsOnce (completed h)
once-completed [] = tt
once-completed (e ∷ h) = once-at_end (completes e.did (kind h) (is_cancelled h)) (completed h) (once-completed h)

-- no completion is listed twice
pub once-done : (h : List Entry) → IsOnce (done h)
once-done h = once-filter (is_done h) (completed h) (once-completed h)
