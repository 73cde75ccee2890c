-- How many were woken, and what stays so when one worker's state changes.
use Rattle.std.proofs.Common.{◌≡◌, ℕ, zero, suc, ◌+◌, ◌*◌, ◌<◌, ◌≤◌, ◌∷◌, [], Bool, false, List, length, map, set, get_or, replicate, refl, arith, sym, ap, ◌∙◌, subst, inl, inr}
use Rattle.std.specs.Prelude.{count_by, Option, Some, None, is_some, IfSome, IfNone}
use Rattle.std.proofs.lemmas.Bool.{cases_eq, cases_lt, false≢true}
use Rattle.std.proofs.lemmas.List.{length-map, length-replicate, get_or-set_same, get_or-set_other, get_or_past, get_or-replicate}
use Rattle.std.proofs.lemmas.List.Sums.{sum_by-cons}
use Rattle.std.proofs.lemmas.List.Folds.{sum_by-replicate}
use Rattle.std.proofs.Math.Seq.{map-set_same}
use Rattle.tp_types.specs.declared.ids.SlotId.{SlotId}
use Rattle.tp_waking.specs.declared.sleepers.Rest.{Rest}
use Rattle.tp_waking.specs.declared.sleepers.Rest.TheVariants as rests
use Rattle.tp_waking.specs.declared.states.SleepState.{SleepState}
use Rattle.tp_waking.specs.declared.states.SleepState.TheVariants as states
use Rattle.tp_waking.specs.Rests.{rest_at, is_listed, is_marked, called, sleeping, searching as marks, Wakes}
use Rattle.tp_waking.specs.Tied.{IsTied, IsSound, rest_of, rests_of, state_at}
use Rattle.tp_waking.proofs.Ties.{one, count-set, rest_read, rests-set, listed_state, listed_apart, listed_within}

-- as many of a sort as there were, but for the worker of slot w
pub count-state : (p : Rest → Bool) (all : List SleepState) (w : ℕ) (from to : SleepState) (new : List Rest) → w < length all → state_at all w ≡ from → new ≡ set (rests_of all) w (rest_of to)
    → count_by p new + one (p (rest_of from)) ≡ count_by p (rests_of all) + one (p (rest_of to))
count-state p all w from to new within at is =
    let a = count-set p (rests_of all) w (rest_of to) (subst (λ n. w < n) (sym (length-map all rest_of)) within) in
    let b = ap (λ r. one (p r)) (rest_read all w ∙ ap rest_of at) in
    let c = ap (count_by p) is in
    omega (arith, a, b, c)

-- one who does not sleep goes elsewhere, and does not sleep there
pub tied-awake : (all : List SleepState) (listed : List ℕ) (w : ℕ) (from to : SleepState) → IsTied all listed → w < length all → state_at all w ≡ from → listed_state from ≡ false → listed_state to ≡ false → IsTied (set all w to) listed
tied-awake all listed w from to tied within at was out = record {
  indexed = λ i below.
      let here = tied.indexed i below in
      let apart = λ (e : get_or listed i 0 ≡ w). listed_apart from i (sym at ∙ sym (ap (state_at all) e) ∙ here) was in
      get_or-set_other all w (get_or listed i 0) to states.Away apart ∙ here;
  placed = λ x i found. elim (cases_eq x w) [
    | inl e ↦ listed_apart to i (sym (get_or-set_same all w to states.Away within) ∙ ap (state_at (set all w to)) (sym e) ∙ found) out
    | inr other ↦ tied.placed x i (sym (get_or-set_other all w x to states.Away other) ∙ found)
  ];
  counted =
      let a = count-state is_listed all w from to (rests_of (set all w to)) within at (rests-set all w to) in
      let b = ap one was in
      let c = ap one out in
      omega (arith, a, b, c, tied.counted);
}

-- one who was away sleeps: as many are marked
pub marks-put : (all : List SleepState) (w i : ℕ) → w < length all → state_at all w ≡ states.Away → marks (rests_of (set all w (states.Listed i))) ≡ marks (rests_of all)
marks-put all w i within at = omega (arith, count-state is_marked all w states.Away (states.Listed i) (rests_of (set all w (states.Listed i))) within at (rests-set all w (states.Listed i)))

-- one who slept is woken: one more is marked
pub marks-off : (all new : List SleepState) (w i : ℕ) → state_at all w ≡ states.Listed i → rests_of new ≡ set (rests_of all) w rests.Marked → marks (rests_of new) ≡ marks (rests_of all) + 1
marks-off all new w i at is = omega (arith, count-state is_marked all w (states.Listed i) states.Marked (rests_of new) (listed_within all w i at) at is)

-- who was woken has a state
pub marked-within : (all : List SleepState) (w : ℕ) → state_at all w ≡ states.Marked → w < length all
marked-within all w at = elim (cases_lt w (length all)) [ inl h ↦ h | inr past ↦ absurd (false≢true (ap (λ s. is_marked (rest_of s)) (sym (get_or_past all w states.Away past) ∙ at))) ]

-- one who was woken is away: one fewer is marked
pub marks-end : (all : List SleepState) (w : ℕ) → state_at all w ≡ states.Marked → marks (rests_of (set all w states.Away)) + 1 ≡ marks (rests_of all)
marks-end all w at = omega (arith, count-state is_marked all w states.Marked states.Away (rests_of (set all w states.Away)) (marked-within all w at) at (rests-set all w states.Away))

-- nobody sleeps and nobody was woken, where all are away
pub rests-away : (n : ℕ) → rests_of (replicate n states.Away) ≡ replicate n rests.Away
rests-away zero = refl
rests-away (suc n) = ap (λ l. rests.Away ∷ l) (rests-away n)

pub count-away : (p : Rest → Bool) (n : ℕ) → p rests.Away ≡ false → count_by p (replicate n rests.Away) ≡ 0
count-away p n not =
    let a = sum_by-replicate (λ r. one (p r)) n rests.Away in
    let b = ap (λ k. n * k) (ap one not) in
    omega (arith, a, b)

state-away : (n w : ℕ) → state_at (replicate n states.Away) w ≡ states.Away
state-away n w = elim (cases_lt w n) [ inl h ↦ get_or-replicate n w states.Away states.Away h | inr past ↦ get_or_past (replicate n states.Away) w states.Away (subst (λ k. k ≤ w) (sym (length-replicate n states.Away)) past) ]

pub sound-away : (n room : ℕ) → n ≤ room → IsSound (replicate n states.Away) [] 0 room
sound-away n room fits = record {
  tied = record {
    indexed = λ i below. absurd (omega (arith, below));
    placed = λ w i found. listed_apart states.Away i (sym (state-away n w) ∙ found) refl;
    counted = sym (ap (count_by is_listed) (rests-away n) ∙ count-away is_listed n refl);
  };
  counted = sym (ap marks (rests-away n) ∙ count-away is_marked n refl);
  room = subst (λ k. k ≤ room) (sym (length-replicate n states.Away)) fits;
}

-- whom the list names sleeps
pub last-sleeps : (all : List SleepState) (listed : List ℕ) (i w : ℕ) → IsTied all listed → i < length listed → get_or listed i 0 ≡ w → rest_at (rests_of all) w ≡ rests.Listed
last-sleeps all listed i w tied below is = rest_read all w ∙ ap rest_of (sym (ap (state_at all) is) ∙ tied.indexed i below)

-- who is woken in the end is the same, once one of them is
pub called-off : (old new : List Rest) (w : ℕ) → Wakes old new w → map called new ≡ map called old
called-off old new w wakes = ap (map called) wakes.woken ∙ map-set_same called old w rests.Marked rests.Away (sym (ap called wakes.slept))

pub called-none : (all : List Rest) → sleeping all ≡ 0 → map called all ≡ all
called-none [] none = refl
called-none (rests.Away ∷ all) none = ap (λ l. rests.Away ∷ l) (called-none all (omega (arith, none, sum_by-cons (λ r. one (is_listed r)) rests.Away all)))
called-none (rests.Listed ∷ all) none = absurd (omega (arith, none, sum_by-cons (λ r. one (is_listed r)) rests.Listed all))
called-none (rests.Marked ∷ all) none = ap (λ l. rests.Marked ∷ l) (called-none all (omega (arith, none, sum_by-cons (λ r. one (is_listed r)) rests.Marked all)))

pub called-one : (old new : List Rest) (woken : Option SlotId) → IfSome woken (λ w. Wakes old new w.0) → IfNone woken (new ≡ old) → map called new ≡ map called old
called-one old new (Some w) some none = called-off old new w.0 some
called-one old new None some none = ap (map called) none

pub called-last : (old new : List Rest) (woken : Option SlotId) → is_some woken ≡ false → IfNone woken (sleeping old ≡ 0) → IfNone woken (new ≡ old) → new ≡ map called old
called-last old new (Some w) ended awake none = absurd (false≢true (sym ended))
called-last old new None ended awake none = none ∙ sym (called-none old awake)
