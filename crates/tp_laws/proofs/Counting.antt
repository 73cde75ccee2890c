-- How many slots there are, and how an entry changes that.
use Rattle.std.proofs.Common.{◌≡◌, ℕ, zero, suc, ◌+◌, ◌-◌, ◌<◌, ◌≤◌, Bool, true, false, cond, List, ◌∷◌, ◌++◌, Some, None, Option, refl, arith, sym, ap, ◌∙◌, inl, inr}
use mathlib.Core.Path.{ap₂}
use Rattle.std.specs.Prelude.{unwrap_or, is_some, count_by}
use Rattle.std.proofs.lemmas.Bool.{false≢true, cases_lt, cases_eq, eq-eqb, ne_eqb}
use Rattle.std.proofs.lemmas.Bool.Decides.{nat_tests}
use Rattle.tp_types.specs.declared.configs.Config.{Config}
use Rattle.tp_record.specs.declared.entries.Entry.{Entry}
use Rattle.tp_record.specs.declared.entries.Did.{Did}
use Rattle.tp_record.specs.declared.entries.Did.TheVariants as did
use Rattle.tp_record.specs.declared.entries.Looked.TheVariants as looked
use Rattle.tp_record.specs.declared.entries.Opened.TheVariants as opened
use Rattle.tp_record.specs.declared.entries.Failed.TheVariants as failed
use Rattle.tp_record.specs.declared.entries.Took.TheVariants as took
use Rattle.tp_record.specs.declared.rows.Stage.{Stage}
use Rattle.tp_record.specs.declared.rows.Stage.TheVariants as stages
use Rattle.tp_record.specs.declared.rows.SlotRow.{SlotRow}
use Rattle.tp_types.specs.declared.ids.TaskId.{TaskId}
use Rattle.tp_record.specs.Lists.{said_of, is_it, count_from}
use Rattle.tp_record.specs.Effects.{reserves, frees, holds, one_said}
use Rattle.tp_record.specs.Fields.{is_slot, slot_bound, reach, slot_row, stage, task_in}
use Rattle.tp_record.specs.State.{state}
use Rattle.tp_record.specs.Step.{slot_count}
use Rattle.tp_laws.proofs.Model.Given.{Given, Told, IsFree, HasRow, Waits}
use Rattle.tp_laws.proofs.Model.Readings.{slot_below}
use Rattle.tp_laws.proofs.WordsLists.{count_by-cons, count_by-map}

-- two tests that agree from k on count alike there
pub count_same : (f g : ℕ → Bool) (k n : ℕ) → ((x : ℕ) → k ≤ x → f x ≡ g x) → count_by f (count_from k n) ≡ count_by g (count_from k n)
count_same f g k zero same = refl
count_same f g k (suc n) same =
    count_by-cons f k (count_from (suc k) n)
    ∙ ap₂ (λ b m. cond b (suc m) m) (same k (omega arith)) (count_same f g (suc k) n (λ x from. same x (omega arith)))
    ∙ sym (count_by-cons g k (count_from (suc k) n))

-- a test that one number more passes
count_flip : (f g : ℕ → Bool) (w k n : ℕ) → k ≤ w → w < n + k → f w ≡ false → g w ≡ true → ((x : ℕ) → (x ≡ w → ⊥) → f x ≡ g x) →
    count_by g (count_from k n) ≡ suc (count_by f (count_from k n))
count_flip f g w k zero from to off on same = absurd (omega arith)
count_flip f g w k (suc n) from to off on same =
    elim (cases_eq w k) [
      | inl here ↦
          let rest : count_by f (count_from (suc k) n) ≡ count_by g (count_from (suc k) n) = count_same f g (suc k) n (λ x past. same x (λ e. absurd (omega arith))) in
          count_by-cons g k (count_from (suc k) n)
          ∙ ap₂ (λ b m. cond b (suc m) m) (ap g (sym here) ∙ on) (sym rest)
          ∙ ap suc (sym (count_by-cons f k (count_from (suc k) n) ∙ ap (λ b. cond b (suc (count_by f (count_from (suc k) n))) (count_by f (count_from (suc k) n))) (ap f (sym here) ∙ off)))
      | inr other ↦
          count_by-cons g k (count_from (suc k) n)
          ∙ ap₂ (λ b m. cond b (suc m) m) (sym (same k (λ e. other (sym e)))) (count_flip f g w (suc k) n (omega arith) (omega arith) off on same)
          ∙ either (f k) (count_by f (count_from (suc k) n))
          ∙ ap suc (sym (count_by-cons f k (count_from (suc k) n)))
    ]
  where
    either : (b : Bool) (m : ℕ) → cond b (suc (suc m)) (suc m) ≡ suc (cond b (suc m) m)
    either true m = refl
    either false m = refl

-- a test that no number from b on passes counts alike up to any bound from there
count_past : (f : ℕ → Bool) (k b m : ℕ) → ((x : ℕ) → b + k ≤ x → f x ≡ false) → count_by f (count_from k (b + m)) ≡ count_by f (count_from k b)
count_past f k zero zero none = refl
count_past f k zero (suc m) none =
    rw zero_plus (count_by-cons f k (count_from (suc k) m) ∙ rw (none k (omega arith)) (ap (λ n. count_by f (count_from (suc k) n)) (sym zero_plus') ∙ count_past f (suc k) zero m (λ x past. none x (omega arith))))
  where
    zero_plus : 0 + suc m ≡ suc m
    zero_plus = omega arith

    zero_plus' : 0 + m ≡ m
    zero_plus' = omega arith
count_past f k (suc b) m none =
    rw plus (count_by-cons f k (count_from (suc k) (b + m))
    ∙ ap (λ n. cond (f k) (suc n) n) (count_past f (suc k) b m (λ x past. none x (omega arith)))
    ∙ sym (count_by-cons f k (count_from (suc k) b)))
  where
    plus : suc b + m ≡ suc (b + m)
    plus = omega arith

-- the slots below a bound
abbrev pub slots_below : List Entry → ℕ → ℕ
slots_below h n = count_by (is_slot h) (count_from 0 n)

row_some : (b : Bool) (r : SlotRow) → is_some {T = SlotRow} (cond b (Some r) None) ≡ b
row_some true r = refl
row_some false r = refl

-- the slots are those below the bound of their numbers
pub slots_counted_below : (c : Config) (h : List Entry) → slot_count (state c h) ≡ slots_below h (slot_bound h)
slots_counted_below c h =
    count_by-map is_some (slot_row h) (count_from 0 (slot_bound h))
    ∙ count_same (λ w. is_some (slot_row h w)) (is_slot h) 0 (slot_bound h) (λ w from. row_some (is_slot h w) (record { stage = stage h w; task = task_in h w }))

slots_past : (h : List Entry) (n : ℕ) → slot_bound h ≤ n → slots_below h n ≡ slots_below h (slot_bound h)
slots_past h n from =
    let e : slot_bound h + (n - slot_bound h) ≡ n = omega arith in
    ap (λ m. slots_below h m) (sym e) ∙ count_past (is_slot h) 0 (slot_bound h) (n - slot_bound h) (λ x past. slot_below h x (omega arith))

abbrev pub one : Bool → ℕ
one b = cond b 1 0

-- w is set to b
abbrev put : Option ℕ → Bool → (ℕ → Bool) → ℕ → Bool
put o b f x = cond (is_it o x) b (f x)

put_other : (w x : ℕ) (b : Bool) (f : ℕ → Bool) → (x ≡ w → ⊥) → put (Some w) b f x ≡ f x
put_other w x b f other = rw (ne_eqb x w other) refl

count_on : (f : ℕ → Bool) (o : Option ℕ) (n : ℕ) → ((w : ℕ) → o ≡ Some w → (f w ≡ false) × (w < n)) → count_by (put o true f) (count_from 0 n) ≡ count_by f (count_from 0 n) + one (is_some o)
count_on f None n says = omega arith
count_on f (Some w) n says =
    count_flip f (put (Some w) true f) w 0 n (omega arith) (let below : w < n = (says w refl).1 in omega arith) (says w refl).0 (rw (eq-eqb w w refl) refl) (λ x other. sym (put_other w x true f other))
    ∙ omega arith

count_off : (f : ℕ → Bool) (o : Option ℕ) (n : ℕ) → ((w : ℕ) → o ≡ Some w → (f w ≡ true) × (w < n)) → count_by (put o false f) (count_from 0 n) + one (is_some o) ≡ count_by f (count_from 0 n)
count_off f None n says = omega arith
count_off f (Some w) n says =
    let e : count_by f (count_from 0 n) ≡ suc (count_by (put (Some w) false f) (count_from 0 n)) =
    count_flip (put (Some w) false f) f w 0 n (omega arith) (let below : w < n = (says w refl).1 in omega arith) (rw (eq-eqb w w refl) refl) (says w refl).0 (λ x other. put_other w x false f other) in
    omega (arith, e)

held_by : (a b : Option ℕ) (f : ℕ → Bool) (x : ℕ) → unwrap_or (said_of x (one_said a true ++ one_said b false)) (f x) ≡ put a true (put b false f) x
held_by a b f x = grind (arith, nat_tests)

-- the slots after an entry: without the one that it frees, and with the one that it reserves
slots_change : (d : Did) (f : ℕ → Bool) (n : ℕ) → ((w : ℕ) → reserves d ≡ Some w → (put (frees d) false f w ≡ false) × (w < n)) → ((w : ℕ) → frees d ≡ Some w → (f w ≡ true) × (w < n)) →
    (m : ℕ) × (count_by (λ x. unwrap_or (said_of x (holds d)) (f x)) (count_from 0 n) ≡ m + one (is_some (reserves d))) × (m + one (is_some (frees d)) ≡ count_by f (count_from 0 n))
slots_change d f n made freed = (
  count_by (put (frees d) false f) (count_from 0 n),
  (count_same _ _ 0 n (λ x from. held_by (reserves d) (frees d) f x) ∙ count_on (put (frees d) false f) (reserves d) n made),
  count_off f (frees d) n freed,
)

row_none : (b : Bool) (r : SlotRow) → ◌≡◌ {A = Option SlotRow} (cond b (Some r) None) None → b ≡ false
row_none true r is = cc
row_none false r is = refl

row_there : (b : Bool) (r q : SlotRow) → ◌≡◌ {A = Option SlotRow} (cond b (Some r) None) (Some q) → b ≡ true
row_there true r q is = refl
row_there false r q is = cc

pub free_number : (h : List Entry) (w : ℕ) → IsFree h w → is_slot h w ≡ false
free_number h w free = row_none (is_slot h w) (record { stage = stage h w; task = task_in h w }) free

pub slot_there : (h : List Entry) (w : ℕ) (s : Stage) (o : Option TaskId) → HasRow h w s o → is_slot h w ≡ true
slot_there h w s o row = row_there (is_slot h w) (record { stage = stage h w; task = task_in h w }) (record { stage = s; task = o }) row

waits_there : (h : List Entry) (w : ℕ) → Waits h w → is_slot h w ≡ true
waits_there h w (inl row) = slot_there h w stages.Working None row
waits_there h w (inr idle) = slot_there h w (stages.Idle idle.0) None idle.1

-- the number that an entry frees is a slot
pub freed_given : (c : Config) (h : List Entry) (d : Did) (w : ℕ) → Given c h d → frees d ≡ Some w → is_slot h w ≡ true
freed_given c h (did.Open v opened.GivenUp) w given is = let same : v.0 ≡ w = cc in ap (is_slot h) (sym same) ∙ slot_there h v.0 _ _ given.0
freed_given c h _ w given is = grind (arith, nat_tests)

-- the number that an entry reserves is no slot, but for the one that it frees
pub made_given : (c : Config) (h : List Entry) (d : Did) (w : ℕ) → Given c h d → reserves d ≡ Some w → put (frees d) false (is_slot h) w ≡ false
made_given c h (did.Submit t k pr (looked.Reserve v)) w given is = let same : v.0 ≡ w = cc in ap (is_slot h) (sym same) ∙ free_number h v.0 given.1.2
made_given c h _ w given is = let free = free_number h w in grind (arith, nat_tests)

reach_some : (o : Option ℕ) (w : ℕ) → o ≡ Some w → suc w ≤ reach o
reach_some None w is = absurd cc
reach_some (Some v) w is = let same : v ≡ w = cc in omega arith

-- the number of slots after an entry: one less where it frees one, one more where it reserves one
pub slot_count-more : (c : Config) (e : Entry) (h : List Entry) → Told c (e ∷ h) →
    (m : ℕ) × (slot_count (state c (e ∷ h)) ≡ m + one (is_some (reserves e.did))) × (m + one (is_some (frees e.did)) ≡ slot_count (state c h))
slot_count-more c e h told =
    let n : ℕ = slot_bound (e ∷ h) in
    let wide : slot_bound h ≤ slot_bound (e ∷ h) = omega arith in
    let change = slots_change e.did (is_slot h) (slot_bound (e ∷ h))
    (λ w is. (made_given c h e.did w told.0 is, (let far : suc w ≤ reach (reserves e.did) = reach_some (reserves e.did) w is in omega arith)))
    (λ w is. (freed_given c h e.did w told.0 is, below w (freed_given c h e.did w told.0 is))) in (
      change.0,
      slots_counted_below c (e ∷ h) ∙ change.1,
      change.2 ∙ slots_past h (slot_bound (e ∷ h)) wide ∙ sym (slots_counted_below c h),
    )
  where
    below : (w : ℕ) → is_slot h w ≡ true → w < slot_bound (e ∷ h)
    below w is = elim (cases_lt w (slot_bound h)) [
      | inl near ↦ omega arith
      | inr past ↦ absurd (false≢true (sym (slot_below h w past) ∙ is))
    ]
