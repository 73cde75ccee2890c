-- A task stays where it is since the last entry that moved it.
use Rattle.std.proofs.Common.{◌≡◌, ◌≢◌, ◌≤◌, ℕ, zero, suc, ◌-◌, Bool, true, false, List, [], ◌∷◌, ◌++◌, length, drop, length-append, add-one, Option, Some, None, refl, arith, ap, sym, subst, ◌∙◌, inl, inr}
use Rattle.std.specs.Prelude.{option_map, slice_get, slice_set, slice_index_or, unwrap_or, if◌then◌else◌}
use Rattle.std.proofs.lemmas.Bool.{cases_eq, cases_lt, ne_eqb, true≢false}
use Rattle.std.proofs.lemmas.Option.{none-some}
use Rattle.std.proofs.lemmas.Bool.Decides.{nat_tests}
use Rattle.tp_types.specs.declared.configs.Config.{Config}
use Rattle.tp_types.specs.declared.tasks.Place.{Place}
use Rattle.tp_types.specs.declared.tasks.Place.TheVariants as at
use Rattle.tp_record.specs.declared.entries.Entry.{Entry}
use Rattle.tp_record.specs.declared.entries.Did.{Did}
use Rattle.tp_record.specs.declared.entries.Did.TheVariants as did
use Rattle.tp_record.specs.Effects as effects
use Rattle.tp_record.specs.Effects.{is_submit}
use Rattle.tp_record.specs.Fields.{place, submitted, swept, sweeps, is_cancelled}
use Rattle.tp_record.specs.Lists.{is_it, said_of}
use Rattle.tp_record.specs.Step.{Legal}
use Rattle.tp_laws.proofs.Model.Told.{given_legal}
use Rattle.tp_laws.proofs.Model.Given.{Given}
use Rattle.tp_laws.proofs.Effects.Names.{drops}
use Rattle.tp_story.specs.declared.times.Since.{Since}
use Rattle.tp_story.specs.declared.times.TaskTime.{TaskTime}
use Rattle.tp_story.specs.Since.{latest, moved, no_time, moved_at, submitted_at, task_times, task_since, front}

-- the model moves no task that an entry does not move by its name
unmoved : (d : Did) (t : ℕ) → is_it (moved d) t ≡ false → is_it (drops d) t ≡ false → said_of t (effects.moved d) ≡ None
unmoved d t one two = grind (arith, nat_tests)

-- a task that is not gone was not swept
unswept : (d : Did) (b : Bool) (p : Place) → (swept d b p ≡ at.Gone → ⊥) → swept d b p ≡ p
unswept d b p there = by (sweeps d b p) there
  where
    by : (x : Bool) → ((if x then at.Gone else p) ≡ at.Gone → ⊥) → (if x then at.Gone else p) ≡ p
    by true out = absurd (out refl)
    by false out = refl

-- such a task is where it was
same_place : (e : Entry) (h : List Entry) (t : ℕ) → is_it (moved e.did) t ≡ false → is_it (drops e.did) t ≡ false → (place (e ∷ h) t ≡ at.Gone → ⊥) → place (e ∷ h) t ≡ place h t
same_place e h t one two there =
    let said = ap (λ o. unwrap_or o (swept e.did (is_cancelled h t) (place h t))) (unmoved e.did t one two) in
    said ∙ unswept e.did (is_cancelled h t) (place h t) (λ gone. there (said ∙ gone))

-- another time stays
get_other : (ts : List TaskTime) (u t : ℕ) (x : TaskTime) → t ≢ u → slice_get (slice_set ts u x) t ≡ slice_get ts t
get_other [] u t x apart = refl
get_other (y ∷ ts) zero zero x apart = absurd (apart refl)
get_other (y ∷ ts) zero (suc t) x apart = refl
get_other (y ∷ ts) (suc u) zero x apart = refl
get_other (y ∷ ts) (suc u) (suc t) x apart = get_other ts u t x (λ same. apart (ap suc same))

get_moved : (s : Since) (o : Option ℕ) (ts : List TaskTime) (t : ℕ) → is_it o t ≡ false → slice_get (moved_at s o ts) t ≡ slice_get ts t
get_moved s None ts t off = refl
get_moved s (Some u) ts t off = get_other ts u t _ (λ same. absurd (grind (arith, nat_tests, off, same)))

get_added : (ts : List TaskTime) (x : TaskTime) (t : ℕ) → t ≢ length ts → slice_get (ts ++ x ∷ []) t ≡ slice_get ts t
get_added [] x zero apart = absurd (apart refl)
get_added [] x (suc t) apart = refl
get_added (y ∷ ts) x zero apart = refl
get_added (y ∷ ts) x (suc t) apart = get_added ts x t (λ same. apart (ap suc same))

-- there is a time for each submission
length_set : (ts : List TaskTime) (u : ℕ) (x : TaskTime) → length (slice_set ts u x) ≡ length ts
length_set [] u x = refl
length_set (y ∷ ts) zero x = refl
length_set (y ∷ ts) (suc u) x = ap suc (length_set ts u x)

length_moved : (s : Since) (o : Option ℕ) (ts : List TaskTime) → length (moved_at s o ts) ≡ length ts
length_moved s None ts = refl
length_moved s (Some u) ts = length_set ts u _

length_times : (h : List Entry) → length (task_times h) ≡ submitted h
length_times [] = refl
length_times (e ∷ h) =
    length_moved (latest (e ∷ h)) (drops e.did) _ ∙ length_moved (latest (e ∷ h)) (moved e.did) _ ∙ by (is_submit e.did) (length_times h)
  where
    by : (b : Bool) → length (task_times h) ≡ submitted h → length (if b then task_times h ++ record { by = e.by; since = latest (e ∷ h) } ∷ [] else task_times h) ≡ (if b then suc (submitted h) else submitted h)
    by true is = length-append (task_times h) _ ∙ add-one (length (task_times h)) ∙ ap suc is
    by false is = is

-- the task that an entry submits is one that it moves
new_moves : (c : Config) (h : List Entry) (d : Did) (t : ℕ) → Given c h d → is_submit d ≡ true → t ≡ submitted h → is_it (moved d) t ≡ true
new_moves c h (did.Submit u k p l) t given new is = let e = given.0 in grind (arith, nat_tests)
new_moves c h d t given new is = absurd (grind arith)

same_since : (c : Config) (e : Entry) (h : List Entry) (t : ℕ) → Given c h e.did → is_it (moved e.did) t ≡ false → is_it (drops e.did) t ≡ false → task_since (e ∷ h) t ≡ task_since h t
same_since c e h t given one two = ap (option_map (λ r. r.since))
    (get_moved (latest (e ∷ h)) (drops e.did) _ t two
    ∙ get_moved (latest (e ∷ h)) (moved e.did) _ t one
    ∙ by (is_submit e.did) refl)
  where
    by : (b : Bool) → is_submit e.did ≡ b → slice_get (if b then task_times h ++ record { by = e.by; since = latest (e ∷ h) } ∷ [] else task_times h) t ≡ slice_get (task_times h) t
    by true new = get_added (task_times h) _ t (λ is. true≢false (sym (new_moves c h e.did t given new (is ∙ length_times h)) ∙ one))
    by false old = refl

-- a task that an entry moves is where it is since that entry
set_same : (ts : List TaskTime) (u : ℕ) (x y : TaskTime) → slice_get (slice_set ts u x) u ≡ Some y → y ≡ x
set_same [] u x y is = absurd (none-some y is)
set_same (z ∷ ts) zero x y is = sym (ap (λ o. unwrap_or o y) is)
set_same (z ∷ ts) (suc u) x y is = set_same ts u x y is

at_moved : (s : Since) (o : Option ℕ) (ts : List TaskTime) (t : ℕ) (y : TaskTime) → is_it o t ≡ true → slice_get (moved_at s o ts) t ≡ Some y → y.since ≡ s
at_moved s None ts t y on is = absurd (true≢false (sym on))
at_moved s (Some u) ts t y on is = elim (cases_eq t u) [
  | inl same ↦ ap (λ r. r.since) (set_same ts u (record (slice_index_or ts u no_time) { since = s }) y (subst (λ k. slice_get (moved_at s (Some u) ts) k ≡ Some y) same is))
  | inr ne ↦ absurd (true≢false (sym on ∙ ne_eqb t u ne))
]

from_map : (o : Option TaskTime) (s : Since) → option_map (λ r. r.since) o ≡ Some s → (y : TaskTime) × (o ≡ Some y) × (y.since ≡ s)
from_map None s is = absurd (none-some s is)
from_map (Some y) s is = (y, refl, ap (λ o. unwrap_or o y.since) is)

dropped_last : (e : Entry) (h : List Entry) (t : ℕ) (s : Since) → is_it (drops e.did) t ≡ true → task_since (e ∷ h) t ≡ Some s → s ≡ latest (e ∷ h)
dropped_last e h t s two is =
    let found = from_map (slice_get (task_times (e ∷ h)) t) s is in
    sym found.2 ∙ at_moved (latest (e ∷ h)) (drops e.did) (moved_at (latest (e ∷ h)) (moved e.did) (submitted_at e.did e.by (latest (e ∷ h)) (task_times h))) t found.0 two found.1

moved_last : (e : Entry) (h : List Entry) (t : ℕ) (s : Since) → is_it (moved e.did) t ≡ true → is_it (drops e.did) t ≡ false → task_since (e ∷ h) t ≡ Some s → s ≡ latest (e ∷ h)
moved_last e h t s one two is =
    let found = from_map (slice_get (task_times (e ∷ h)) t) s is in
    let inner = moved_at (latest (e ∷ h)) (moved e.did) (submitted_at e.did e.by (latest (e ∷ h)) (task_times h)) in
    let there : slice_get inner t ≡ Some found.0 = sym (get_moved (latest (e ∷ h)) (drops e.did) inner t two) ∙ found.1 in
    sym found.2 ∙ at_moved (latest (e ∷ h)) (moved e.did) (submitted_at e.did e.by (latest (e ∷ h)) (task_times h)) t found.0 one there

-- from the last entry that moved a task on, it is where it is now, unless that is gone
pub stays : (c : Config) (h : List Entry) (t : ℕ) (s : Since) (n : ℕ) → Legal c h → task_since h t ≡ Some s → (place h t ≡ at.Gone → ⊥) → s.number ≤ n → n ≤ length h →
    place (front n h) t ≡ place h t
stays c [] t s n legal is there after within = absurd (none-some s is)
stays c (e ∷ h) t s n legal is there after within = elim (cases_lt (length h) n) [
  | inl last ↦
      let whole : suc (length h) - n ≡ 0 = omega (arith, last) in
      ap (λ k. place (drop k (e ∷ h)) t) whole
  | inr before ↦
      let less : suc (length h) - n ≡ suc (length h - n) = omega (arith, before) in
      ap (λ k. place (drop k (e ∷ h)) t) less
      ∙ by (is_it (moved e.did) t) (is_it (drops e.did) t) refl refl before (λ was out. stays c h t s n legal.1 was out after before)
]
  where
    too_late : s ≡ latest (e ∷ h) → n ≤ length h → ⊥
    too_late same before = let number : s.number ≡ suc (length h) = ap (λ l. l.number) same in omega (arith, number, after, before)

    by : (p q : Bool) → is_it (moved e.did) t ≡ p → is_it (drops e.did) t ≡ q → n ≤ length h →
        (task_since h t ≡ Some s → (place h t ≡ at.Gone → ⊥) → place (front n h) t ≡ place h t) → place (front n h) t ≡ place (e ∷ h) t
    by p true one two before earlier = absurd (too_late (dropped_last e h t s two is) before)
    by true false one two before earlier = absurd (too_late (moved_last e h t s one two is) before)
    by false false one two before earlier =
        let same = same_place e h t one two there in
        let given = given_legal c h e.ask e.did legal.1 legal.0 in
        earlier (sym (same_since c e h t given one two) ∙ is) (λ gone. there (same ∙ gone)) ∙ sym same
