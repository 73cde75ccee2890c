-- Fronts of a history, and whether the next entry belongs to one.
use Rattle.std.proofs.Common.{◌≡◌, ◌≤◌, ◌<◌, ℕ, true, false, List, [], ◌∷◌, length, refl, arith, ap, sym, subst, ◌∙◌}
use Rattle.std.specs.Prelude.{Option, Some, None}
use Rattle.std.proofs.lemmas.Bool.{true≢false}
use Rattle.std.proofs.lemmas.Bool.Decides.{nat_tests}
use Rattle.tp_record.specs.declared.entries.Entry.{Entry}
use Rattle.tp_types.specs.declared.configs.Config.{Config}
use Rattle.tp_audit.specs.declared.tables.Tables.{Tables}
use Rattle.tp_audit.specs.Tables.{StandsAt}
use Rattle.tp_story.specs.declared.times.Times.{Times}
use Rattle.tp_story.specs.Since.{Timed}
use Rattle.tp_story.specs.Fronts.{first_of, is_full}

-- a front has no more entries than the whole
pub no_longer : (n : ℕ) (h : List Entry) → length (first_of (Some n) h) ≤ length h
no_longer n [] = omega arith
no_longer n (e ∷ h) = let before = no_longer n h in grind (arith, nat_tests)

-- where it has not reached its number, it is the whole
pub whole : (n : ℕ) (h : List Entry) → length h < n → first_of (Some n) h ≡ h
whole n [] few = refl
whole n (e ∷ h) few = grind (arith, nat_tests)

pub few : (n : ℕ) (h : List Entry) → length (first_of (Some n) h) < n → length h < n
few n [] short = short
few n (e ∷ h) short = let before = few n h in grind (arith, nat_tests)

-- the next entry is left out of a front that has reached its number
pub full_next : (n : ℕ) (e : Entry) (h : List Entry) → n ≤ length (first_of (Some n) h) → first_of (Some n) (e ∷ h) ≡ first_of (Some n) h
full_next n e h full = let shorter = no_longer n h in grind (arith, nat_tests)

-- and belongs to one that has not
pub short_next : (n : ℕ) (e : Entry) (h : List Entry) → length (first_of (Some n) h) < n → first_of (Some n) (e ∷ h) ≡ e ∷ first_of (Some n) h
short_next n e h short = let fewer = few n h short in let all = whole n h fewer in grind (arith, nat_tests)

-- an auditor's tables know how many entries it was told
pub counted : (c : Config) (h : List Entry) (t : Tables) → StandsAt c h t → t.steps ≡ length h
counted c h t at = ap (λ s. s.steps) at.shows.kept

-- the next entry is left out of what is full, and belongs to what is not
pub full_stays : (u : Option ℕ) (e : Entry) (h : List Entry) → is_full u (length (first_of u h)) ≡ true → first_of u (e ∷ h) ≡ first_of u h
full_stays None e h full = absurd (true≢false (sym full))
full_stays (Some n) e h full = full_next n e h (grind (arith, nat_tests))

pub short_grows : (u : Option ℕ) (e : Entry) (h : List Entry) → is_full u (length (first_of u h)) ≡ false → first_of u (e ∷ h) ≡ e ∷ first_of u h
short_grows None e h short = refl
short_grows (Some n) e h short = short_next n e h (grind (arith, nat_tests))

-- what has not reached its number is the whole
pub all_of : (u : Option ℕ) (h : List Entry) → is_full u (length (first_of u h)) ≡ false → first_of u h ≡ h
all_of None h short = refl
all_of (Some n) h short = whole n h (few n h (grind (arith, nat_tests)))

-- tables that are full stand at the next front too; those that are not stand there once they were told the next entry
pub stays : (c : Config) (u : Option ℕ) (t : Tables) (e : Entry) (h : List Entry) → StandsAt c (first_of u h) t → is_full u t.steps ≡ true → StandsAt c (first_of u (e ∷ h)) t
stays c u t e h at full =
    subst (λ g. StandsAt c g t) (sym (full_stays u e h (ap (is_full u) (sym (counted c (first_of u h) t at)) ∙ full))) at

pub grows : (c d : Config) (u : Option ℕ) (s t : Tables) (e : Entry) (h : List Entry) → StandsAt c (first_of u h) s → is_full u s.steps ≡ false → StandsAt d (e ∷ first_of u h) t →
    StandsAt d (first_of u (e ∷ h)) t
grows c d u s t e h at short next =
    subst (λ g. StandsAt d g t) (sym (short_grows u e h (ap (is_full u) (sym (counted c (first_of u h) s at)) ∙ short))) next

-- and so do the times
pub times_stay : (c : Config) (u : Option ℕ) (t : Tables) (e : Entry) (h : List Entry) (n : Times) → StandsAt c (first_of u h) t → is_full u t.steps ≡ true → Timed (first_of u h) n →
    Timed (first_of u (e ∷ h)) n
times_stay c u t e h n at full timed =
    subst (λ g. Timed g n) (sym (full_stays u e h (ap (is_full u) (sym (counted c (first_of u h) t at)) ∙ full))) timed

pub times_grow : (c : Config) (u : Option ℕ) (s : Tables) (e : Entry) (h : List Entry) (n : Times) → StandsAt c (first_of u h) s → is_full u s.steps ≡ false → Timed (e ∷ first_of u h) n →
    Timed (first_of u (e ∷ h)) n
times_grow c u s e h n at short next =
    subst (λ g. Timed g n) (sym (short_grows u e h (ap (is_full u) (sym (counted c (first_of u h) s at)) ∙ short))) next

-- no entry has no front but itself
pub none_yet : (u : Option ℕ) → first_of u [] ≡ []
none_yet None = refl
none_yet (Some n) = refl
