-- Slots by number: how many there are, and that none is left after a `tidy`.
use Rattle.std.proofs.Common.{◌≡◌, ℕ, zero, suc, ◌+◌, ◌<◌, ◌≤◌, max, Bool, true, false, cond, List, [], ◌∷◌, ◌++◌, map, Some, None, Option, refl, arith, sym, ap, ◌∙◌, inl, inr}
use Rattle.std.specs.Prelude.{unwrap_or, is_some, count_by}
use Rattle.std.proofs.lemmas.Bool.{false_from_ne_true, false≢true, cases_lt, cases_eq}
use Rattle.std.proofs.lemmas.Bool.Decides.{nat_tests}
use Rattle.std.proofs.lemmas.List.Sums.{sum_by-cons}
use Rattle.tp_types.specs.declared.configs.Config.{Config}
use Rattle.tp_record.specs.declared.entries.Entry.{Entry}
use Rattle.tp_record.specs.declared.entries.Did.{Did}
use Rattle.tp_record.specs.declared.entries.Did.TheVariants as did
use Rattle.tp_record.specs.declared.entries.Looked.TheVariants as looked
use Rattle.tp_record.specs.declared.rows.SlotRow.{SlotRow}
use Rattle.tp_record.specs.Lists.{said_of, count_from}
use Rattle.tp_record.specs.Effects.{reserves, holds, reaches}
use Rattle.tp_record.specs.Fields.{rank, is_slot, slot_bound, slot_row, stage, task_in}
use Rattle.tp_record.specs.State.{state}
use Rattle.tp_record.specs.Step.{slot_count}
use Rattle.tp_laws.proofs.Model.Given.{Given, Told}
use Rattle.tp_laws.proofs.Model.Readings.{slot_below}
use Rattle.tp_laws.proofs.WordsSlots.{slot_agrees}
use Rattle.tp_laws.specs.Laws.{is_tidy, NoSlotsAfterTidy}
use Rattle.tp_laws.proofs.Fits.{fits_rank, rank_given}

some_none : (o : Option SlotRow) (n : ℕ) → cond (is_some o) 1 0 + n ≡ 0 → (o ≡ None) × (n ≡ 0)
some_none None n none = (refl, omega arith)
some_none (Some r) n none = absurd (omega arith)

-- where a table of numbers counts none, none of them has a row
count_none : (f : ℕ → Option SlotRow) (k n w : ℕ) → count_by is_some (map f (count_from k n)) ≡ 0 → k ≤ w → w < n + k → f w ≡ None
count_none f k zero w none from to = absurd (omega arith)
count_none f k (suc n) w none from to =
    let both = some_none (f k) (count_by is_some (map f (count_from (suc k) n))) (sym (sum_by-cons (λ (o : Option SlotRow). cond (is_some o) 1 0) (f k) (map f (count_from (suc k) n))) ∙ none) in
    elim (cases_eq k w) [
      | inl same ↦ ap f (sym same) ∙ both.0
      | inr other ↦ count_none f (suc k) n w both.1 (omega arith) (omega arith)
    ]

row_none : (b : Bool) (r : SlotRow) → ◌≡◌ {A = Option SlotRow} (cond b (Some r) None) None → b ≡ false
row_none true r is = cc
row_none false r is = refl

-- where there are no slots, no number is a slot
pub none_are_slots : (c : Config) (h : List Entry) → slot_count (state c h) ≡ 0 → (w : ℕ) → is_slot h w ≡ false
none_are_slots c h none w =
    elim (cases_lt w (slot_bound h)) [
      | inl below ↦ row_none (is_slot h w) (record { stage = stage h w; task = task_in h w }) (count_none (slot_row h) 0 (slot_bound h) w none (omega arith) (omega arith))
      | inr past ↦ slot_below h w past
    ]

-- a slot is reserved only in a pool that is running or shut down
pub reserves_low : (c : Config) (h : List Entry) (d : Did) → Given c h d → is_some (reserves d) ≡ true → rank h ≤ 1
reserves_low c h (did.Submit t k pr (looked.Reserve w)) given is = let r : rank h ≡ 0 = given.1.0 in omega arith
reserves_low c h _ given is = grind (arith, nat_tests)

still_none : (d : Did) (w : ℕ) (b : Bool) → is_some (reserves d) ≡ false → b ≡ false → unwrap_or (said_of w (holds d)) b ≡ false
still_none d w b none was = grind (arith, nat_tests)

tidied : (d : Did) (r : ℕ) → fits_rank d r ≡ true → 3 ≤ max (reaches d) r → is_tidy d ≡ false → 3 ≤ r
tidied d r fits up other = grind (arith, nat_tests)

tidy_reserves_none : (d : Did) → is_tidy d ≡ true → is_some (reserves d) ≡ false
tidy_reserves_none d is = grind arith

tidy_given : (c : Config) (h : List Entry) (d : Did) → Given c h d → is_tidy d ≡ true → slot_count (state c h) ≡ 0
tidy_given c h did.Tidy given is = given.0
tidy_given c h _ given is = absurd (false≢true is)

-- there is no slot once the pool is tidying
pub no_slots : (c : Config) (h : List Entry) → Told c h → 3 ≤ rank h → (w : ℕ) → is_slot h w ≡ false
no_slots c [] told up w = refl
no_slots c (e ∷ h) told up w = by_tidy (is_tidy e.did) refl (no_slots c h told.1)
  where
    by_tidy : (b : Bool) → is_tidy e.did ≡ b → (3 ≤ rank h → (w : ℕ) → is_slot h w ≡ false) → unwrap_or (said_of w (holds e.did)) (is_slot h w) ≡ false
    by_tidy true is rest = still_none e.did w (is_slot h w) (tidy_reserves_none e.did is) (none_are_slots c h (tidy_given c h e.did told.0 is) w)
    by_tidy false is rest =
        let high : 3 ≤ rank h = tidied e.did (rank h) (rank_given c h e.did told.0) up is in
        still_none e.did w (is_slot h w)
        (false_from_ne_true (is_some (reserves e.did)) (λ some. let low : rank h ≤ 1 = reserves_low c h e.did told.0 some in omega arith))
        (rest high w)

-- the run state never falls
rank_grows : (later h : List Entry) → rank h ≤ rank (later ++ h)
rank_grows [] h = omega arith
rank_grows (e ∷ later) h = let was = rank_grows later h in omega arith

tidy_rank : (d : Did) (r : ℕ) → is_tidy d ≡ true → 3 ≤ max (reaches d) r
tidy_rank d r is = grind (arith, nat_tests)

pub none_after_tidy : (c : Config) (later : List Entry) (e : Entry) (h : List Entry) → Told c (later ++ e ∷ h) → NoSlotsAfterTidy later e h
none_after_tidy c later e h told is w =
    let from : 3 ≤ rank (e ∷ h) = tidy_rank e.did (rank h) is in
    let to : rank (e ∷ h) ≤ rank (later ++ e ∷ h) = rank_grows later (e ∷ h) in
    slot_agrees (later ++ e ∷ h) w ∙ no_slots c (later ++ e ∷ h) told (omega arith) w
