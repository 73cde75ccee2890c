-- A queued task has a worker to come, or its submitter to look again.
use Rattle.std.proofs.Common.{◌≡◌, ℕ, zero, suc, ◌+◌, ◌≤◌, max, Bool, true, false, not, ◌&&◌, cond, List, [], ◌∷◌, length, Some, None, refl, arith, sym, ap, ◌∙◌, inl, inr}
use mathlib.Core.Path.{ap₂}
use Rattle.std.specs.Prelude.{nat_lt, ◌==◌, ◌||◌, unwrap_or, is_some, count_by}
use Rattle.std.specs.List.{list_any}
use Rattle.std.proofs.lemmas.Bool.{false_from_ne_true, false≢true, cases_lt}
use Rattle.std.proofs.lemmas.Bool.Decides.{nat_tests}
use Rattle.tp_types.specs.declared.configs.Config.{Config}
use Rattle.tp_types.specs.declared.tasks.Place.{Place}
use Rattle.tp_types.specs.declared.tasks.Place.TheVariants as at
use Rattle.tp_record.specs.declared.entries.Entry.{Entry}
use Rattle.tp_record.specs.declared.entries.Did.{Did}
use Rattle.tp_record.specs.declared.entries.Did.TheVariants as did
use Rattle.tp_record.specs.declared.entries.Seconded.TheVariants as seconded
use Rattle.tp_record.specs.declared.entries.Opened.{Opened}
use Rattle.tp_record.specs.declared.entries.Opened.TheVariants as opened
use Rattle.tp_record.specs.declared.entries.Took.TheVariants as took
use Rattle.tp_record.specs.Lists.{said_of, count_from}
use Rattle.tp_record.specs.Effects.{moved, reserves, frees, reaches}
use Rattle.tp_record.specs.Fields.{rank, submitted, place, swept, is_cancelled, is_queued_place, queue, is_slot, slot_bound}
use Rattle.tp_record.specs.Words.{accepts_offer, looks_again, owes_look}
use Rattle.tp_record.specs.State.{state}
use Rattle.tp_record.specs.Step.{slot_count, wants_worker}
use Rattle.tp_laws.proofs.Model.Given.{Given, Told}
use Rattle.tp_laws.proofs.WordsTasks.{queued_agrees}
use Rattle.tp_laws.proofs.WordsSlots.{slot_agrees}
use Rattle.tp_laws.proofs.WordsLists.{count_by-cons}
use Rattle.tp_laws.specs.Laws.{HasGoodSizes, loses_worker, Served}
use Rattle.tp_laws.proofs.Fits.{fits_place, fits_given}
use Rattle.tp_laws.proofs.Seconds.{none_queued}
use Rattle.tp_laws.proofs.Counting.{one, slot_count-more, slots_counted_below}
use Rattle.tp_laws.proofs.Sizes.{sized, sized_by}

-- the entry is no second look that leaves t, at p, in the queue
abbrev fits_served : Did → ℕ → Place → Bool
fits_served (did.Second u seconded.Stay) t p = not (t == u.0 && is_queued_place p)
fits_served d t p = true

running_wants : (r : ℕ) (b : Bool) → r ≡ 0 → (r == 0 || (r == 1 && b)) ≡ true
running_wants r b runs = grind (arith, nat_tests)

stays_out : (t u : ℕ) (f : ℕ → Place) → ((f u ≡ at.Queued) → ⊥) → not (t == u && is_queued_place (f t)) ≡ true
stays_out t u f never = grind (arith, nat_tests)

-- without a slot, a second look that leaves its task in the queue reserves one
served_given : (c : Config) (h : List Entry) (d : Did) (t : ℕ) → Given c h d → slot_count (state c h) ≡ 0 → fits_served d t (place h t) ≡ true
served_given c h (did.Second u seconded.Stay) t given none =
    stays_out t u.0 (place h) (λ queued. false≢true (sym (given.3 none) ∙ running_wants (rank h) (nat_lt 0 (length (queue c h))) (given.2 queued)))
served_given c h _ t given none = refl

served_said : (d : Did) (n t : ℕ) (p : Place) (c o : Bool) → fits_place d t n p ≡ true → fits_served d t p ≡ true → is_some (reserves d) ≡ false → (is_queued_place p ≡ true → o ≡ true) →
    is_queued_place (unwrap_or (said_of t (moved d)) (swept d c p)) ≡ true → cond (looks_again d t) false (accepts_offer d t || o) ≡ true
served_said d n t p c o fits serves none was is = by_queued (is_queued_place p) refl
  where
    looked : (d : Did) (t : ℕ) (p : Place) (c : Bool) → fits_served d t p ≡ true → is_some (reserves d) ≡ false → is_queued_place p ≡ true →
        is_queued_place (unwrap_or (said_of t (moved d)) (swept d c p)) ≡ true → looks_again d t ≡ false
    looked d t p c serves none queued is = grind (arith, nat_tests)

    offers : (d : Did) (n t : ℕ) (p : Place) (c : Bool) → fits_place d t n p ≡ true → is_queued_place p ≡ false →
        is_queued_place (unwrap_or (said_of t (moved d)) (swept d c p)) ≡ true → (accepts_offer d t ≡ true) × (looks_again d t ≡ false)
    offers d n t p c fits out is = grind (arith, nat_tests)

    either : (b : Bool) → (b || true) ≡ true
    either true = refl
    either false = refl

    by_queued : (b : Bool) → is_queued_place p ≡ b → cond (looks_again d t) false (accepts_offer d t || o) ≡ true
    by_queued true queued = rw (looked d t p c serves none queued is, was queued) (either (accepts_offer d t))
    by_queued false out = let put = offers d n t p c fits out is in rw (put.1, put.0) refl

-- an entry that frees a slot moves no task, unless it loses a worker
freed_moves_none : (d : Did) (t : ℕ) (p : Place) (c : Bool) → is_some (frees d) ≡ true → loses_worker d ≡ false → is_queued_place p ≡ false →
    is_queued_place (unwrap_or (said_of t (moved d)) (swept d c p)) ≡ false
freed_moves_none d t p c freed kept out = grind (arith, nat_tests)

unwanted_empty : (r : ℕ) (xs : List ℕ) → r ≤ 1 → (r == 0 || (r == 1 && nat_lt 0 (length xs))) ≡ false → xs ≡ []
unwanted_empty r [] low is = refl
unwanted_empty r (x ∷ xs) low is = absurd (false≢true (sym is ∙ wants r (length xs) low))
  where
    wants : (r n : ℕ) → r ≤ 1 → (r == 0 || (r == 1 && nat_lt 0 (suc n))) ≡ true
    wants r n low = grind (arith, nat_tests)

-- the last slot is freed only where the queue is empty
last_leaves : (c : Config) (h : List Entry) (d : Did) → Given c h d → 1 ≤ (state c h).maximum → rank h ≤ 1 → slot_count (state c h) ≤ 1 →
    is_some (frees d) ≡ true → is_some (reserves d) ≡ false → loses_worker d ≡ false → queue c h ≡ []
last_leaves c h (did.Take w took.Leave) given sizes low last freed none kept = elim (given.1 low) [
  | inl empty ↦ empty
  | inr over ↦ absurd (omega arith)
]
last_leaves c h (did.Leave v None) given sizes low last freed none kept =
    unwanted_empty (rank h) (queue c h) low (false_from_ne_true (wants_worker (state c h)) (λ wants. let over = given.1 wants in absurd (omega arith)))
last_leaves c h (did.Leave v (Some w)) given sizes low last freed none kept = absurd (false≢true (sym none))
last_leaves c h (did.Fail w f) given sizes low last freed none kept = absurd (false≢true (sym kept))
last_leaves c h (did.Open w o) given sizes low last freed none kept = absurd (opens o freed kept)
  where
    opens : (o : Opened) → is_some (frees (did.Open w o)) ≡ true → loses_worker (did.Open w o) ≡ false → ⊥
    opens opened.Live freed kept = false≢true freed
    opens opened.GivenUp freed kept = false≢true (sym kept)
    opens (opened.GivenUpRefuse t) freed kept = false≢true (sym kept)
last_leaves c h _ given sizes low last freed none kept = absurd (false≢true freed)

either_none : (a b : Bool) → (a || b) ≡ false → (a ≡ false) × (b ≡ false)
either_none false false is = (refl, refl)
either_none true b is = absurd (false≢true (sym is))
either_none false true is = absurd (false≢true (sym is))

none_left : (m : ℕ) (b : Bool) → m + one b ≡ 0 → (m ≡ 0) × (b ≡ false)
none_left m true is = absurd (omega arith)
none_left m false is = (omega arith, refl)

-- without a slot, each queued task owes a second look
owed_without_slot : (c : Config) (h : List Entry) → HasGoodSizes c → Told c h → list_any (λ e. loses_worker e.did) h ≡ false → rank h ≤ 1 → slot_count (state c h) ≡ 0 → (t : ℕ) → is_queued_place (place h t) ≡ true →
    owes_look h t ≡ true
owed_without_slot c [] sizes told kept low none t is = absurd (false≢true is)
owed_without_slot c (e ∷ h) sizes told kept low none t is = by_freed (is_some (frees e.did)) refl (owed_without_slot c h sizes told.1)
  where
    keeps : (loses_worker e.did ≡ false) × (list_any (λ e. loses_worker e.did) h ≡ false)
    keeps = either_none (loses_worker e.did) (list_any (λ e. loses_worker e.did) h) kept

    runs : rank h ≤ 1
    runs = let up : max (reaches e.did) (rank h) ≤ 1 = low in omega arith

    more : (m : ℕ) × (slot_count (state c (e ∷ h)) ≡ m + one (is_some (reserves e.did))) × (m + one (is_some (frees e.did)) ≡ slot_count (state c h))
    more = slot_count-more c e h told

    left : (more.0 ≡ 0) × (is_some (reserves e.did) ≡ false)
    left = none_left more.0 (is_some (reserves e.did)) (sym more.1 ∙ none)

    by_freed : (b : Bool) → is_some (frees e.did) ≡ b →
        (list_any (λ e. loses_worker e.did) h ≡ false → rank h ≤ 1 → slot_count (state c h) ≡ 0 → (t : ℕ) → is_queued_place (place h t) ≡ true → owes_look h t ≡ true) →
        owes_look (e ∷ h) t ≡ true
    by_freed true freed rest =
        let count : slot_count (state c h) ≤ 1 = (let a : more.0 + one (is_some (frees e.did)) ≡ slot_count (state c h) = more.2 in let b : more.0 ≡ 0 = left.0 in let d : one (is_some (frees e.did)) ≡ 1 = ap one freed in omega arith) in
        let empty : queue c h ≡ [] = last_leaves c h e.did told.0 (sized c h (sized_by c sizes) told.1).1 runs count freed left.1 keeps.0 in
        absurd (false≢true (sym (freed_moves_none e.did t (place h t) (is_cancelled h t) freed keeps.0 (none_queued c h empty t)) ∙ is))
    by_freed false freed rest =
        let count : slot_count (state c h) ≡ 0 = sym more.2 ∙ ap₂ (λ m b. m + one b) left.0 freed in
        served_said e.did (submitted h) t (place h t) (is_cancelled h t) (owes_look h t) (fits_given c h e.did t told.0) (served_given c h e.did t told.0 count) left.1 (rest keeps.1 runs count t) is

-- where a test counts some, some number passes it
pub some_passes : (f : ℕ → Bool) (k n : ℕ) → 1 ≤ count_by f (count_from k n) → (w : ℕ) × (f w ≡ true)
some_passes f k zero some = absurd (let e : 1 ≤ 0 = some in omega arith)
some_passes f k (suc n) some = by_test (some_passes f (suc k) n) (f k) refl
  where
    by_test : (1 ≤ count_by f (count_from (suc k) n) → (w : ℕ) × (f w ≡ true)) → (b : Bool) → f k ≡ b → (w : ℕ) × (f w ≡ true)
    by_test rest true is = (k, is)
    by_test rest false is =
        let count : count_by f (count_from k (suc n)) ≡ cond (f k) (suc (count_by f (count_from (suc k) n))) (count_by f (count_from (suc k) n)) = count_by-cons f k (count_from (suc k) n) in
        let same : cond (f k) (suc (count_by f (count_from (suc k) n))) (count_by f (count_from (suc k) n)) ≡ count_by f (count_from (suc k) n) = rw is refl in
        rest (omega arith)

pub served : (c : Config) (h : List Entry) → HasGoodSizes c → Told c h → Served h
served c h sizes told kept low t waits =
    elim (cases_lt 0 (slot_count (state c h))) [
      | inl some ↦
          let count : slot_count (state c h) ≡ count_by (is_slot h) (count_from 0 (slot_bound h)) = slots_counted_below c h in
          let found = some_passes (is_slot h) 0 (slot_bound h) (omega arith) in
          inr (found.0, slot_agrees h found.0 ∙ found.1)
      | inr none ↦ inl (owed_without_slot c h sizes told kept low (omega arith) t (sym (queued_agrees c h told t) ∙ waits))
    ]
