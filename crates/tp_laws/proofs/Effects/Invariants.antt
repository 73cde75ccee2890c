-- What more is known of a legal record: a task that is not gone has no ending; one that its submitter still has owes no
-- second look; a completion that is not handed out is of a task that is cancelled or has an ending.
use Rattle.std.proofs.Common.{◌≡◌, ℕ, suc, ◌<◌, ◌≤◌, Bool, true, false, ◌&&◌, ◌||◌, cond, List, [], ◌∷◌, Option, Some, None, refl, arith, sym, ap}
use Rattle.std.specs.Prelude.{unwrap_or, is_some}
use Rattle.std.proofs.lemmas.Bool.{false≢true, and_parts, eqb-true}
use Rattle.std.proofs.lemmas.Bool.Decides.{nat_tests}
use Rattle.tp_types.specs.declared.configs.Config.{Config}
use Rattle.tp_types.specs.declared.tasks.Fate.{Fate}
use Rattle.tp_types.specs.declared.tasks.Kind.{Kind}
use Rattle.tp_types.specs.declared.tasks.Place.{Place}
use Rattle.tp_types.specs.declared.tasks.Place.TheVariants as at
use Rattle.tp_record.specs.declared.entries.Entry.{Entry}
use Rattle.tp_record.specs.declared.entries.Did.{Did}
use Rattle.tp_record.specs.declared.entries.Did.TheVariants as did
use Rattle.tp_record.specs.declared.rows.SlotRow.{SlotRow}
use Rattle.tp_record.specs.Lists.{said_of, is_it}
use Rattle.tp_record.specs.Effects.{moved, cancels, endings, completes, hands_out, is_submit}
use Rattle.tp_record.specs.Fields.{place, is_cancelled, ending, kind, owes_second, submitted, swept, handed_back, is_done, slot_row}
use Rattle.tp_record.specs.Step.{Legal, is_reserved}
use Rattle.tp_laws.specs.Seats.{slot_of, number_of, seat_of}
use Rattle.tp_laws.proofs.Model.Weak.{closes}
use Rattle.tp_laws.proofs.Model.Given.{Given, Told}
use Rattle.tp_laws.proofs.Model.Keystone.{IsSound}
use Rattle.tp_laws.proofs.Model.Told.{told_legal, sound_told}
use Rattle.tp_laws.proofs.Effects.Next.{entry, closes_given}

abbrev pub is_gone : Place → Bool
is_gone at.Gone = true
is_gone _ = false

-- Endings

abbrev KeepsOpen : Config → List Entry → Did → ℕ → Type 0
KeepsOpen c h d t =
    Given c h d → (is_gone (place h t) ≡ false → ending h t ≡ None) → is_gone (unwrap_or (said_of t (moved d)) (swept d (is_cancelled h t) (place h t))) ≡ false →
    unwrap_or (said_of t (endings d)) (handed_back d (place h t) (ending h t)) ≡ None

keeps_open : (c : Config) (h : List Entry) (d : Did) (t : ℕ) → KeepsOpen c h d t
keeps_open c h (did.Submit u k p l) t given was there = grind (arith, nat_tests)
keeps_open c h _ t given was there = grind (arith, nat_tests)

-- a task that is not gone has no ending
pub unended : (c : Config) (h : List Entry) → Told c h → (t : ℕ) → is_gone (place h t) ≡ false → ending h t ≡ None
unended c [] told t there = refl
unended c (e ∷ h) told t there = keeps_open c h e.did t told.0 (unended c h told.1 t) there

-- Completions

done_before : (d : Did) (t : ℕ) (b : Bool) → unwrap_or (said_of t (hands_out d)) b ≡ true → b ≡ true
done_before d t b is = grind (arith, nat_tests)

completes_closes : (d : Did) (f : ℕ → Kind) (g : ℕ → Bool) (t : ℕ) → is_it (completes d f g) t ≡ true → closes d ≡ Some t
completes_closes d f g t is = grind (arith, nat_tests)

grows : (e : Entry) (h : List Entry) → submitted h ≤ submitted (e ∷ h)
grows e h = elim (is_submit e.did) as (λ b. submitted h ≤ cond b (suc (submitted h)) (submitted h)) [ true ↦ omega arith | false ↦ omega arith ]

-- a completed task was submitted
pub done_known : (c : Config) (h : List Entry) → Told c h → (t : ℕ) → is_done h t ≡ true → t < submitted h
done_known c [] told t is = absurd (false≢true is)
done_known c (e ∷ h) told t is = by_test (is_it (completes e.did (kind h) (is_cancelled h)) t) refl is (done_known c h told.1 t)
  where
    by_test : (b : Bool) → is_it (completes e.did (kind h) (is_cancelled h)) t ≡ b → cond b true (unwrap_or (said_of t (hands_out e.did)) (is_done h t)) ≡ true → (is_done h t ≡ true → t < submitted h) → t < submitted (e ∷ h)
    by_test true closed later before =
        let k = closes_given c h e.did told.0 t (completes_closes e.did (kind h) (is_cancelled h) t closed) in
        let more = grows e h in
        omega arith
    by_test false off later before =
        let k = before (done_before e.did t (is_done h t) later) in
        let more = grows e h in
        omega arith

-- t is cancelled or has an ending
abbrev pub is_closed : List Entry → ℕ → Bool
is_closed h t = is_cancelled h t || is_some (ending h t)

closed_now : (e : Entry) (h : List Entry) (t : ℕ) → is_it (completes e.did (kind h) (is_cancelled h)) t ≡ true → is_closed (e ∷ h) t ≡ true
closed_now e h t is = grind (arith, nat_tests)

keeps_closed : (d : Did) (t : ℕ) (b x : Bool) (p : Place) (f : Option Fate) → unwrap_or (said_of t (hands_out d)) b ≡ true → (x || is_some f) ≡ true →
    (unwrap_or (said_of t (cancels d)) x || is_some (unwrap_or (said_of t (endings d)) (handed_back d p f))) ≡ true
keeps_closed d t b x p f done was = grind (arith, nat_tests)

-- a completion that is not handed out is of a task that is cancelled or has an ending
pub done_closed : (c : Config) (h : List Entry) → Told c h → (t : ℕ) → is_done h t ≡ true → is_closed h t ≡ true
done_closed c [] told t is = absurd (false≢true is)
done_closed c (e ∷ h) told t is = by_test (is_it (completes e.did (kind h) (is_cancelled h)) t) refl is (done_closed c h told.1 t)
  where
    by_test : (b : Bool) → is_it (completes e.did (kind h) (is_cancelled h)) t ≡ b → cond b true (unwrap_or (said_of t (hands_out e.did)) (is_done h t)) ≡ true → (is_done h t ≡ true → is_closed h t ≡ true) → is_closed (e ∷ h) t ≡ true
    by_test true closed later before = closed_now e h t closed
    by_test false off later before = keeps_closed e.did t (is_done h t) (is_cancelled h t) (place h t) (ending h t) later (before (done_before e.did t (is_done h t) later))

-- Second looks

-- a task that its submitter has, before its offer is accepted
abbrev pub is_waiting : Place → Bool
is_waiting at.Looking = true
is_waiting at.ToOffer = true
is_waiting at.ToGrow = true
is_waiting at.Refused = true
is_waiting at.Caller = true
is_waiting _ = false

-- the slot is reserved with task t
abbrev pub is_reserved_for : ℕ → Option SlotRow → Bool
is_reserved_for t None = false
is_reserved_for t (Some r) = is_reserved r.stage && is_it (number_of r.task) t

abbrev pub Unowing : List Entry → ℕ → ℕ → Type 0
Unowing h t w = (is_waiting (place h t) ≡ true → owes_second h t ≡ false) × (is_reserved_for t (slot_row h w) ≡ true → owes_second h t ≡ false)

abbrev KeepsUnowing : Config → List Entry → Did → ℕ → ℕ → Type 0
KeepsUnowing c h d t w =
    Given c h d → ((v : ℕ) → Unowing h t v) → ((v : ℕ) → is_reserved_for t (slot_row h v) ≡ true → is_waiting (place h t) ≡ false) → Unowing (entry d ∷ h) t w

keeps_unowing : (c : Config) (h : List Entry) (d : Did) (t w : ℕ) → KeepsUnowing c h d t w
keeps_unowing c h (did.Submit u k p l) t w given was placed = let far = placed w in let here = was w in (grind (arith, nat_tests), grind (arith, nat_tests))
keeps_unowing c h (did.Open v o) t w given was placed = let far = placed w in let there = was v.0 in let here = was w in (grind (arith, nat_tests), grind (arith, nat_tests))
keeps_unowing c h (did.Fail v f) t w given was placed = let far = placed w in let there = was v.0 in let here = was w in (grind (arith, nat_tests), grind (arith, nat_tests))
keeps_unowing c h (did.Take v k) t w given was placed = let far = placed w in let there = was v.0 in let here = was w in (grind (arith, nat_tests), grind (arith, nat_tests))
keeps_unowing c h (did.Begin v b) t w given was placed = let far = placed w in let there = was v.0 in let here = was w in (grind (arith, nat_tests), grind (arith, nat_tests))
keeps_unowing c h (did.End v u o) t w given was placed = let far = placed w in let there = was v.0 in let here = was w in (grind (arith, nat_tests), grind (arith, nat_tests))
keeps_unowing c h _ t w given was placed = let far = placed w in let here = was w in (grind (arith, nat_tests), grind (arith, nat_tests))

unowing : (c : Config) (h : List Entry) → Told c h → (t w : ℕ) → Unowing h t w
unowing c [] told t w = (λ is. refl, λ is. refl)
unowing c (e ∷ h) told t w = keeps_unowing c h e.did t w told.0 (unowing c h told.1 t) (placed (sound_told c h told.1))
  where
    seated : (o : Option SlotRow) → is_reserved_for t o ≡ true → seat_of o ≡ Some t
    seated None is = absurd (grind arith)
    seated (Some r) is = by_number (number_of r.task) (and_parts (is_reserved r.stage) (is_it (number_of r.task) t) is).1
      where
        by_number : (o : Option ℕ) → is_it o t ≡ true → o ≡ Some t
        by_number None is = absurd (grind arith)
        by_number (Some x) is = ap (λ y. Some y) (sym (eqb-true t x is))

    in_slot : (p : Place) (v : ℕ) → slot_of p ≡ Some v → is_waiting p ≡ false
    in_slot p v is = grind arith

    placed : IsSound h → (v : ℕ) → is_reserved_for t (slot_row h v) ≡ true → is_waiting (place h t) ≡ false
    placed sound v is = in_slot (place h t) v ((sound t v).placed_where_seated (seated (slot_row h v) is))

-- a task that its submitter has owes no second look
pub owes_none : (c : Config) (h : List Entry) → Legal c h → (t : ℕ) → is_waiting (place h t) ≡ true → owes_second h t ≡ false
owes_none c h legal t is = (unowing c h (told_legal c h legal) t 0).0 is
