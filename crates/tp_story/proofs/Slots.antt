-- Just the slots have times.
use Rattle.std.proofs.Common.{◌≡◌, ℕ, Bool, true, false, List, [], ◌∷◌, Option, Some, None, refl, arith, ap, sym, ◌∙◌}
use Rattle.std.specs.Prelude.{◌↔◌, is_some, Contains, IsSome, IsPermutation, if◌then◌else◌}
use Rattle.std.proofs.lemmas.Cmp.{nat_eq_equiv}
use Rattle.std.proofs.lemmas.Map.Views.{hash_map_contains_key_iff, exact_unsigned_eq}
use Rattle.std.proofs.lemmas.List.Sorted.{Contains-permutation, IsPermutation-sym}
use Rattle.indexmap.specs.IndexMap.{keys}
use Rattle.tp_types.specs.declared.configs.Config.{Config}
use Rattle.tp_record.specs.declared.entries.Entry.{Entry}
use Rattle.tp_record.specs.declared.entries.Did.{Did}
use Rattle.tp_record.specs.declared.entries.Did.TheVariants as did
use Rattle.tp_record.specs.declared.rows.SlotRow.{SlotRow}
use Rattle.tp_record.specs.Fields.{slot_rows}
use Rattle.tp_record.specs.Lists.{is_it}
use Rattle.tp_record.specs.State.{State, state, slot_at, slot_after}
use Rattle.tp_record.specs.Step.{Legal}
use Rattle.tp_laws.proofs.Model.Told.{given_legal}
use Rattle.tp_laws.proofs.Effects.Names.{is_wide, seats, replaces, other_slot}
use Rattle.tp_laws.proofs.Model.NextState.{next_is_state}
use Rattle.tp_laws.proofs.Effects.Next.{slot_next}
use Rattle.tp_story.specs.declared.times.SlotTime.{SlotTime}
use Rattle.tp_story.specs.declared.times.Times.{Times}
use Rattle.tp_story.specs.Since.{Timed, latest, turning, slot_time}

-- an entry that changes slots which it does not name makes none, and frees none
stays_wide : (d : Did) (s : State) (w : ℕ) (o : Option SlotRow) → is_wide d ≡ true → is_some (slot_after d s w o) ≡ is_some o
stays_wide did.Shutdown s w None wide = refl
stays_wide did.Shutdown s w (Some r) wide = refl
stays_wide (did.Stop n) s w None wide = refl
stays_wide (did.Stop n) s w (Some r) wide = refl
stays_wide did.Tidy s w None wide = refl
stays_wide did.Tidy s w (Some r) wide = refl
stays_wide did.Ended s w None wide = refl
stays_wide did.Ended s w (Some r) wide = refl
stays_wide (did.Purge n) s w None wide = refl
stays_wide (did.Purge n) s w (Some r) wide = refl
stays_wide d s w o wide = absurd (grind arith)

-- a slot that an entry does not turn is one after it just where it was one
unturned : (d : Did) (s : State) (w : ℕ) (o : Option SlotRow) → is_it (seats d) w ≡ false → is_it (replaces d) w ≡ false → is_some (slot_after d s w o) ≡ is_some o
unturned d s w o one two = by (is_wide d) refl
  where
    by : (b : Bool) → is_wide d ≡ b → is_some (slot_after d s w o) ≡ is_some o
    by true wide = stays_wide d s w o wide
    by false narrow = ap is_some (other_slot d s w o narrow one two)

-- a slot has a time where it is turned twice, once or not at all
timed : (p q : Bool) (r : Option SlotRow) (t : SlotTime) (was : Option SlotTime) → (p ≡ false → q ≡ false → is_some was ≡ is_some r) →
    is_some (if p then (if is_some r then Some t else None) else (if q then (if is_some r then Some t else None) else was)) ≡ is_some r
timed true q None t was is = refl
timed true q (Some r) t was is = refl
timed false true None t was is = refl
timed false true (Some r) t was is = refl
timed false false r t was is = is refl refl

-- the slots that have times are the slots
pub known_slots : (c : Config) (h : List Entry) → Legal c h → (w : ℕ) → is_some (slot_time h w) ≡ is_some (slot_at (slot_rows h) w)
known_slots c [] legal w = refl
known_slots c (e ∷ h) legal w =
    timed (is_it (replaces e.did) w) (is_it (seats e.did) w) (slot_at (slot_rows (e ∷ h)) w) (turning e.did (latest (e ∷ h))) (slot_time h w)
    (λ two one.
    let given = given_legal c h e.ask e.did legal.1 legal.0 in
    let after = ap (λ s. slot_at s.slots w) (next_is_state c h e legal.1 legal.0) ∙ slot_next c h e.did legal.1 given w in
    known_slots c h legal.1 w ∙ sym (unturned e.did (state c h) w (slot_at (slot_rows h) w) one two) ∙ ap is_some (sym after))

-- the keys of the times are the slots
pub slots_listed : (c : Config) (h : List Entry) (m : Times) (xs : List ℕ) → Legal c h → Timed h m → IsPermutation (keys m.slots) xs → (w : ℕ) → Contains xs w ↔ IsSome (slot_at (state c h).slots w)
slots_listed c h m xs legal timed same w =
    let found = hash_map_contains_key_iff nat_eq_equiv exact_unsigned_eq m.slots w in
    let known = ap is_some (timed.slots w) ∙ known_slots c h legal w in (
      (λ has. sym known ∙ found.1 (Contains-permutation xs (keys m.slots) w (IsPermutation-sym (keys m.slots) xs same) has)),
      (λ is. Contains-permutation (keys m.slots) xs w same (found.0 (known ∙ is))),
    )
