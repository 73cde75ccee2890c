-- Each task is in one place, and each slot has one task.
use Rattle.std.proofs.Common.{◌≡◌, ℕ, ◌≤◌, Bool, true, false, ◌&&◌, cond, List, Some, None, Option, refl, arith, sym, ◌∙◌}
use Rattle.std.specs.Prelude.{nat_lt, ◌||◌, is_some}
use Rattle.std.proofs.lemmas.Bool.{false≢true}
use Rattle.std.proofs.lemmas.Bool.Decides.{nat_tests}
use Rattle.tp_types.specs.declared.configs.Config.{Config}
use Rattle.tp_types.specs.declared.tasks.Place.{Place}
use Rattle.tp_types.specs.declared.tasks.Place.TheVariants as at
use Rattle.tp_record.specs.declared.entries.Entry.{Entry}
use Rattle.tp_record.specs.declared.rows.SlotRow.{SlotRow}
use Rattle.tp_record.specs.Lists.{is_it}
use Rattle.tp_record.specs.Fields.{rank, submitted, place, is_queued_place, slot_row, is_slot, stage, task_in}
use Rattle.tp_record.specs.Words.{is_in, in_slot}
use Rattle.tp_laws.specs.Seats.{slot_of, seat_of}
use Rattle.tp_laws.specs.Agrees.{submitter_of, is_caller_place, is_gone_place}
use Rattle.tp_laws.proofs.Model.Given.{Told}
use Rattle.tp_laws.proofs.Model.Told.{sound_told}
use Rattle.tp_laws.proofs.WordsTasks.{is_submitted_below, in_slot_agrees, queued_agrees, submitter_agrees, caller_agrees, gone_agrees}
use Rattle.tp_laws.proofs.WordsSlots.{slot_agrees}
use Rattle.tp_laws.specs.Laws.{OnePlace, OneTaskASlot, OwedAfterTidy, number_of}
use Rattle.tp_laws.proofs.Slots.{no_slots}

number_one : (p : Place) (known : Bool) → known ≡ true →
    number_of (is_some (submitter_of p)) (is_queued_place p) (is_some (slot_of p)) (is_caller_place p) (known && is_gone_place p) ≡ 1
number_one at.Looking true is = refl
number_one p false is = absurd (false≢true is)
number_one _ true is = refl

-- each submitted task is in just one place
pub one_place : (c : Config) (h : List Entry) → Told c h → OnePlace h
one_place c h told t is =
    rw (submitter_agrees c h told t, queued_agrees c h told t, in_slot_agrees c h told t, caller_agrees c h told t, gone_agrees c h told t)
    (number_one (place h t) (nat_lt t (submitted h)) (sym (is_submitted_below c h told t) ∙ is))

it_is : (o : Option ℕ) (w : ℕ) → is_it o w ≡ true → o ≡ Some w
it_is o w is = grind (arith, nat_tests)

-- a task in a slot is the one that the slot's row names
pub in_seat : (c : Config) (h : List Entry) → Told c h → (w t : ℕ) → is_in h w t ≡ true → seat_of (slot_row h w) ≡ Some t
in_seat c h told w t is =
    (sound_told c h told t w).seated_where_placed (sym (in_slot_agrees c h told t) ∙ it_is (in_slot h t) w is)

seat_is : (b : Bool) (r : SlotRow) (t : ℕ) → seat_of (cond b (Some r) None) ≡ Some t → b ≡ true
seat_is true r t is = refl
seat_is false r t is = absurd (let e : ◌≡◌ {A = Option ℕ} None (Some t) = is in cc)

some_same : (t u : ℕ) → ◌≡◌ {A = Option ℕ} (Some u) (Some t) → u ≡ t
some_same t u is = cc

pub one_task_a_slot : (c : Config) (h : List Entry) → Told c h → OneTaskASlot h
one_task_a_slot c h told w t is = (
  slot_agrees h w ∙ seat_is (is_slot h w) (record { stage = stage h w; task = task_in h w }) t (in_seat c h told w t is),
  λ u too. some_same t u (sym (in_seat c h told w u too) ∙ in_seat c h told w t is),
)

not_in_slot : (c : Config) (h : List Entry) → Told c h → 3 ≤ rank h → (t : ℕ) → is_some (slot_of (place h t)) ≡ false
not_in_slot c h told up t = by_slot (slot_of (place h t)) refl
  where
    by_slot : (o : Option ℕ) → slot_of (place h t) ≡ o → is_some o ≡ false
    by_slot None is = refl
    by_slot (Some w) is =
        absurd (false≢true (sym (no_slots c h told up w)
        ∙ seat_is (is_slot h w) (record { stage = stage h w; task = task_in h w }) t ((sound_told c h told t w).seated_where_placed is)))

-- an open task that is in no slot is with its submitter, at its caller or queued
elsewhere : (p : Place) (known : Bool) → known ≡ true → (known && is_gone_place p) ≡ false → is_some (slot_of p) ≡ false →
    (is_some (submitter_of p) || is_caller_place p || is_queued_place p) ≡ true
elsewhere p known is there out = grind (arith, nat_tests)

pub owed_after_tidy : (c : Config) (h : List Entry) → Told c h → OwedAfterTidy h
owed_after_tidy c h told up t known there =
    rw (submitter_agrees c h told t, queued_agrees c h told t, caller_agrees c h told t)
    (elsewhere (place h t) (nat_lt t (submitted h)) (sym (is_submitted_below c h told t) ∙ known) (sym (gone_agrees c h told t) ∙ there) (not_in_slot c h told up t))
