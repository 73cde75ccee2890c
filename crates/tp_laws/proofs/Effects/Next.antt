-- The next state, read row by row: each task's row and each slot's follows the entry's tables.
use Rattle.std.proofs.Common.{◌≡◌, ℕ, ◌<◌, true, false, List, ◌∷◌, Option, Some, None, arith, sym, ap, subst, ◌∙◌, inl, inr}
use Rattle.std.proofs.lemmas.Bool.{cases_lt, cases_eq, eq-eqb, ne_eqb}
use Rattle.std.proofs.lemmas.Bool.Decides.{nat_tests}
use Rattle.tp_types.specs.declared.configs.Config.{Config}
use Rattle.tp_record.specs.declared.entries.Entry.{Entry}
use Rattle.tp_record.specs.declared.entries.Ask.TheVariants as ask
use Rattle.tp_record.specs.declared.entries.Did.{Did}
use Rattle.tp_record.specs.declared.entries.Did.TheVariants as did
use Rattle.tp_record.specs.declared.entries.Offered.TheVariants as offered
use Rattle.tp_record.specs.declared.entries.Took.TheVariants as took
use Rattle.tp_record.specs.declared.rows.TaskRow.{TaskRow}
use Rattle.tp_record.specs.declared.rows.SlotRow.{SlotRow}
use Rattle.tp_record.specs.declared.rows.Stage.TheVariants as stages
use Rattle.tp_record.specs.Lists.{is_it}
use Rattle.tp_record.specs.Effects.{submits, queues, idles}
use Rattle.tp_record.specs.Fields.{submitted, is_queued, is_queued_place, is_slot, is_idle, is_idle_row, task_row, slot_row}
use Rattle.tp_record.specs.State.{state, next, task_at, slot_at, row_after, slot_after}
use Rattle.tp_record.specs.Step.{Legal}
use Rattle.tp_laws.proofs.Model.Weak.{closes}
use Rattle.tp_laws.proofs.Model.Readings.{row_read, row_past, slot_read}
use Rattle.tp_laws.proofs.Model.NextState.{Fits, queue_known, state-more, slot_row-more}
use Rattle.tp_laws.proofs.Model.Given.{Given, HasRow}
use Rattle.tp_laws.proofs.Model.Keystone.{IsSound, sound_more}
use Rattle.tp_laws.proofs.Model.Told.{sound_legal}
use Rattle.tp_laws.specs.View.{put}
use Rattle.tp_laws.proofs.Effects.Names.{is_wide, names, drops, seats, replaces, other_row, other_slot}

-- the entry, whoever asks for it
abbrev pub entry : Did → Entry
entry d = record { by = 0; ask = ask.Tidy; did = d }

-- what the next state needs is among what is given

number_given : (c : Config) (h : List Entry) (d : Did) → Given c h d → (n : ℕ) → submits d ≡ Some n → n ≡ submitted h
number_given c h (did.Submit t k p l) given n is = let e = given.0 in grind arith
number_given c h _ given n is = absurd (grind arith)

unqueued_given : (c : Config) (h : List Entry) (d : Did) → Given c h d → (t : ℕ) → queues d ≡ Some t → is_queued h t ≡ false
unqueued_given c h (did.Offer u offered.Queued) given t is = let same : t ≡ u.0 = grind arith in ap (is_queued h) same ∙ ap is_queued_place given.0.1
unqueued_given c h _ given t is = absurd (grind arith)

joins_given : (c : Config) (h : List Entry) (d : Did) → Given c h d → (t : ℕ) → queues d ≡ Some t → t < submitted h
joins_given c h (did.Offer u offered.Queued) given t is = let e = given.0.0 in let same : t ≡ u.0 = grind arith in omega arith
joins_given c h _ given t is = absurd (grind arith)

pub closes_given : (c : Config) (h : List Entry) (d : Did) → Given c h d → (t : ℕ) → closes d ≡ Some t → t < submitted h
closes_given c h (did.CallerEnd u o) given t is = let e = given.0 in let same : t ≡ u.0 = grind arith in omega arith
closes_given c h _ given t is = grind (arith, nat_tests)

slot_working : (h : List Entry) (w : ℕ) → HasRow h w stages.Working None → (is_slot h w ≡ true) × (is_idle h w ≡ false)
slot_working h w row = (grind arith, ap is_idle_row row)

idles_given : (c : Config) (h : List Entry) (d : Did) → Given c h d → (w : ℕ) → idles d ≡ Some w → (is_slot h w ≡ true) × (is_idle h w ≡ false)
idles_given c h (did.Take u took.Idle) given w is =
    let same : u.0 ≡ w = grind arith in
    subst (λ x. (is_slot h x ≡ true) × (is_idle h x ≡ false)) same (slot_working h u.0 given.0)
idles_given c h _ given w is = absurd (grind arith)

pub fits_given : (c : Config) (h : List Entry) (d : Did) → Legal c h → Given c h d → Fits h d
fits_given c h d legal given = record {
  number = number_given c h d given;
  unqueued = unqueued_given c h d given;
  joins_known = joins_given c h d given;
  closes_known = closes_given c h d given;
  queue_known = queue_known c h legal;
  idles_slot = λ w is. (idles_given c h d given w is).0;
  not_idle = λ w is. (idles_given c h d given w is).1;
}

-- the next state is the state with the entry
pub next_given : (c : Config) (h : List Entry) (d : Did) → Legal c h → Given c h d → state c (entry d ∷ h) ≡ next (state c h) d
next_given c h d legal given = state-more c (entry d) h (fits_given c h d legal given)

-- places and slots agree after the entry
pub sound_given : (c : Config) (h : List Entry) (d : Did) → Legal c h → Given c h d → IsSound (entry d ∷ h)
sound_given c h d legal given = sound_more c (entry d) h given (sound_legal c h legal)

-- a task reads as its row, also one that was never submitted
pub row_sound : (h : List Entry) → IsSound h → (c : Config) (t : ℕ) → task_at (state c h) t ≡ task_row h t
row_sound h sound c t =
    elim (cases_lt t (submitted h)) [
      | inl known ↦ row_read h t known
      | inr past ↦ row_past h t past ∙ sym ((sound t 0).fresh past)
    ]

module _ (c : Config) (h : List Entry) (d : Did) (legal : Legal c h) (given : Given c h d) where
  -- each task's row after the entry
  pub row_next : (t : ℕ) → task_at (next (state c h) d) t ≡ row_after d t (task_at (state c h) t)
  row_next t =
      ap (λ x. task_at x t) (sym (next_given c h d legal given))
      ∙ row_sound (entry d ∷ h) (sound_given c h d legal given) c t
      ∙ ap (row_after d t) (sym (row_sound h (sound_legal c h legal) c t))

  -- each slot after the entry
  pub slot_next : (w : ℕ) → slot_at (next (state c h) d).slots w ≡ slot_after d (state c h) w (slot_at (state c h).slots w)
  slot_next w =
      ap (λ x. slot_at x.slots w) (sym (next_given c h d legal given))
      ∙ slot_read (entry d ∷ h) w
      ∙ slot_row-more c (entry d) h (fits_given c h d legal given) w
      ∙ ap (slot_after d (state c h) w) (sym (slot_read h w))

  -- the slot's row by the entry's words
  pub slot_said : (w : ℕ) → slot_at (next (state c h) d).slots w ≡ slot_row (entry d ∷ h) w
  slot_said w = ap (λ x. slot_at x.slots w) (sym (next_given c h d legal given)) ∙ slot_read (entry d ∷ h) w

  -- no task's row changes
  pub rows_same : is_wide d ≡ false → names d ≡ None → drops d ≡ None → (t : ℕ) → task_at (next (state c h) d) t ≡ task_at (state c h) t
  rows_same narrow none more t = row_next t ∙ other_row d t (task_at (state c h) t) narrow (ap (λ o. is_it o t) none) (ap (λ o. is_it o t) more)

  -- one task's row changes
  pub rows_one : is_wide d ≡ false → (t : ℕ) → names d ≡ Some t → drops d ≡ None → (y : TaskRow) → row_after d t (task_at (state c h) t) ≡ y →
      (u : ℕ) → task_at (next (state c h) d) u ≡ put t y (task_at (state c h)) u
  rows_one narrow t one more y says u = row_next u ∙
      elim (cases_eq u t) [
        | inl same ↦ rw (eq-eqb u t same) (ap (λ x. row_after d x (task_at (state c h) x)) same ∙ says)
        | inr ne ↦ rw (ne_eqb u t ne) (other_row d u (task_at (state c h) u) narrow (ap (λ o. is_it o u) one ∙ ne_eqb u t ne) (ap (λ o. is_it o u) more))
      ]

  -- two tasks' rows change
  pub rows_two : is_wide d ≡ false → (t x : ℕ) → names d ≡ Some t → drops d ≡ Some x → (y z : TaskRow) → (x ≡ t → ⊥) →
      row_after d t (task_at (state c h) t) ≡ y → row_after d x (task_at (state c h) x) ≡ z →
      (u : ℕ) → task_at (next (state c h) d) u ≡ put t y (put x z (task_at (state c h))) u
  rows_two narrow t x one two y z apart says other u = row_next u ∙
      elim (cases_eq u t) [
        | inl same ↦ rw (eq-eqb u t same) (ap (λ k. row_after d k (task_at (state c h) k)) same ∙ says)
        | inr ne ↦ rw (ne_eqb u t ne) (elim (cases_eq u x) [
          | inl same ↦ rw (eq-eqb u x same) (ap (λ k. row_after d k (task_at (state c h) k)) same ∙ other)
          | inr off ↦ rw (ne_eqb u x off) (other_row d u (task_at (state c h) u) narrow (ap (λ o. is_it o u) one ∙ ne_eqb u t ne) (ap (λ o. is_it o u) two ∙ ne_eqb u x off))
        ])
      ]

  -- no slot changes
  pub slots_same : is_wide d ≡ false → seats d ≡ None → replaces d ≡ None → (w : ℕ) → slot_at (next (state c h) d).slots w ≡ slot_at (state c h).slots w
  slots_same narrow none more w =
      slot_next w ∙ other_slot d (state c h) w (slot_at (state c h).slots w) narrow (ap (λ o. is_it o w) none) (ap (λ o. is_it o w) more)

  -- one slot changes
  pub slots_one : is_wide d ≡ false → (w : ℕ) → seats d ≡ Some w → replaces d ≡ None → (o : Option SlotRow) → slot_row (entry d ∷ h) w ≡ o →
      (v : ℕ) → slot_at (next (state c h) d).slots v ≡ put w o (slot_at (state c h).slots) v
  slots_one narrow w one more o says v =
      elim (cases_eq v w) [
        | inl same ↦ rw (eq-eqb v w same) (ap (slot_at (next (state c h) d).slots) same ∙ slot_said w ∙ says)
        | inr ne ↦ rw (ne_eqb v w ne) (slot_next v ∙ other_slot d (state c h) v (slot_at (state c h).slots v) narrow (ap (λ x. is_it x v) one ∙ ne_eqb v w ne) (ap (λ x. is_it x v) more))
      ]

  -- two slots change
  pub slots_two : is_wide d ≡ false → (w x : ℕ) → seats d ≡ Some w → replaces d ≡ Some x → (o p : Option SlotRow) → slot_row (entry d ∷ h) w ≡ o → slot_row (entry d ∷ h) x ≡ p →
      (v : ℕ) → slot_at (next (state c h) d).slots v ≡ put x p (put w o (slot_at (state c h).slots)) v
  slots_two narrow w x one two o p says other v =
      elim (cases_eq v x) [
        | inl same ↦ rw (eq-eqb v x same) (ap (slot_at (next (state c h) d).slots) same ∙ slot_said x ∙ other)
        | inr off ↦ rw (ne_eqb v x off) (elim (cases_eq v w) [
          | inl same ↦ rw (eq-eqb v w same) (ap (slot_at (next (state c h) d).slots) same ∙ slot_said w ∙ says)
          | inr ne ↦ rw (ne_eqb v w ne) (slot_next v ∙ other_slot d (state c h) v (slot_at (state c h).slots v) narrow (ap (λ y. is_it y v) one ∙ ne_eqb v w ne) (ap (λ y. is_it y v) two ∙ ne_eqb v x off))
        ])
      ]

  -- a slot's row by the entry's words, from its row before
  pub said_of_slot : (w : ℕ) (o p : Option SlotRow) → slot_row h w ≡ o → slot_after d (state c h) w o ≡ p → slot_row (entry d ∷ h) w ≡ p
  said_of_slot w o p was says = slot_row-more c (entry d) h (fits_given c h d legal given) w ∙ ap (slot_after d (state c h) w) was ∙ says
