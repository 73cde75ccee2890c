-- What is owed after an entry of a legal history, by what is owed at what it names, or by what it sweeps.
use Rattle.std.proofs.Common.{◌≡◌, ℕ, ◌+◌, ◌-◌, Bool, true, false, List, ◌∷◌, Option, Some, None, refl, arith, sym, ap, ◌∙◌, inl, inr}
use mathlib.Core.Path.{ap₂, fun_ext}
use Rattle.std.specs.Prelude.{◌==◌, count_by, if◌then◌else◌}
use Rattle.std.proofs.lemmas.Bool.{false≢true}
use Rattle.std.proofs.lemmas.Option.{none-some}
use Rattle.tp_types.specs.declared.configs.Config.{Config}
use Rattle.tp_record.specs.declared.entries.Entry.{Entry}
use Rattle.tp_record.specs.declared.entries.Did.{Did}
use Rattle.tp_record.specs.declared.entries.Did.TheVariants as did
use Rattle.tp_record.specs.declared.entries.Ruled.TheVariants as ruled
use Rattle.tp_record.specs.declared.entries.Opened.TheVariants as opened
use Rattle.tp_record.specs.declared.rows.SlotRow.{SlotRow}
use Rattle.tp_record.specs.declared.rows.Stage.{Stage}
use Rattle.tp_record.specs.declared.rows.Stage.TheVariants as stages
use Rattle.tp_record.specs.Fields.{rank, is_slot, task_in, slot_row, stage}
use Rattle.tp_record.specs.State.{State, state, next, due, slot_at, row_after, slot_after, slot_weight, is_core_slot}
use Rattle.tp_record.specs.Step.{Legal}
use Rattle.tp_laws.proofs.Model.Readings.{slot_read}
use Rattle.tp_laws.proofs.Model.NextState.{slot_row-more}
use Rattle.tp_laws.proofs.Model.Given.{Given}
use Rattle.tp_laws.specs.Seats.{number_of}
use Rattle.tp_laws.proofs.Model.Told.{sound_legal}
use Rattle.tp_laws.proofs.Model.Totals.{at_named}
use Rattle.tp_laws.proofs.Model.Weights.{weight_of, is_core, task_due, slot_due}
use Rattle.tp_laws.proofs.Effects.Names.{is_wide, names, beside, seats, replaces, rank_still}
use Rattle.tp_laws.proofs.Effects.Next.{entry, fits_given, row_sound}
use Rattle.tp_laws.proofs.Effects.Sums.{named_due, due_next}
use Rattle.tp_laws.proofs.Effects.Controllers.Shutdown as wakes
use Rattle.tp_laws.proofs.Effects.Controllers.Shutdown.{shutdown}
use Rattle.tp_laws.proofs.Effects.Controllers.Stop.{stop}
use Rattle.tp_laws.proofs.Effects.Controllers.Purge.{purge}
use Rattle.tp_laws.proofs.Effects.Controllers.Tidy.{tidy, ended}
use Rattle.tp_audit.specs.SlotTable as slot_table
use Rattle.tp_audit.specs.Tables.{undone}
use Rattle.tp_audit.specs.Owed.{beside_in, seated_number, core_now, task_now, task_then, slot_now, slot_then, owed_now, owed_then, takers, falls, due_by}

module _ (c : Config) (h : List Entry) where
  cores : is_core h ≡ core_now (state c h)
  cores = fun_ext (λ w. ap is_core_slot (sym (slot_read h w)))

  tasks_before : Legal c h → task_due h ≡ task_now (state c h)
  tasks_before legal = fun_ext (λ t. ap₂ weight_of cores (sym (row_sound h (sound_legal c h legal) c t)))

  slots_before : slot_due h ≡ slot_now (state c h)
  slots_before = fun_ext (λ w. ap (slot_weight (rank h)) (sym (slot_read h w)))

  -- the slot of an opened worker
  seated_read : (w : ℕ) (r : SlotRow) → slot_row h w ≡ Some r → number_of (task_in h w) ≡ seated_number (slot_at (state c h).slots w)
  seated_read w r is = by_slot (is_slot h w) refl ∙ ap seated_number (sym (slot_read h w))
    where
      by_slot : (b : Bool) → is_slot h w ≡ b → number_of (task_in h w) ≡ seated_number (slot_row h w)
      by_slot true on = rw on refl
      by_slot false off = absurd (none-some r (sym (ap (λ b. if b then Some (record { stage = stage h w; task = task_in h w }) else None) off) ∙ is))

  beside_read : (d : Did) → Given c h d → beside h d ≡ beside_in (state c h) d
  beside_read (did.Open w opened.Live) given = elim given [ inl bare ↦ seated_read w.0 _ bare.0 | inr held ↦ elim held.1 [ inl core ↦ seated_read w.0 _ core | inr most ↦ seated_read w.0 _ most ] ]
  beside_read (did.Verdict t v (ruled.RetryDrop u)) given = refl
  beside_read d given = grind arith

module _ (c : Config) (h : List Entry) (d : Did) (legal : Legal c h) (given : Given c h d) (narrow : is_wide d ≡ false) where
  slot_more : (w : ℕ) → slot_row (entry d ∷ h) w ≡ slot_after d (state c h) w (slot_at (state c h).slots w)
  slot_more w = slot_row-more c (entry d) h (fits_given c h d legal given) w ∙ ap (slot_after d (state c h) w) (sym (slot_read h w))

  tasks_later : task_due (entry d ∷ h) ≡ task_then d (state c h)
  tasks_later = fun_ext (λ t. ap₂ weight_of (fun_ext (λ w. ap is_core_slot (slot_more w))) (ap (row_after d t) (sym (row_sound h (sound_legal c h legal) c t))))

  slots_later : slot_due (entry d ∷ h) ≡ slot_then d (state c h)
  slots_later =
      let z = rank_still d narrow in
      let stays : rank (entry d ∷ h) ≡ rank h = omega (arith, z) in
      fun_ext (λ w. ap₂ slot_weight stays (slot_more w))

  -- what is owed changes as it does at what the entry names
  pub owed_named : due (next (state c h) d) + owed_now d (state c h) ≡ due (state c h) + owed_then d (state c h)
  owed_named =
      let e = due_next c h d legal given narrow in
      let b = beside_read c h d given in
      let before : named_due h d h ≡ owed_now d (state c h) =
      λ i. at_named (tasks_before c h legal i) (names d) + at_named (tasks_before c h legal i) (b i) + (at_named (slots_before c h i) (seats d) + at_named (slots_before c h i) (replaces d)) in
      let after : named_due h d (entry d ∷ h) ≡ owed_then d (state c h) =
      λ i. at_named (tasks_later i) (names d) + at_named (tasks_later i) (b i) + (at_named (slots_later i) (seats d) + at_named (slots_later i) (replaces d)) in
      omega (arith, e, before, after)

same_taking : (o : Option SlotRow) → wakes.is_at_take o ≡ slot_table.is_at_take o
same_taking None = refl
same_taking (Some r) = by_stage r.stage
  where
    by_stage : (g : Stage) → wakes.is_at_take (Some (record { stage = g; task = r.task })) ≡ slot_table.is_at_take (Some (record { stage = g; task = r.task }))
    by_stage stages.Working = refl
    by_stage g = grind arith

taken_same : (s : State) → (if s.rank == 0 then count_by wakes.is_at_take s.slots else 0) ≡ takers s
taken_same s = ap (λ p. if s.rank == 0 then count_by p s.slots else 0) (fun_ext same_taking)

-- what is owed falls with what the entry sweeps
pub owed_falls : (c : Config) (h : List Entry) (d : Did) → Legal c h → Given c h d → is_wide d ≡ true → due (next (state c h) d) + falls d (state c h) ≡ due (state c h)
owed_falls c h did.Shutdown legal given wide = let e = (shutdown c h legal given).owes in let t = taken_same (state c h) in omega (arith, e, t)
owed_falls c h (did.Stop n) legal given wide = let e = (stop c h n legal given).owes in let t = taken_same (state c h) in omega (arith, e, t)
owed_falls c h did.Tidy legal given wide = let e = (tidy c h legal given).owes in omega (arith, e)
owed_falls c h did.Ended legal given wide = let e = (ended c h legal given).owes in omega (arith, e)
owed_falls c h (did.Purge n) legal given wide = let e = (purge c h n legal given).owes in omega (arith, e)
owed_falls c h _ legal given wide = absurd (false≢true wide)

-- what is owed after an entry
pub due_given : (c : Config) (h : List Entry) (d : Did) → Legal c h → Given c h d → due_by d (state c h) (due (state c h)) ≡ due (next (state c h) d)
due_given c h d legal given = by_test (is_wide d) refl
  where
    by_test : (b : Bool) → is_wide d ≡ b → due_by d (state c h) (due (state c h)) ≡ due (next (state c h) d)
    by_test true is = let e = owed_falls c h d legal given is in rw is (omega (arith, e))
    by_test false is = let e = owed_named c h d legal given is in rw is (omega (arith, e))

-- what is owed does not go by what is done

beside_undone : (s : State) (d : Did) → beside_in (undone s) d ≡ beside_in s d
beside_undone s (did.Verdict t v (ruled.RetryDrop u)) = refl
beside_undone s (did.Open w opened.Live) = refl
beside_undone s _ = refl

falls_undone : (d : Did) (s : State) → falls d (undone s) ≡ falls d s
falls_undone did.Shutdown s = refl
falls_undone (did.Stop n) s = refl
falls_undone did.Tidy s = refl
falls_undone did.Ended s = refl
falls_undone (did.Purge n) s = refl
falls_undone _ s = refl

pub due_undone : (d : Did) (s : State) (n : ℕ) → due_by d (undone s) n ≡ due_by d s n
due_undone d s n =
    let b = beside_undone s d in
    let then_same : owed_then d (undone s) ≡ owed_then d s =
    λ i. at_named (task_then d s) (names d) + at_named (task_then d s) (b i) + (at_named (slot_then d s) (seats d) + at_named (slot_then d s) (replaces d)) in
    let now_same : owed_now d (undone s) ≡ owed_now d s =
    λ i. at_named (task_now s) (names d) + at_named (task_now s) (b i) + (at_named (slot_now s) (seats d) + at_named (slot_now s) (replaces d)) in
    λ i. if is_wide d then n - falls_undone d s i else n + then_same i - now_same i
