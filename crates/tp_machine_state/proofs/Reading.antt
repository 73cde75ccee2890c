-- What is read of the structures is what the state says.
use Rattle.std.proofs.Common.{◌≡◌, ℕ, Bool, true, false, not, ◌&&◌, List, [], ◌∷◌, length, Option, Some, None, sym, ap, ap₂, refl, inl, inr, ◌∙◌}
use Rattle.std.specs.Prelude.{option_map, slice_get, if◌then◌else◌}
use Rattle.std.proofs.lemmas.Bool.{cases_lt, lt-ltb, true≢false}
use Rattle.std.proofs.lemmas.List.{get_or_past}
use Rattle.std.proofs.lemmas.Option.{same_Some, none-some}
use Rattle.tp_types.specs.declared.configs.Config.{Config}
use Rattle.tp_types.specs.declared.ids.SlotId.{SlotId}
use Rattle.tp_types.specs.declared.tasks.Place.TheVariants as at
use Rattle.tp_record.specs.declared.entries.Entry.{Entry}
use Rattle.tp_record.specs.declared.rows.TaskRow.{TaskRow}
use Rattle.tp_record.specs.Left.{mark, MayAll}
use Rattle.tp_record.specs.Lists.{is_among}
use Rattle.tp_record.specs.State.{State, state, task_at, no_row}
use Rattle.tp_record.specs.Step.{is_known}
use Rattle.tp_rules.specs.Answers.{known_row}
use Rattle.tp_slots.specs.Table.{first_slot}
use Rattle.tp_tasks.specs.Tasks.{row_of}
use Rattle.tp_machine_state.specs.declared.parts.Parts.{Parts}
use Rattle.tp_machine_state.specs.Shows.{Shows, Reads, AreGone}
use Rattle.tp_machine_state.specs.Terms.{terms}

module _ {P : Type 0} (p : Parts P) (s : State) (sh : Shows p s) where
  -- a task's row
  pub row_shown : (t : ℕ) (r : TaskRow) → row_of p.tasks t ≡ Some r → (is_known s t ≡ true) × (task_at s t ≡ r)
  row_shown t r is = by (is_known s t) refl
    where
      by : (b : Bool) → is_known s t ≡ b → (is_known s t ≡ true) × (task_at s t ≡ r)
      by true known = (known, same_Some (task_at s t) r (sym (sh.seen.rows t known) ∙ is))
      by false off = absurd (none-some r (sym (sh.seen.unknown t off) ∙ is))

  -- or none, where it is not known
  pub row_read : (t : ℕ) → row_of p.tasks t ≡ known_row s t
  row_read t = by (is_known s t) refl
    where
      by : (b : Bool) → is_known s t ≡ b → row_of p.tasks t ≡ (if b then Some (task_at s t) else None)
      by true known = sh.seen.rows t known
      by false off = sh.seen.unknown t off

-- where tasks are marked that may be released, one that is not known is gone
all_gone : (c : Config) (h : List Entry) (rs : List ℕ) → MayAll rs (state c h) → AreGone (mark rs (state c h))
all_gone c h rs may t off = by (is_among t rs) refl
  where
    by : (b : Bool) → is_among t rs ≡ b → (task_at (state c h) t).place ≡ at.Gone
    by true among = (may.each t among).gone
    by false kept = elim (cases_lt t (length (state c h).tasks)) [
      | inl below ↦ absurd (true≢false (sym (ap₂ (λ a b. not a && b) kept (lt-ltb t (length (state c h).tasks) below)) ∙ off))
      | inr past ↦ ap (λ (r : TaskRow). r.place) (get_or_past (state c h).tasks t no_row past)
    ]

-- so such a state is read
pub reads_marked : {P : Type 0} (p : Parts P) (h : List Entry) (rs : List ℕ) → MayAll rs (state (terms p) h) → Shows p (mark rs (state (terms p) h)) → Reads p (mark rs (state (terms p) h))
reads_marked p h rs may sh = record { shows = sh; gone = all_gone (terms p) h rs may }

-- the slot that is idle longest, by its number
pub first_idle : (xs : List ℕ) (o : Option SlotId) → o ≡ first_slot xs → option_map (λ w. w.0) o ≡ slice_get xs 0
first_idle [] o is = ap (option_map (λ (w : SlotId). w.0)) is
first_idle (w ∷ ws) o is = ap (option_map (λ (v : SlotId). v.0)) is
