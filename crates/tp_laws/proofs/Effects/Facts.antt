-- What is read of a task in the state, by the invariants of legal records.
use Rattle.std.proofs.Common.{◌≡◌, ℕ, Bool, true, false, not, ◌||◌, List, None, refl, arith, sym, ap, ◌∙◌}
use mathlib.Core.Path.{fun_ext}
use Rattle.std.specs.Prelude.{is_some}
use Rattle.tp_types.specs.declared.configs.Config.{Config}
use Rattle.tp_types.specs.declared.tasks.Place.TheVariants as at
use Rattle.tp_record.specs.declared.entries.Entry.{Entry}
use Rattle.tp_record.specs.declared.entries.Did.{Did}
use Rattle.tp_record.specs.Effects.{is_plain_fault}
use Rattle.tp_record.specs.Fields.{place, owes_second, is_cancelled, ending, is_done, kind, submitted, task_row}
use Rattle.tp_record.specs.State.{state, task_at, no_row}
use Rattle.tp_record.specs.Step.{Legal}
use Rattle.tp_laws.proofs.Model.Told.{told_legal, sound_legal}
use Rattle.tp_laws.proofs.Effects.Next.{row_sound}
use Rattle.tp_laws.proofs.Effects.Invariants.{is_gone, unended, done_closed}

new_none : (c : Config) (h : List Entry) → Legal c h → (t : ℕ) → t ≡ submitted h → task_row h t ≡ no_row
new_none c h legal t number = (sound_legal c h legal t 0).fresh (omega arith)

-- the next task is in no place, and owes nothing
pub new_gone : (c : Config) (h : List Entry) → Legal c h → (t : ℕ) → t ≡ submitted h → place h t ≡ at.Gone
new_gone c h legal t number = ap (λ r. r.place) (new_none c h legal t number)

pub new_unowing : (c : Config) (h : List Entry) → Legal c h → (t : ℕ) → t ≡ submitted h → owes_second h t ≡ false
new_unowing c h legal t number = ap (λ r. r.second) (new_none c h legal t number)

pub cancelled_read : (c : Config) (h : List Entry) → Legal c h → (t : ℕ) → (task_at (state c h) t).cancelled ≡ is_cancelled h t
cancelled_read c h legal t = ap (λ r. r.cancelled) (row_sound h (sound_legal c h legal) c t)

pub ending_read : (c : Config) (h : List Entry) → Legal c h → (t : ℕ) → (task_at (state c h) t).ending ≡ ending h t
ending_read c h legal t = ap (λ r. r.ending) (row_sound h (sound_legal c h legal) c t)

-- a task that is not gone has no ending
pub open_row : (c : Config) (h : List Entry) → Legal c h → (t : ℕ) → is_gone (place h t) ≡ false → (task_at (state c h) t).ending ≡ None
open_row c h legal t there = ap (λ r. r.ending) (row_sound h (sound_legal c h legal) c t) ∙ unended c h (told_legal c h legal) t there

-- a task that has no ending and was not cancelled is not done
pub unclosed : (c : Config) (h : List Entry) → Legal c h → (t : ℕ) → is_cancelled h t ≡ false → ending h t ≡ None → is_done h t ≡ false
unclosed c h legal t alive none = by_done (is_done h t) refl
  where
    neither : (a b : Bool) → a ≡ false → b ≡ false → (a || b) ≡ true → ⊥
    neither a b off out is = absurd (grind arith)

    by_done : (b : Bool) → is_done h t ≡ b → is_done h t ≡ false
    by_done true is = absurd (neither (is_cancelled h t) (is_some (ending h t)) alive (ap is_some none) (done_closed c h (told_legal c h legal) t is))
    by_done false is = is

-- nor is one that is not gone, unless it was cancelled
pub undone : (c : Config) (h : List Entry) → Legal c h → (t : ℕ) → is_gone (place h t) ≡ false → not (task_at (state c h) t).cancelled ≡ true → is_done h t ≡ false
undone c h legal t there alive =
    unclosed c h legal t (sym (ap (λ r. r.cancelled) (row_sound h (sound_legal c h legal) c t)) ∙ off (task_at (state c h) t).cancelled alive) (unended c h (told_legal c h legal) t there)
  where
    off : (b : Bool) → not b ≡ true → b ≡ false
    off true is = absurd (grind arith)
    off false is = refl

-- whether an entry ends a plain task with a fault, by the kinds in the state
pub faults_read : (c : Config) (h : List Entry) → Legal c h → (d : Did) → is_plain_fault d (kind h) ≡ is_plain_fault d (λ x. (task_at (state c h) x).kind)
faults_read c h legal d = ap (is_plain_fault d) (fun_ext (λ x. ap (λ r. r.kind) (sym (row_sound h (sound_legal c h legal) c x))))
