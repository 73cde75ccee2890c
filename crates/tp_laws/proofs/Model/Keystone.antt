-- Places and slots agree: a task is placed in a slot exactly where the slot holds it. Here: each entry keeps that.
use Rattle.std.proofs.Common.{◌≡◌, ℕ, suc, ◌≤◌, Bool, true, false, List, [], ◌∷◌, Option, Some, None, refl, arith}
use Rattle.std.specs.Prelude.{unwrap_or, is_some, is_none, if◌then◌else◌}
use Rattle.std.proofs.lemmas.Bool.Decides.{nat_tests}
use Rattle.tp_types.specs.declared.configs.Config.{Config}
use Rattle.tp_types.specs.declared.ids.TaskId.{TaskId}
use Rattle.tp_types.specs.declared.tasks.Place.{Place}
use Rattle.tp_types.specs.declared.tasks.Place.TheVariants as at
use Rattle.tp_record.specs.declared.entries.Entry.{Entry}
use Rattle.tp_record.specs.declared.entries.Did.{Did}
use Rattle.tp_record.specs.declared.entries.Did.TheVariants as did
use Rattle.tp_record.specs.declared.rows.Stage.{Stage}
use Rattle.tp_record.specs.declared.rows.Stage.TheVariants as stages
use Rattle.tp_record.specs.declared.rows.SlotRow.{SlotRow}
use Rattle.tp_record.specs.declared.rows.TaskRow.{TaskRow}
use Rattle.tp_record.specs.Lists.{said_of}
use Rattle.tp_record.specs.Effects.{holds, turned, seated, is_plain_fault, is_submit}
use Rattle.tp_record.specs.Fields.{slot_row, woken, now, kind, is_slot, stage, task_in, submitted, task_row}
use Rattle.tp_record.specs.State.{row_after, no_row}
use Rattle.tp_laws.specs.Seats.{slot_of, seat_of}
use Rattle.tp_laws.proofs.Model.Given.{Given}

-- a task in this place stands in a slot of this stage
abbrev pub fits_stage : Place → Stage → Bool
fits_stage p stages.Working = true
fits_stage (at.Held w) stages.ReservedCore = true
fits_stage (at.Held w) stages.ReservedMaximum = true
fits_stage p s = false

abbrev pub fits_row : Place → Option SlotRow → Bool
fits_row p None = false
fits_row p (Some r) = fits_stage p r.stage

-- a slot of this stage has such a task: a slot that is reserved for one has it, and one that is bare, idle or dying none
abbrev pub suits : Stage → Option TaskId → Bool
suits stages.Working o = true
suits stages.ReservedCore o = is_some o
suits stages.ReservedMaximum o = is_some o
suits _ o = is_none o

abbrev pub suits_row : Option SlotRow → Bool
suits_row None = true
suits_row (Some r) = suits r.stage r.task

-- what is known together of task t in row r and of slot w in row s, where n tasks were submitted
pub record Agrees (n t w : ℕ) (r : TaskRow) (s : Option SlotRow) : Type 0 where
  -- a task that is placed in a slot is the slot's task
  pub seated_where_placed : slot_of r.place ≡ Some w → seat_of s ≡ Some t
  -- a slot's task is placed in it
  pub placed_where_seated : seat_of s ≡ Some t → slot_of r.place ≡ Some w
  -- the slot is live and working, or is reserved and the task is held
  pub staged : slot_of r.place ≡ Some w → fits_row r.place s ≡ true
  -- a slot that is reserved for a first task has it, and one that is bare, idle or dying has none
  pub suited : suits_row s ≡ true
  -- a task that was never submitted has no row
  pub fresh : n ≤ t → r ≡ no_row

-- the number of submissions after an entry
abbrev submitted_next : List Entry → Did → ℕ
submitted_next h d = if is_submit d then suc (submitted h) else submitted h

-- slot w after an entry
abbrev slot_next : List Entry → Did → ℕ → Option SlotRow
slot_next h d w =
    if unwrap_or (said_of w (holds d)) (is_slot h w)
    then Some (record {
      stage = unwrap_or (said_of w (turned (now h) (is_plain_fault d (kind h)) d)) (woken d (stage h w));
      task = unwrap_or (said_of w (seated d)) (task_in h w);
    })
    else None

-- an entry that says what is given of it keeps what is known of t and w
abbrev Keeps : Config → List Entry → Did → ℕ → ℕ → Type 0
Keeps c h d t w =
    Given c h d → Agrees (submitted h) t w (task_row h t) (slot_row h w) →
    Agrees (submitted_next h d) t w (row_after d t (task_row h t)) (slot_next h d w)

entry_keeps : (c : Config) (h : List Entry) (d : Did) (t w : ℕ) → Keeps c h d t w
entry_keeps c h (did.Submit u k p l) t w given was = record {
  seated_where_placed = grind (arith, nat_tests);
  placed_where_seated = grind (arith, nat_tests);
  staged = grind (arith, nat_tests);
  suited = grind (arith, nat_tests);
  fresh = grind (arith, nat_tests);
}
entry_keeps c h _ t w given was = record {
  seated_where_placed = grind (arith, nat_tests);
  placed_where_seated = grind (arith, nat_tests);
  staged = grind (arith, nat_tests);
  suited = grind (arith, nat_tests);
  fresh = grind (arith, nat_tests);
}

-- places and slots agree in this history
abbrev pub IsSound : List Entry → Type 0
IsSound h = (t w : ℕ) → Agrees (submitted h) t w (task_row h t) (slot_row h w)

pub sound_nil : IsSound []
sound_nil t w = record {
  seated_where_placed = λ e. absurd (grind arith);
  placed_where_seated = λ e. absurd (grind arith);
  staged = λ e. absurd (grind arith);
  suited = refl;
  fresh = λ past. refl;
}

-- an entry that says what is given of it leaves places and slots in agreement
pub sound_more : (c : Config) (e : Entry) (h : List Entry) → Given c h e.did → IsSound h → IsSound (e ∷ h)
sound_more c e h given sound t w = entry_keeps c h e.did t w given (sound t w)
