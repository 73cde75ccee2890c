-- What is read of the rows of a history, and of the fronts of a legal record.
use Rattle.std.proofs.Common.{◌≡◌, ℕ, ◌+◌, ◌<◌, ◌≤◌, Bool, false, List, [], ◌∷◌, ◌++◌, length, None, refl, arith, ap, ◌∙◌, inl, inr}
use Rattle.std.specs.Prelude.{unwrap_or}
use Rattle.std.proofs.lemmas.Bool.{cases_lt}
use Rattle.std.proofs.lemmas.Bool.Decides.{nat_tests}
use Rattle.std.proofs.lemmas.List.{get_or_past}
use Rattle.tp_types.specs.declared.configs.Config.{Config}
use Rattle.tp_record.specs.declared.entries.Entry.{Entry}
use Rattle.tp_record.specs.declared.entries.Did.{Did}
use Rattle.tp_record.specs.Lists.{said_of}
use Rattle.tp_record.specs.Effects.{reserves, holds}
use Rattle.tp_record.specs.Fields.{task_row, task_rows, submitted, is_slot, slot_bound, reach, slot_row, slot_rows}
use Rattle.tp_record.specs.State.{state, no_row, row_at, slot_at}
use Rattle.tp_record.specs.Step.{Legal, Gives}
use Rattle.tp_laws.proofs.Model.ListLaws.{length-map_count, get_or-map_count}

-- there are as many rows as submissions
pub tasks_counted : (h : List Entry) → length (task_rows h) ≡ submitted h
tasks_counted h = length-map_count (task_row h) 0 (submitted h)

-- a submitted task reads as its row
pub row_read : (h : List Entry) (t : ℕ) → t < submitted h → row_at (task_rows h) t ≡ task_row h t
row_read h t known =
    let e : t + 0 ≡ t = omega arith in
    get_or-map_count (task_row h) 0 (submitted h) t no_row known ∙ ap (task_row h) e

-- a task that was never submitted reads as no row
pub row_past : (h : List Entry) (t : ℕ) → submitted h ≤ t → row_at (task_rows h) t ≡ no_row
row_past h t past = get_or_past (task_rows h) t no_row (let n = tasks_counted h in omega arith)

-- there are as many rows of slots as the bound says
pub slots_counted : (h : List Entry) → length (slot_rows h) ≡ slot_bound h
slots_counted h = length-map_count (slot_row h) 0 (slot_bound h)

-- an entry makes no slot with a number past those that it reserves
said_below : (d : Did) (w : ℕ) (b : Bool) → b ≡ false → reach (reserves d) ≤ w → unwrap_or (said_of w (holds d)) b ≡ false
said_below d w b is far = grind (arith, nat_tests)

-- slots have numbers below the bound
pub slot_below : (h : List Entry) (w : ℕ) → slot_bound h ≤ w → is_slot h w ≡ false
slot_below [] w far = refl
slot_below (e ∷ h) w far = said_below e.did w (is_slot h w) (slot_below h w (omega arith)) (omega arith)

-- each number reads as its slot, or as none
pub slot_read : (h : List Entry) (w : ℕ) → slot_at (slot_rows h) w ≡ slot_row h w
slot_read h w =
    elim (cases_lt w (slot_bound h)) [
      | inl below ↦
          let e : w + 0 ≡ w = omega arith in
          get_or-map_count (slot_row h) 0 (slot_bound h) w None below ∙ ap (slot_row h) e
      | inr past ↦
          get_or_past (slot_rows h) w None (let n = slots_counted h in omega arith)
          ∙ rw (slot_below h w past) refl
    ]

-- each front of a legal record is legal
pub legal_front : (c : Config) (e : Entry) (h : List Entry) → Legal c (e ∷ h) → Legal c h
legal_front c e h legal = legal.1

-- and so is each shorter one
pub legal_tail : (c : Config) (xs h : List Entry) → Legal c (xs ++ h) → Legal c h
legal_tail c [] h legal = legal
legal_tail c (x ∷ xs) h legal = legal_tail c xs h legal.1

-- an entry of a legal record is given after those before it
pub entry_given : (c : Config) (e : Entry) (h : List Entry) → Legal c (e ∷ h) → Gives c (state c h) e.ask e.did
entry_given c e h legal = legal.0
