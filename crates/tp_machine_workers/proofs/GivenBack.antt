-- A reserved slot that is given back: what is seen and owed after either entry.
use Rattle.std.proofs.Common.{◌≡◌, ℕ, ◌-◌, ◌⊎◌, inl, inr, List, Option, Some, None, true, sym, subst, ap, ◌≤◌, arith}
use Rattle.std.specs.Prelude.{IfSome}
use Rattle.tp_types.specs.declared.configs.Config.{Config}
use Rattle.tp_types.specs.declared.ids.SlotId.{SlotId}
use Rattle.tp_types.specs.declared.ids.TaskId.{TaskId}
use Rattle.tp_types.specs.declared.tasks.Place.TheVariants as at
use Rattle.tp_record.specs.declared.entries.Entry.{Entry}
use Rattle.tp_record.specs.declared.entries.Ask.{Ask}
use Rattle.tp_record.specs.declared.entries.Did.{Did}
use Rattle.tp_record.specs.declared.rows.SlotRow.{SlotRow}
use Rattle.tp_record.specs.declared.rows.Stage.TheVariants as stages
use Rattle.tp_record.specs.State.{state, task_at, slot_at}
use Rattle.tp_record.specs.Step.{Legal, slot_count}
use Rattle.tp_slots.specs.Table.{is_reserved_row}
use Rattle.tp_laws.proofs.Model.Given.{Given, IsAt, HasRow, ReservedWith}
use Rattle.tp_laws.specs.View.{view, Effect, put}
use Rattle.tp_laws.proofs.Effects.Rows.{moved_to, for_core, for_maximum}
use Rattle.tp_laws.proofs.Effects.Workers.Fail.{fail_bare, fail_refuse_core, fail_refuse_maximum}
use Rattle.tp_laws.proofs.Effects.Workers.Open.{open_given_up, open_refuse_core, open_refuse_maximum}
use Rattle.tp_machine_workers.specs.Freed.{GivesBack, TurnsAway, first_weight}
use Rattle.tp_machine_workers.proofs.Reserved.{IsFor}

abbrev pub Back : Config → List Entry → SlotId → Did → Type 0
Back c h w d =
    Effect (state c h) d
    (record (view (state c h)) {
      slots = put w.0 None (slot_at (state c h).slots);
      taken = slot_count (state c h) - 1;
    }) 3 0

-- a bare slot
pub given_back : (c : Config) (h : List Entry) (w : SlotId) (a : Ask) (d : Did) → GivesBack w a d → Legal c h → Given c h d → Back c h w d
given_back c h w a d (inl is) legal given = subst (Back c h w) (sym is.1) (fail_bare c h w legal (subst (Given c h) is.1 given))
given_back c h w a d (inr is) legal given = subst (Back c h w) (sym is.1) (open_given_up c h w legal (subst (Given c h) is.1 given))

-- the slot is bare
pub back_here : (c : Config) (h : List Entry) (w : SlotId) (a : Ask) (d : Did) → GivesBack w a d → Given c h d → HasRow h w.0 stages.ReservedBare None
back_here c h w a d (inl is) given = subst (Given c h) is.1 given
back_here c h w a d (inr is) given = (subst (Given c h) is.1 given).0

-- the first task of a slot with this row, and what is no longer owed once it is refused
abbrev pub IsFirst : Option SlotRow → TaskId → ℕ → Type 0
IsFirst o t n = ((o ≡ Some (for_core t)) × (n ≡ 10)) ⊎ ((o ≡ Some (for_maximum t)) × (n ≡ 6))

pub is_first : (o : Option SlotRow) (t : TaskId) (n : ℕ) → IsFor o t → IfSome o (λ r. n ≡ first_weight r.stage) → IsFirst o t n
is_first o t n (inl e) weighs = inl (e, subst (λ x. IfSome x (λ r. n ≡ first_weight r.stage)) e weighs)
is_first o t n (inr e) weighs = inr (e, subst (λ x. IfSome x (λ r. n ≡ first_weight r.stage)) e weighs)

pub first_least : (o : Option SlotRow) (t : TaskId) (n : ℕ) → IsFirst o t n → 1 ≤ n
first_least o t n (inl first) = let is = first.1 in omega (arith, is)
first_least o t n (inr first) = let is = first.1 in omega (arith, is)

pub first_reserved : (o : Option SlotRow) (t : TaskId) → IsFor o t → is_reserved_row o ≡ true
first_reserved o t (inl e) = ap is_reserved_row e
first_reserved o t (inr e) = ap is_reserved_row e

-- the slot is reserved with that task, which it holds
pub reserved_with : (c : Config) (h : List Entry) (w : SlotId) (t : TaskId) (a : Ask) (d : Did) → TurnsAway w t a d → Given c h d → ReservedWith h w.0 t × IsAt h t.0 (at.Held w)
reserved_with c h w t a d (inl is) given =
    let g = subst (Given c h) is.1 given in
    (elim g.0 [ inl most ↦ inr most | inr core ↦ inl core.0 ], g.1)
reserved_with c h w t a d (inr is) given = let g = subst (Given c h) is.1 given in (g.0, g.1)

abbrev pub Turned : Config → List Entry → SlotId → TaskId → ℕ → Did → Type 0
Turned c h w t n d =
    Effect (state c h) d
    (record (view (state c h)) {
      tasks = put t.0 (moved_to at.Refused (task_at (state c h) t.0)) (task_at (state c h));
      slots = put w.0 None (slot_at (state c h).slots);
      taken = slot_count (state c h) - 1;
    }) n 0

-- a slot with a first task
pub turned_away : (c : Config) (h : List Entry) (w : SlotId) (t : TaskId) (n : ℕ) (a : Ask) (d : Did) → TurnsAway w t a d → IsFirst (slot_at (state c h).slots w.0) t n → Legal c h → Given c h d → Turned c h w t n d
turned_away c h w t n a d (inl is) (inl first) legal given =
    subst (λ m. Turned c h w t m d) (sym first.1) (subst (Turned c h w t 10) (sym is.1) (fail_refuse_core c h w t legal (subst (Given c h) is.1 given) first.0))
turned_away c h w t n a d (inl is) (inr first) legal given =
    subst (λ m. Turned c h w t m d) (sym first.1) (subst (Turned c h w t 6) (sym is.1) (fail_refuse_maximum c h w t legal (subst (Given c h) is.1 given) first.0))
turned_away c h w t n a d (inr is) (inl first) legal given =
    subst (λ m. Turned c h w t m d) (sym first.1) (subst (Turned c h w t 10) (sym is.1) (open_refuse_core c h w t legal (subst (Given c h) is.1 given) first.0))
turned_away c h w t n a d (inr is) (inr first) legal given =
    subst (λ m. Turned c h w t m d) (sym first.1) (subst (Turned c h w t 6) (sym is.1) (open_refuse_maximum c h w t legal (subst (Given c h) is.1 given) first.0))
