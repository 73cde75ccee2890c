-- Where the pool keeps all that idle, none of them leaves.
use Rattle.std.proofs.Common.{◌≡◌, ℕ, Bool, true, false, cond, ◌||◌, List, [], ◌∷◌, Option, Some, None, Ok, Err, refl, sym, ap, ap₂, subst, ◌∙◌, arith}
use Rattle.std.specs.Prelude.{◌-◌, ◌==◌, ◌&&◌, not, nat_le, nat_lt, length}
use Rattle.std.proofs.lemmas.Bool.{false≢true}
use Rattle.tp_types.specs.declared.ids.SlotId.{SlotId}
use Rattle.tp_types.specs.declared.ids.TaskId.{TaskId}
use Rattle.tp_types.specs.declared.refusals.PoolError.TheVariants.{NotThere}
use Rattle.tp_types.specs.declared.tasks.Place.{Place}
use Rattle.tp_types.specs.declared.tasks.Place.TheVariants as at
use Rattle.tp_record.specs.declared.entries.Entry.{Entry}
use Rattle.tp_record.specs.declared.entries.Took.TheVariants as took
use Rattle.tp_record.specs.declared.entries.Ask.TheVariants as ask
use Rattle.tp_record.specs.declared.entries.Did.TheVariants as did
use Rattle.tp_record.specs.declared.rows.SlotRow.{SlotRow}
use Rattle.tp_record.specs.declared.rows.Stage.{Stage}
use Rattle.tp_record.specs.declared.rows.Stage.TheVariants as stages
use Rattle.tp_record.specs.Fields.{is_idle_stage}
use Rattle.tp_record.specs.Left.{left}
use Rattle.tp_record.specs.State.{State, slot_at, task_at, state}
use Rattle.tp_record.specs.Step.{Answer, slot_count, timed_out, held_answer, next_of_queue, take_next, take_answer, of_row, since}
use Rattle.tp_slots.specs.Table.{first_slot}
use Rattle.tp_machine_state.specs.declared.parts.Parts.{Parts}
use Rattle.tp_machine_state.specs.Shows.{Shows}
use Rattle.tp_machine_state.specs.Steps.{IsFitting}
use Rattle.tp_machine_state.specs.Terms.{terms}
use Rattle.tp_machine.specs.Seen.{Seen, config_of}
use Rattle.tp_machine.specs.Readings.{EachState}

both : (a b : Bool) → (a && b) ≡ true → (a ≡ true) × (b ≡ true)
both true b e = (refl, e)
both false b e = absurd (false≢true e)

no_more : (a b : ℕ) → nat_le a b ≡ true → nat_lt b a ≡ false
no_more a b e = grind arith

off : (b : Bool) → not b ≡ true → b ≡ false
off true e = absurd (false≢true e)
off false e = refl

none_rank : (r : ℕ) → (r == 0) ≡ true → r ≡ 0
none_rank r e = grind arith

module _ (s : State) (v : SlotId) (kept : ((s.rank == 0 && nat_le (slot_count s) s.maximum) && (nat_le (slot_count s) s.core && not s.core_timeout)) ≡ true) where
  runs : s.rank ≡ 0
  runs = none_rank s.rank (both _ _ (both _ _ kept).0).0

  within : nat_lt s.maximum (slot_count s) ≡ false
  within = no_more _ _ (both _ _ (both _ _ kept).0).1

  core : nat_lt s.core (slot_count s) ≡ false
  core = no_more _ _ (both _ _ (both _ _ kept).1).0

  untimed : s.core_timeout ≡ false
  untimed = off _ (both _ _ (both _ _ kept).1).1

  never_late : (stage : Stage) → timed_out s stage ≡ false
  never_late stage = ap₂ (λ a b. (a || b) && nat_le s.keep (s.now - since s stage)) core untimed

  queue_keeps : (stage : Stage) (ts : List ℕ) → next_of_queue s v stage ts ≡ Ok (did.Take v took.Leave) → ⊥
  queue_keeps stage (t ∷ ts) e = cc
  queue_keeps stage [] e = idle (is_idle_stage stage) (sym (ap (λ b. cond b (Ok (did.Take v took.Leave)) (cond (is_idle_stage stage) (Err NotThere) (Ok (did.Take v took.Idle)))) (never_late stage)) ∙ e)
    where
      idle : (b : Bool) → cond {A = Answer} b (Err NotThere) (Ok (did.Take v took.Idle)) ≡ Ok (did.Take v took.Leave) → ⊥
      idle true e = cc
      idle false e = cc

  next_keeps : (stage : Stage) → take_next s v stage ≡ Ok (did.Take v took.Leave) → ⊥
  next_keeps stage e =
      let over : (nat_le 2 s.rank || (s.rank == 1 && length s.queue == 0)) ≡ false = ap (λ r. nat_le 2 r || (r == 1 && length s.queue == 0)) runs in
      let more : (nat_lt s.maximum (slot_count s) && (nat_lt 1 (slot_count s) || length s.queue == 0)) ≡ false = ap (λ b. b && (nat_lt 1 (slot_count s) || length s.queue == 0)) within in
      let next : take_next s v stage ≡ next_of_queue s v stage s.queue =
      ap₂ (λ a b. cond a (Ok (did.Take v took.Leave)) (cond b (Ok (did.Take v took.Leave)) (next_of_queue s v stage s.queue))) over more in
      queue_keeps stage s.queue (sym next ∙ e)

  held_keeps : (t : TaskId) (p : Place) → held_answer v t p ≡ Ok (did.Take v took.Leave) → ⊥
  held_keeps t at.Looking e = cc
  held_keeps t _ e = cc

  answer_keeps : (stage : Stage) (task : Option TaskId) → take_answer s v stage task ≡ Ok (did.Take v took.Leave) → ⊥
  answer_keeps stages.Working (Some t) e = held_keeps t (task_at s t.0).place e
  answer_keeps stages.Working None e = next_keeps stages.Working e
  answer_keeps (stages.Idle m) None e = next_keeps (stages.Idle m) e
  answer_keeps stages.ReservedCore None e = cc
  answer_keeps stages.ReservedMaximum None e = cc
  answer_keeps stages.ReservedBare None e = cc
  answer_keeps stages.Dying None e = cc
  answer_keeps _ (Some t) e = cc

  pub row_keeps : (o : Option SlotRow) → of_row o (λ r. take_answer s v r.stage r.task) ≡ Ok (did.Take v took.Leave) → ⊥
  row_keeps None e = cc
  row_keeps (Some r) e = answer_keeps r.stage r.task e

module _ {P R : Type 0} (tells : R → List Entry → List ℕ → Type 0) (p : Parts P) (noted : R) (m : Seen P R) (is : record { parts = p; noted = noted } ≡ m)
    (kept : (s : State) → Shows p s → ((s.rank == 0 && nat_le (slot_count s) s.maximum) && (nat_le (slot_count s) s.core && not s.core_timeout)) ≡ true) where
  pub none_leaves : EachState tells m (λ s. (v : SlotId) → first_slot s.idling ≡ Some v → IsFitting (config_of m) s (ask.Take v) (did.Take v took.Leave) → ⊥)
  none_leaves =
      subst (λ x. EachState tells x (λ s. (v : SlotId) → first_slot s.idling ≡ Some v → IsFitting (config_of x) s (ask.Take v) (did.Take v took.Leave) → ⊥)) is
      (λ h rs at v first leaves.
      let s = left rs (state (terms p) h) in
      row_keeps s v (kept s at.shows) (slot_at s.slots v.0) leaves.0)
