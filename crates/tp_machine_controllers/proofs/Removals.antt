-- What a removal makes of a state, and what is known of the task that is removed.
use mir.Val.{bool_byte}
use Rattle.std.proofs.Common.{◌≡◌, ℕ, ◌*◌, Bool, true, false, Some, None, refl, sym, ap, ◌∙◌, subst, Contains}
use Rattle.tp_types.specs.declared.ids.TaskId.{TaskId}
use Rattle.tp_types.specs.declared.tasks.Place.TheVariants as at
use Rattle.tp_record.specs.declared.entries.Ask.TheVariants as ask
use Rattle.tp_record.specs.declared.entries.Did.TheVariants as did
use Rattle.tp_record.specs.declared.rows.TaskRow.{TaskRow}
use Rattle.tp_record.specs.Fields.{queue, is_queued_place}
use Rattle.tp_record.specs.State.{state, task_at}
use Rattle.tp_laws.proofs.Model.Queues.{among-queue, Contains-from_among}
use Rattle.tp_queue.specs.Queues.{waiting_of}
use Rattle.tp_tasks.specs.Tasks.{row_of}
use Rattle.tp_laws.proofs.Effects.Controllers.Remove.{remove, remove_absent}
use Rattle.tp_machine_state.specs.declared.parts.Parts.{Parts}
use Rattle.tp_machine_state.specs.Shows.{numbers}
use Rattle.tp_machine_state.specs.Steps.{Stands, Fits}
use Rattle.tp_machine_state.specs.Terms.{terms}
use Rattle.tp_machine_state.proofs.Answering.{Moves}
use Rattle.tp_machine_state.proofs.Standing.{given_here, task_here, open_here}

-- what is owed falls by a queued task's six
pub remove_moves : {P : Type 0} (p : Parts P) (t : TaskId) (queued : Bool) (n : ℕ) → n ≡ bool_byte queued → Moves p (6 * n) 0 (did.Remove t queued)
remove_moves p t queued n is = let Q : ℕ → Type 0 = λ k. Moves p (6 * k) 0 (did.Remove t queued) in subst Q (sym is) (by queued)
  where
    by : (b : Bool) → Moves p (6 * bool_byte b) 0 (did.Remove t b)
    by true = λ h rs legal sh given. (_, remove (terms p) h t legal given)
    by false = λ h rs legal sh given. (_, remove_absent (terms p) h t legal given)

module _ {P : Type 0} (p : Parts P) (stands : Stands p) (t : TaskId) (fits : Fits p (ask.Remove t) (did.Remove t true)) where
  -- it waits in the queue
  pub removed_waits : Contains (numbers (waiting_of p.queue).items) t.0
  removed_waits =
      let h = stands.history in
      let given = given_here p stands (ask.Remove t) (did.Remove t true) fits in
      let Q : _ → Type 0 = λ xs. Contains xs t.0 in
      subst Q stands.shows.seen.queued (Contains-from_among (queue (terms p) h) t.0 (among-queue (terms p) h t.0 ∙ ap is_queued_place given.1))

  -- and has no ending
  pub removed_row : (r : TaskRow) × (row_of p.tasks t.0 ≡ Some r) × (r.ending ≡ None)
  removed_row =
      let h = stands.history in
      let given = given_here p stands (ask.Remove t) (did.Remove t true) fits in
      (task_at (state (terms p) h) t.0, (task_here p stands t.0 at.Queued given refl).0, open_here p stands t.0 at.Queued given refl)
