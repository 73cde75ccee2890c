-- The state that a pool's structures show.
use Rattle.std.specs.Prelude.{ℕ, ◌≡◌, ◌<◌, true, false, List, map, count_by, is_some, Some, None}
use Rattle.tp_types.specs.RunState.{state_rank}
use Rattle.tp_types.specs.declared.ids.TaskId.{TaskId}
use Rattle.tp_types.specs.declared.tasks.Fate.{Fate}
use Rattle.tp_types.specs.declared.tasks.Place.TheVariants as at
use Rattle.tp_record.specs.Lists.{is_among}
use Rattle.tp_record.specs.Fields.{is_live}
use Rattle.tp_record.specs.State.{State, due, slot_at, task_at}
use Rattle.tp_record.specs.Step.{is_known}
use Rattle.tp_queue.specs.Queues.{waiting_of}
use Rattle.tp_tasks.specs.Tasks.{row_of, done_of, fated_of, submissions}
use Rattle.tp_machine_state.specs.declared.parts.Parts.{Parts}
use Rattle.tp_laws.specs.View.{View, view, is_held}

-- the tasks that wait, by their numbers
abbrev pub numbers : List (TaskId × ℕ) → List ℕ
numbers xs = map (λ x. x.0.0) xs

module _ {P : Type 0} where
  -- the structures hold what is seen
  pub record Views (p : Parts P) (v : View) : Type 0 where
    pub rank : v.rank ≡ state_rank p.state
    pub core_size : v.core ≡ p.core
    pub maximum_size : v.maximum ≡ p.maximum
    pub keep_alive : v.keep ≡ p.keep
    pub times_out : v.core_timeout ≡ p.core_timeout
    pub present : v.now ≡ p.moment
    pub submitted : v.submitted ≡ submissions p.tasks
    pub rows : (t : ℕ) → is_held v t ≡ true → row_of p.tasks t ≡ Some (v.tasks t)
    pub unknown : (t : ℕ) → is_held v t ≡ false → row_of p.tasks t ≡ None
    -- only tasks that were submitted are left out, so a new one is not
    pub issued : (t : ℕ) → is_among t v.left_out ≡ true → t < v.submitted
    pub fates : (f : Fate) → v.fates f ≡ fated_of p.tasks f
    pub queued : v.queue ≡ numbers (waiting_of p.queue).items
    pub seats : (w : ℕ) → v.slots w ≡ slot_at p.slots.slots w
    pub order : v.idling ≡ p.slots.idling
    pub done : (g : ℕ) → v.done g ≡ done_of p.tasks g
    pub completed : v.completions ≡ p.completions
    pub most : v.largest ≡ p.largest

  -- they show the state: what is seen of it, how many entries it has, its counts of slots and what is owed
  pub record Shows (p : Parts P) (s : State) : Type 0 where
    pub entries : s.steps ≡ p.steps
    pub seen : Views p (view s)
    pub taken : count_by is_some s.slots ≡ count_by is_some p.slots.slots
    pub live : count_by is_live s.slots ≡ count_by is_live p.slots.slots
    pub owed : due s ≡ p.due

-- a task that is not known is gone
abbrev pub AreGone : State → Type 0
AreGone s = (t : ℕ) → is_known s t ≡ false → (task_at s t).place ≡ at.Gone

-- what the rules of steps read in the structures: a state that they show, of which a task that they do not know is gone
pub record Reads {P : Type 0} (p : Parts P) (s : State) : Type 0 where
  pub shows : Shows p s
  pub gone : AreGone s
