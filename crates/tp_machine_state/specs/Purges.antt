-- The tasks of the queue, of which a purge takes out those that were cancelled.
use Rattle.std.specs.Prelude.{ℕ, ◌≡◌, ◌↔◌, true}
use Rattle.std.specs.List.{Contains}
use Rattle.tp_types.specs.declared.tasks.Place.TheVariants as at
use Rattle.tp_record.specs.Lists.{IsOnce}
use Rattle.tp_laws.specs.View.{View, is_held}

-- the tasks that wait in the queue, each once, are those whose place it is
pub record HoldsQueued (v : View) : Type 0 where
  pub known : (t : ℕ) → Contains v.queue t → is_held v t ≡ true
  pub once : IsOnce v.queue
  pub placed : (t : ℕ) → Contains v.queue t ↔ ((v.tasks t).place ≡ at.Queued)
