-- What a thread sees that watches a pool.
use Rattle.std.specs.Prelude.{◌≡◌}
use Rattle.tp_types.specs.RunState.{state_rank}
use Rattle.tp_record.specs.State.{State, counts}
use Rattle.tp_pool_holds.specs.Watched.{AreBusy}
use Rattle.tp_pool.specs.declared.snapshots.Snapshot.{Snapshot}

-- all that is read is of this state
pub record IsSnapshot (s : State) (v : Snapshot) : Type 0 where
  pub state : state_rank v.state ≡ s.rank
  pub counts : v.counts ≡ counts s
  pub now : v.now ≡ s.now
  pub steps : v.steps ≡ s.steps
  pub busy : AreBusy s.slots v.busy.items
