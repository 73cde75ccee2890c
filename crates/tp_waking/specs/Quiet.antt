-- When no step concerns anybody.
use Rattle.std.specs.Prelude.{◌≡◌}
use Rattle.tp_waking.specs.Rests.{sleeping}
use Rattle.tp_waking.specs.declared.calls.TheConstants.{NO_WAITERS}
use Rattle.tp_waking.specs.declared.waking.Waking.{Waking}

-- no worker sleeps, and nobody waits
pub record IsQuiet (w : Waking) : Type 0 where
  pub asleep : sleeping w.sleepers ≡ 0
  pub awaited : w.awaited ≡ NO_WAITERS
