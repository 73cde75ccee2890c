-- What the answers of calls say.
use Rattle.std.specs.Prelude.{Bool, true, false}
use Rattle.tp_pool_holds.specs.declared.answers.Removal.{Removal}
use Rattle.tp_pool_holds.specs.declared.answers.Removal.TheVariants as removal

-- the task was in the queue
abbrev pub is_removed : {J : Type 0} → Removal J → Bool
is_removed removal.No = false
is_removed (removal.Yes job) = true
