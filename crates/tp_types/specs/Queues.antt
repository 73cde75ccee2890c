-- What the kinds of queues have in common.
use Rattle.std.specs.Prelude.{Bool, true, false}
use Rattle.tp_types.specs.declared.configs.QueueKind.{QueueKind}
use Rattle.tp_types.specs.declared.configs.QueueKind.TheVariants as kinds

-- its tasks leave by their priorities
abbrev pub is_ranked : QueueKind → Bool
is_ranked kinds.Priority = true
is_ranked _ = false

-- it always has room, once its places are reserved
abbrev pub is_open : QueueKind → Bool
is_open kinds.Unbounded = true
is_open kinds.Priority = true
is_open _ = false
