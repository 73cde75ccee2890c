-- The text of the line that says which pool a scenario is about.
use Rattle.std.specs.Prelude.{ℕ, Bool, true, false, List, Option, Some, None, codes, IfSome, unwrap_or}
use Rattle.std.specs.Fmt.{decimal}
use Rattle.tp_types.specs.declared.configs.Config.{Config}
use Rattle.tp_types.specs.declared.configs.QueueKind.{QueueKind}
use Rattle.tp_types.specs.declared.configs.QueueKind.TheVariants.{Handoff, Unbounded, Bounded, Priority}
use Rattle.tp_types.specs.declared.configs.Policy.{Policy}
use Rattle.tp_types.specs.Policy.{policy_name}
use Rattle.tp_text.specs.declared.pools.PoolLine.{PoolLine}
use Rattle.tp_text.specs.Reads.{spaced, followed}
use Rattle.tp_text.specs.Fits.{Fits32, Fits64}

abbrev pub queue_text : QueueKind → List ℕ
queue_text Handoff = codes "handoff"
queue_text Unbounded = codes "unbounded"
queue_text (Bounded n) = spaced (codes "bounded") (decimal n)
queue_text Priority = codes "priority"

abbrev pub limit_text : ℕ → List ℕ
limit_text n = spaced (codes "limit") (decimal n)

-- whether core workers time out, and the record limit where one is said
abbrev pub Options : Type 0
Options = Bool × Option ℕ

abbrev pub options_text : Options → Option (List ℕ)
options_text (false, None) = None
options_text (true, None) = Some (codes "coretimeout")
options_text (false, Some n) = Some (limit_text n)
options_text (true, Some n) = Some (spaced (codes "coretimeout") (limit_text n))

abbrev pub policy_text : Policy × Options → List ℕ
policy_text p = followed (policy_name p.0) (options_text p.1)

abbrev pub keep_text : ℕ × (Policy × Options) → List ℕ
keep_text p = spaced (codes "keep") (spaced (decimal p.0) (policy_text p.1))

abbrev pub waiting_text : QueueKind × (ℕ × (Policy × Options)) → List ℕ
waiting_text p = spaced (queue_text p.0) (keep_text p.1)

abbrev pub Sizes : Type 0
Sizes = ℕ × (ℕ × (QueueKind × (ℕ × (Policy × Options))))

abbrev pub sizes_text : Sizes → List ℕ
sizes_text p = spaced (decimal p.0) (spaced (decimal p.1.0) (waiting_text p.1.1))

-- what a pool line says behind its first word
abbrev pub said : PoolLine → Sizes
said p = (p.core, (p.maximum, (p.queue, (p.keep, (p.policy, (p.core_timeout, p.limit))))))

-- the text of a pool line
abbrev pub pool_text : PoolLine → List ℕ
pool_text p = spaced (codes "pool") (sizes_text (said p))

abbrev pub FitsOptions : Options → Type 0
FitsOptions p = IfSome p.1 Fits32

abbrev pub FitsQueue : QueueKind → Type 0
FitsQueue Handoff = Unit {0}
FitsQueue Unbounded = Unit {0}
FitsQueue (Bounded n) = Fits32 n
FitsQueue Priority = Unit {0}

abbrev pub FitsSizes : Sizes → Type 0
FitsSizes p = Fits32 p.0 × Fits32 p.1.0 × FitsQueue p.1.1.0 × Fits64 p.1.1.1.0 × FitsOptions p.1.1.1.1.1

-- the numbers are in the range of their types
abbrev pub FitsPool : PoolLine → Type 0
FitsPool p = FitsSizes (said p)

-- the configuration that a pool line says: without a limit the record has 4,096 entries
abbrev pub config_of : PoolLine → Config
config_of p =
    record {
      core = p.core;
      maximum = p.maximum;
      queue = p.queue;
      keep = p.keep;
      core_timeout = p.core_timeout;
      policy = p.policy;
      record_limit = unwrap_or p.limit 4096;
    }
