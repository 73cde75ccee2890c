-- How many tasks have each fate, counted entry by entry.
use Rattle.std.specs.Prelude.{ℕ, suc, ◌^◌, ◌-◌, Option, Some, None, nat_lt, if◌then◌else◌}
use Rattle.tp_types.specs.declared.tasks.Fate.{Fate}
use Rattle.tp_types.specs.declared.tasks.Fate.TheVariants as fate
use Rattle.tp_types.specs.declared.states.Counts.{Counts}
use Rattle.tp_record.specs.declared.entries.Did.{Did}
use Rattle.tp_record.specs.State.{State, row_at, fate_of}
use Rattle.tp_laws.proofs.Effects.Names.{names, drops}
use Rattle.tp_story_claims.specs.declared.fates.Fates.{Fates}
use Rattle.tp_story_claims.specs.declared.fates.Named.{Named}

-- the fate of a task, if there is one and it has a fate in this state
abbrev pub fate_at : State → Option ℕ → Option Fate
fate_at s None = None
fate_at s (Some t) = fate_of (row_at s.tasks t)

-- the fates of the tasks that an entry names
abbrev pub named_in : State → Did → Named
named_in s d = record { task = fate_at s (names d); head = fate_at s (drops d) }

-- the fate that a task has which had none
abbrev pub new_fate : Option Fate → Option Fate → Option Fate
new_fate None after = after
new_fate (Some f) after = None

-- a count with one more, up to the greatest of 64 bits
abbrev pub more : ℕ → ℕ
more n = if nat_lt n (2 ^ 64 - 1) then suc n else n

abbrev pub none : Fates
none = record { run = 0; caller = 0; rejected = 0; discarded = 0; handedback = 0; removed = 0; cancelled = 0 }

-- those of the counters
abbrev pub of : Counts → Fates
of c = record { run = c.run; caller = c.caller; rejected = c.rejected; discarded = c.discarded; handedback = c.handedback; removed = c.removed; cancelled = c.cancelled }

-- with one task more that has this fate
abbrev pub with_fate : Option Fate → Fates → Fates
with_fate None n = n
with_fate (Some fate.Run) n = record n { run = more n.run }
with_fate (Some fate.RunByCaller) n = record n { caller = more n.caller }
with_fate (Some fate.Rejected) n = record n { rejected = more n.rejected }
with_fate (Some fate.Discarded) n = record n { discarded = more n.discarded }
with_fate (Some fate.HandedBack) n = record n { handedback = more n.handedback }
with_fate (Some fate.Removed) n = record n { removed = more n.removed }
with_fate (Some fate.Cancelled) n = record n { cancelled = more n.cancelled }

-- after an entry by which the tasks that it names came from these fates to those
abbrev pub after : Named → Named → Fates → Fates
after b a n = with_fate (new_fate b.head a.head) (with_fate (new_fate b.task a.task) n)
