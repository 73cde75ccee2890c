-- What an entry names, for the tables that it changes.
use Rattle.std.specs.Prelude.{ℕ, List, Option, Some, None, if◌then◌else◌}
use Rattle.tp_record.specs.declared.entries.Did.{Did}
use Rattle.tp_record.specs.Lists.{is_it, without}
use Rattle.tp_record.specs.Effects.{reserves}
use Rattle.tp_record.specs.State.{State, stays_idle}
use Rattle.tp_laws.proofs.Effects.Names.{seats}

-- the second number, unless it is the first
abbrev pub unless : Option ℕ → Option ℕ → Option ℕ
unless o None = None
unless o (Some x) = if is_it o x then None else Some x

-- the slot that an entry turns or frees, and does not reserve
abbrev pub turns : Did → Option ℕ
turns d = unless (reserves d) (seats d)

abbrev pub if_awake : Did → State → Option ℕ → Option ℕ
if_awake d s None = None
if_awake d s (Some w) = if stays_idle d s w then None else Some w

-- this slot, where the entry does not leave it idle
abbrev pub wakes : Did → State → Option ℕ
wakes d s = if_awake d s (turns d)

-- the list without the number
abbrev pub take_out : Option ℕ → List ℕ → List ℕ
take_out None xs = xs
take_out (Some x) xs = without x xs
