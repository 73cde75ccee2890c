-- The order of idling, in the words of the rules. It is made of the words of `tp_record`, and stands here beside its law: all
-- crates cite `tp_record`, and would be checked again for it.
use Rattle.std.specs.Prelude.{ℕ, Bool, ◌&&◌, List, [], ◌∷◌, filter, Option, Some, None, is_some}
use Rattle.tp_record.specs.declared.entries.Entry.{Entry}
use Rattle.tp_record.specs.declared.entries.Did.{Did}
use Rattle.tp_record.specs.declared.entries.Did.TheVariants as did
use Rattle.tp_record.specs.declared.entries.Took.TheVariants as took
use Rattle.tp_record.specs.Lists.{at_end}
use Rattle.tp_record.specs.Words.{idle_since, is_live_now}

-- the slot whose worker takes nothing
abbrev pub waits_from : Did → Option ℕ
waits_from (did.Take w took.Idle) = Some w.0
waits_from _ = None

-- the slots whose workers took nothing, in the order of the last such entry of each
abbrev pub waits_in_order : List Entry → List ℕ
waits_in_order [] = []
waits_in_order (e ∷ h) = at_end (waits_from e.did) (waits_in_order h)

-- a live slot whose worker is idle
abbrev pub is_idle_now : List Entry → ℕ → Bool
is_idle_now h w = is_live_now h w && is_some (idle_since h w)

-- the idle workers, the one that is idle longest first: to it a handoff gives the next task (`SynchronousQueue`)
abbrev pub idle_line : List Entry → List ℕ
idle_line h = filter (is_idle_now h) (waits_in_order h)
