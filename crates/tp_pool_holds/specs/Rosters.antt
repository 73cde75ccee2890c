-- The threads that were made for a pool's slots.
use Rattle.std.specs.Prelude.{ℕ, ◌==◌, ◌+◌, List, get_or, set, if◌then◌else◌, Result, Ok}
use Rattle.tp_types.specs.declared.refusals.PoolError.{PoolError}
use Rattle.tp_record.specs.declared.entries.Opened.{Opened}
use Rattle.tp_record.specs.declared.entries.Opened.TheVariants as opened
use Rattle.tp_book.specs.PassView.{AccountView, GatheredView}
use Rattle.tp_pool_holds.specs.declared.roster.Seat.{Seat}
use Rattle.tp_pool_holds.specs.declared.roster.Start.{Start}
use Rattle.tp_pool_holds.specs.declared.roster.Start.TheVariants as start

-- the thread that was made last for each slot, by slot number; how many have not handed in their passes; and the passes that came back,
-- as one
pub record RosterView : Type 0 where
  pub seats : List Seat
  pub running : ℕ
  pub ended : GatheredView

-- the passes that came back, with this one
abbrev pub gathered_with : GatheredView → AccountView → GatheredView
gathered_with g p = record { passes = g.passes + 1; amount = g.amount + p.amount }

-- for a slot no thread was made: no pass has this number
abbrev pub nobody : Seat
nobody = record { pass = 4294967295; start = start.GivenUp }

-- the thread that was made last for slot w
abbrev pub seat_at : List Seat → ℕ → Seat
seat_at seats w = get_or seats w nobody

-- what the thread of slot w was told whose pass has this number: where another was made since, its slot was given up
abbrev pub told_at : List Seat → ℕ → ℕ → Start
told_at seats w pass = if (seat_at seats w).pass == pass then (seat_at seats w).start else start.GivenUp

-- the thread that was made last for slot w is told so
abbrev pub telling : ℕ → Start → RosterView → RosterView
telling w told r = record r { seats = set r.seats w (record (seat_at r.seats w) { start = told }) }

-- what the thread of a slot is told after its opening
abbrev pub start_after : Result Opened PoolError → Start
start_after (Ok opened.Live) = start.Live
start_after _ = start.GivenUp
