use Rattle.std.proofs.Common.{ℕ, ◌≡◌, ◌<◌, ◌≤◌, [], length}
use Rattle.std.specs.Prelude.{slice_index_or}
use Rattle.tp_life.specs.Lived.{IsNewPass}
use Rattle.tp_life.proofs.lives.seats.Given as goal

abbrev pub invariant-loop-who : goal.invariant-loop-who
invariant-loop-who g l =
    (4 ≤ l.first.room) × (length l.seated.items ≡ l.who) × (l.who ≤ l.callers) × (l.first.front ≡ []) × (l.first.released ≡ [])
    × ((i : ℕ) (d : _) → i < length l.seated.items → ((slice_index_or l.seated.items i d).who ≡ i) × IsNewPass g.K.Recorder.RECEIPTS (slice_index_or l.seated.items i d).seat.pass)
