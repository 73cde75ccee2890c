-- What a contract sees of an auditor's work queue.
use Rattle.std.specs.Prelude.{ℕ, ◌≡◌, ◌/◌, ◌^◌, Bool, true, false, List, [], ◌∷◌}
use Rattle.tp_ring.specs.Line.{ids}
use Rattle.tp_audit.specs.declared.queue.QueueTable.{QueueTable}
use Rattle.tp_audit.specs.declared.queue.QueueTable.TheVariants.{InTurn, ByRank}

-- the tasks that wait, the head first
abbrev pub tasks_of : QueueTable → List ℕ
tasks_of (InTurn q) = q
tasks_of (ByRank q) = ids q

-- the queue goes by ranks
abbrev pub is_by_rank : QueueTable → Bool
is_by_rank (InTurn q) = false
is_by_rank (ByRank q) = true

-- each item's key has the rank of its task; a key is the rank times 2 ^ 64 and the place number
abbrev pub HaveRanks : (ℕ → ℕ) → List (ℕ × ℕ) → Type 0
HaveRanks rank [] = Unit {0}
HaveRanks rank (x ∷ xs) = (x.1 / 2 ^ 64 ≡ rank x.0) × HaveRanks rank xs

-- each task in a queue that goes by ranks stands under its rank
abbrev pub AreRanked : (ℕ → ℕ) → QueueTable → Type 0
AreRanked rank (InTurn q) = Unit {0}
AreRanked rank (ByRank q) = HaveRanks rank q

-- the queue keeps its kind, and the ranks of the tasks that stay
pub record Keeps (old new : QueueTable) : Type 0 where
  pub kind : is_by_rank new ≡ is_by_rank old
  pub ranks : (rank : ℕ → ℕ) → AreRanked rank old → AreRanked rank new
