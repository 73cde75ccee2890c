-- An answer is laid into the caller's room.
use Rattle.std.specs.Prelude.{◌≡◌, ℕ, ◌≤◌, ◌<◌, List, ◌++◌, length, drop}
use Rattle.tp_c.specs.declared.statuses.Status.{Status}
use Rattle.tp_c.specs.declared.statuses.Status.TheVariants.{TooSmall}
use Rattle.tp_c.specs.Statuses.{status_number}

-- these bytes stand at the head of the room, and the rest of it is as it was; or the room is too small, and is as it was
pub record IsLaid (out : List ℕ) (status : Status) (old new : List ℕ) (needed result : ℕ) : Type 0 where
  pub needs : needed ≡ length out
  pub fits : length out ≤ length old → (new ≡ out ++ drop (length out) old) × (result ≡ status_number status)
  pub small : length old < length out → (new ≡ old) × (result ≡ status_number TooSmall)
