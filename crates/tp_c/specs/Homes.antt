-- What lies in the memory that a caller gives for a machine: the machine, or none yet or any more.
use Rattle.std.specs.Prelude.{ℕ, ◌≡◌, List, Option, Some, None}
use Rattle.tp_c.specs.declared.handles.Handle.{Handle}
use Rattle.tp_c.specs.declared.statuses.Status.{Status}
use Rattle.tp_c.specs.Statuses.{status_number}
use Rattle.tp_c.specs.Opening.{IsOpened, IsUnopened}

-- this holds of the machine there; or there is none, which the status says
abbrev pub OnMachine : Option Handle → (Handle → Type 0) → Type 0 → Type 0
OnMachine (Some h) F G = F h
OnMachine None F G = G

-- this holds of the machine there, before and after; or there is none, and none after
abbrev pub OnStep : Option Handle → Option Handle → (Handle → Handle → Type 0) → Type 0 → Type 0
OnStep (Some h) (Some k) F G = F h k
OnStep None None F G = G
OnStep _ _ F G = ⊥

-- a machine of this line is opened where none was, or it is refused and none is there; where one is it stays
abbrev pub OpensAt : Option Handle → Option Handle → List ℕ → ℕ → ℕ → Type 0
OpensAt None (Some h) line recorder status = IsOpened line recorder h × (status ≡ 0)
OpensAt None None line recorder status = (s : Status) × IsUnopened line recorder s × (status ≡ status_number s)
OpensAt (Some h) (Some k) line recorder status = (k ≡ h) × (status ≡ 34)
OpensAt (Some h) None line recorder status = ⊥
