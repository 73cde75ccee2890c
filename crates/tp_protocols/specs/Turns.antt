-- What a worker does in a turn, in order.
use Rattle.std.specs.Prelude.{ℕ, ℤ, ◌≡◌, ⊤, List, [], ◌∷◌, Option, Some, None, Result}
use Rattle.tp_types.specs.declared.ids.TaskId.{TaskId}
use Rattle.tp_types.specs.declared.tasks.Promise.{Promise}
use Rattle.tp_protocols.specs.declared.gates.Point.TheVariants as point
use Rattle.tp_protocols.specs.declared.deeds.Deed.{Deed}
use Rattle.tp_protocols.specs.declared.deeds.Deed.TheVariants as deed
use Rattle.tp_protocols.specs.declared.deeds.Taken.TheVariants as taken
use Rattle.tp_protocols.specs.declared.deeds.EndAnswer.TheVariants as ended
use Rattle.tp_protocols.specs.declared.deeds.Departed.{Departed}
use Rattle.tp_protocols.specs.declared.deeds.Departed.TheVariants as departed
use Rattle.tp_protocols.specs.declared.turns.BeginAnswer.{BeginAnswer}
use Rattle.tp_protocols.specs.declared.turns.BeginAnswer.TheVariants as begun
use Rattle.tp_protocols.specs.declared.turns.Closing.{Closing}
use Rattle.tp_protocols.specs.declared.turns.Closing.TheVariants as closing
use Rattle.tp_protocols.specs.declared.turns.Turn.{Turn}
use Rattle.tp_protocols.specs.declared.turns.Turn.TheVariants as turn

abbrev pub Outcome : Type 0
Outcome = Result ℤ ℕ

-- a deed, with the job that it hands out or runs
abbrev pub Act : Type 0 → Type 0
Act J = Deed × Option J

-- a deed without a job
abbrev pub bare : {J : Type 0} → Deed → Act J
bare d = (d, None)

-- what a `begin` is told as
abbrev pub told : {J : Type 0} → BeginAnswer J → Act J
told (begun.Run t job) = (deed.Began t, Some job)
told (begun.Skip t) = bare (deed.Skipped t)
told begun.Refused = bare deed.Unbegun

-- who begins a job owes what the job promises
abbrev pub IsOwed : {J : Type 0} → (J → Promise) → (Promise → Type 0) → BeginAnswer J → Type 0
IsOwed promised owes (begun.Run t job) = owes (promised job)
IsOwed promised owes _ = ⊤

-- these acts lead from the one moment to the other, the first of them first
abbrev pub Does : {W A : Type 0} → (W → A → W → Type 0) → W → List A → W → Type 0
Does did old [] new = new ≡ old
Does {W = W} did old (a ∷ rest) new = (next : W) × did old a next × Does did next rest new

-- a worker that left has another made in its place, where a slot is reserved for one, and ends the pool where that can end
abbrev pub departure : {J : Type 0} → Departed → List (Act J)
departure departed.Alone = bare (deed.Left departed.Alone) ∷ bare deed.Tidied ∷ []
departure (departed.Replaced w) = bare (deed.Left (departed.Replaced w)) ∷ bare (deed.Replaced w) ∷ bare deed.Tidied ∷ []
departure departed.Refused = bare (deed.Left departed.Refused) ∷ []

abbrev pub closing_of : {J : Type 0} → Outcome → Closing → List (Act J)
closing_of o closing.Live = bare (deed.Ended o ended.Live) ∷ []
closing_of o (closing.Died d) = bare (deed.Ended o ended.Dying) ∷ departure d
closing_of o closing.Refused = bare (deed.Ended o ended.Refused) ∷ []

-- the acts of a turn once this task is begun, with its job
abbrev pub running : {J : Type 0} → TaskId → J → Outcome → Closing → List (Act J)
running t job o c = bare (deed.Before t) ∷ bare (deed.Passed point.Body) ∷ (deed.Ran o, Some job) ∷ bare (deed.After t (Some o)) ∷ bare (deed.Passed point.End) ∷ closing_of o c

-- a turn takes its worker from the one moment to the other; the job that it runs is the one that was handed out
abbrev pub IsTurn : {W J : Type 0} → (W → Act J → W → Type 0) → W → Turn → W → Type 0
IsTurn did old turn.Left new = Does did old (bare (deed.Passed point.Take) ∷ bare (deed.Took taken.Left) ∷ bare deed.Tidied ∷ []) new
IsTurn did old turn.Refused new = Does did old (bare (deed.Passed point.Take) ∷ bare (deed.Took taken.Refused) ∷ []) new
IsTurn did old turn.Unbegun new = Does did old (bare (deed.Passed point.Take) ∷ bare (deed.Took taken.Task) ∷ bare deed.Unbegun ∷ []) new
IsTurn did old (turn.Skipped t) new = Does did old (bare (deed.Passed point.Take) ∷ bare (deed.Took taken.Task) ∷ bare (deed.Skipped t) ∷ bare (deed.Before t) ∷ bare (deed.After t None) ∷ []) new
IsTurn {J = J} did old (turn.Ran t o c) new =
    (job : J) × Does did old (bare (deed.Passed point.Take) ∷ bare (deed.Took taken.Task) ∷ told (begun.Run t job) ∷ running t job o c) new

-- a worker makes one turn more where it skipped its task, or has ended it and did not die of it
abbrev pub GoesOn : Turn → Type 0
GoesOn (turn.Skipped t) = ⊤
GoesOn (turn.Ran t o closing.Live) = ⊤
GoesOn _ = ⊥
