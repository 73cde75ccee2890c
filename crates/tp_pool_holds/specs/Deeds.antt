-- What a worker's deeds are in its pool's book.
use Rattle.std.specs.Prelude.{ℕ, Bool, ◌≡◌, ⊤, List, Option, Some, None, Result, IfOk, OnErr}
use Rattle.tp_types.specs.declared.configs.Config.{Config}
use Rattle.tp_types.specs.declared.ids.SlotId.{SlotId}
use Rattle.tp_types.specs.declared.ids.TaskId.{TaskId}
use Rattle.tp_types.specs.declared.refusals.PoolError.{PoolError}
use Rattle.tp_record.specs.declared.entries.Ask.TheVariants as ask
use Rattle.tp_record.specs.declared.entries.Did.TheVariants as did
use Rattle.tp_record.specs.declared.entries.Entry.{Entry}
use Rattle.tp_record.specs.declared.entries.Took.{Took}
use Rattle.tp_record.specs.Effects.{Outcome}
use Rattle.tp_record.specs.State.{state}
use Rattle.tp_machine_state.specs.Payloads.{Keeps}
use Rattle.tp_machine_workers.specs.Begun.{Begins}
use Rattle.tp_machine.specs.declared.answers.Begun.{Begun as Started}
use Rattle.tp_machine.specs.Answers.{started_of, payload_begun}
use Rattle.tp_protocols.specs.declared.deeds.Deed.{Deed}
use Rattle.tp_protocols.specs.declared.deeds.Deed.TheVariants as deed
use Rattle.tp_protocols.specs.declared.deeds.Taken.{Taken}
use Rattle.tp_protocols.specs.declared.deeds.Taken.TheVariants as taken
use Rattle.tp_protocols.specs.Turns.{told}
use Rattle.tp_pool_holds.specs.Steps.{Asks, taking_of, begun_of, departed_of, IsEndOf}
use Rattle.tp_pool_holds.specs.declared.locked.workers.Taking.{Taking}
use Rattle.tp_pool_holds.specs.declared.locked.workers.Taking.TheVariants as taking
use Rattle.tp_pool_holds.specs.declared.tasks.Payload.{Payload}

-- what a `take` came to that ended a worker's wait
abbrev pub taken_as : Taken → Taking
taken_as taken.Task = taking.Task
taken_as taken.Left = taking.Left
taken_as taken.Refused = taking.Refused

-- the slot that is reserved for a worker in its place, after this deed
abbrev pub heir_after : Option SlotId → Deed → Option SlotId
heir_after heir (deed.Replaced v) = Some v
heir_after heir _ = heir

-- a worker whose pass has this number asks the pool, at a history that goes on from the one that it knows; then it knows the other one
module _ (J : Type 0) (keeps : Bool) (c : Config) (by : ℕ) (before : List Entry) where
  abbrev pub Takes : SlotId → List Entry → (Result Took PoolError → Type 0) → Type 0
  Takes w after F = Asks J keeps c by before (ask.Take w) (λ x. did.Take w x) (λ _. Keeps) after F

  abbrev pub BeginsAt : SlotId → List Entry → (Result (Started (Payload J)) PoolError → Type 0) → Type 0
  BeginsAt w after F = Asks J keeps c by before (ask.Begin w) (λ x. did.Begin w (started_of x)) (λ x old new. Begins old (started_of x) new (payload_begun x)) after F

  abbrev pub Ends : SlotId → Outcome → List Entry → (Result TaskId PoolError → Type 0) → Type 0
  Ends w o after F = Asks J keeps c by before (ask.End w o) (λ t. did.End w t o) (λ _. Keeps) after F

  abbrev pub Leaves : SlotId → List Entry → (Result (Option SlotId) PoolError → Type 0) → Type 0
  Leaves w after F = Asks J keeps c by before (ask.Leave w) (λ x. did.Leave w x) (λ _. Keeps) after F

  abbrev pub Tidies : List Entry → (Result (Unit {0}) PoolError → Type 0) → Type 0
  Tidies after F = Asks J keeps c by before ask.Tidy (λ _. did.Tidy) (λ _. Keeps) after F

  abbrev pub EndsLast : List Entry → Type 0
  EndsLast after = Asks J {A = Unit {0}} keeps c by before ask.Ended (λ _. did.Ended) (λ _. Keeps) after (λ _. ⊤)

-- it asks for the pool's end, and where that has begun it ends it
abbrev pub EndsPool : Type 0 → Bool → Config → ℕ → List Entry → List Entry → Type 0
EndsPool J keeps c by before after = (mid : List Entry) × Tidies J keeps c by before mid (λ r. IfOk r (λ _. EndsLast J keeps c by mid after) × OnErr r (after ≡ mid))

-- so it does where no worker is to be made in its place
abbrev pub Closes : Type 0 → Bool → Config → ℕ → List Entry → List Entry → Option SlotId → Type 0
Closes J keeps c by before after None = EndsPool J keeps c by before after
Closes J keeps c by before after (Some v) = ⊤

module _ (J : Type 0) (keeps : Bool) (c : Config) (w : SlotId) (by : ℕ) (before after : List Entry) (heir : Option SlotId) where
  -- a deed of the worker of slot w that is a step is answered as it says, with the job that it hands out; the others are no steps
  abbrev pub IsDone : Deed → Option J → Type 0
  IsDone (deed.Took t) _ = Takes J keeps c by before w after (λ r. taken_as t ≡ taking_of r)
  IsDone (deed.Began t) job = BeginsAt J keeps c by before w after (λ r. (deed.Began t, job) ≡ told (begun_of r))
  IsDone (deed.Skipped t) job = BeginsAt J keeps c by before w after (λ r. (deed.Skipped t, job) ≡ told (begun_of r))
  IsDone deed.Unbegun job = BeginsAt J keeps c by before w after (λ r. (deed.Unbegun, job) ≡ told (begun_of r))
  IsDone (deed.Ended o e) _ = Ends J keeps c by before w o after (IsEndOf (state c after) w.0 e)
  IsDone (deed.Left d) _ = Leaves J keeps c by before w after (λ r. d ≡ departed_of r)
  IsDone deed.Tidied _ = Closes J keeps c by before after heir
  IsDone _ _ = ⊤
