-- Where a machine needs memory.
use Rattle.std.proofs.Common.{◌≡◌, ◌≢◌, ℕ, ◌<◌, ◌≤◌, length, arith, ap, subst}
use Rattle.std.proofs.lemmas.List.{length-map}
use Rattle.tp_types.specs.declared.ids.TaskId.{TaskId}
use Rattle.tp_types.specs.declared.refusals.PoolError.{PoolError}
use Rattle.tp_types.specs.declared.refusals.PoolError.TheVariants.{NoMemory}
use Rattle.tp_record.specs.declared.entries.Ask.{Ask}
use Rattle.tp_record.specs.declared.entries.Ask.TheVariants as ask
use Rattle.tp_record.specs.Left.{mark}
use Rattle.tp_record.specs.State.{State, state}
use Rattle.tp_record.specs.Step.{Refuses as StepRefuses}
use Rattle.tp_queue.specs.Queues.{waiting_of}
use Rattle.tp_machine_state.specs.declared.parts.Parts.{Parts}
use Rattle.tp_machine_state.specs.Shows.{Shows}
use Rattle.tp_machine_state.specs.Steps.{Stands, Refuses}
use Rattle.tp_machine_state.specs.Tied.{IsTied}
use Rattle.tp_machine_state.specs.Terms.{terms}
use Rattle.tp_machine.specs.Steps.{NeedsMemory}
use Rattle.tp_machine.proofs.Refusals.{never_wanted_marked}

positive : (n : ℕ) → ¬ (n ≡ 0) → 0 < n
positive n none = omega arith

pub fewer : (places n : ℕ) → ¬ (n ≤ places) → places < n
fewer places n short = omega arith

module _ {P : Type 0} (p : Parts P) where
  -- a stop needs some where a task is queued
  pub stop_needs : ¬ (length (waiting_of p.queue).items ≡ 0) → (s : State) → Shows p s → NeedsMemory s ask.Stop
  stop_needs some s shows =
      let queued = ap (λ xs. length xs) shows.seen.queued in
      let many = length-map (waiting_of p.queue).items (λ (x : TaskId × ℕ). x.0.0) in
      let least = positive (length (waiting_of p.queue).items) some in
      omega (arith, queued, many, least)

  -- a maximum needs some where there are fewer places
  pub maximum_needs : (n : ℕ) → IsTied (terms p) p.steps p → ¬ (n ≤ p.slots.places) → (s : State) → Shows p s → NeedsMemory s (ask.Maximum n)
  maximum_needs n tied short s shows =
      let size = shows.seen.maximum_size in
      let places = tied.places in
      let less = fewer p.slots.places n short in
      omega (arith, size, places, less)

  -- what a step refuses is not for want of memory
  pub refuses_other : Stands p → (a : Ask) (e : PoolError) → Refuses p a e → e ≢ NoMemory
  refuses_other stands a e refuses wants =
      never_wanted_marked (terms p) stands.history stands.released a
      (subst (StepRefuses (terms p) (mark stands.released (state (terms p) stands.history)) a) wants (refuses stands.history stands.released stands.legal stands.may stands.shows))
