-- What a step does to the payloads and the promises of the tasks.
use Rattle.std.specs.Prelude.{ℕ, ◌≡◌, ◌==◌, Option, Some, None, if◌then◌else◌}
use Rattle.tp_types.specs.declared.tasks.Promise.{Promise}
use Rattle.tp_tasks.specs.declared.tasks.Tasks.{Tasks}
use Rattle.tp_tasks.specs.Tasks.{payload_of, promise_of}

module _ {P : Type 0} where
  -- all stay
  pub record Keeps (old new : Tasks P) : Type 0 where
    pub payloads : (t : ℕ) → payload_of new t ≡ payload_of old t
    pub promises : (t : ℕ) → promise_of new t ≡ promise_of old t

  -- task t's payload is out, which was o, and all else stays
  pub record HandsOut (old new : Tasks P) (t : ℕ) (o : Option P) : Type 0 where
    pub was : payload_of old t ≡ o
    pub payloads : (u : ℕ) → payload_of new u ≡ (if u == t then None else payload_of old u)
    pub promises : (u : ℕ) → promise_of new u ≡ promise_of old u

  -- task t came with this promise and this payload, and all else stays
  pub record PutsIn (old new : Tasks P) (t : ℕ) (promise : Promise) (payload : P) : Type 0 where
    pub payloads : (u : ℕ) → payload_of new u ≡ (if u == t then Some payload else payload_of old u)
    pub promises : (u : ℕ) → promise_of new u ≡ (if u == t then Some promise else promise_of old u)
