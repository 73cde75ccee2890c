-- A task of a pool as data, by which a proof tells tasks apart.
use Rattle.std.specs.Coded.{Coded, code_by}
use mathlib.Core.Path.{refl}
use Rattle.tp_pool_holds.specs.declared.tasks.Payload.{Payload}

abbrev pub task_code : {J : Type 0} → Coded J → Coded (Payload J)
task_code {J = J} j = code_by J j (λ k. k.job) (λ x. record { job = x }) (λ _. refl)
