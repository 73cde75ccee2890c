-- The lines other than entries: refusals, tasks that are handed back, and what stands at the end of a run.
use Rattle.std.specs.Prelude.{ℕ, zero, suc, List, [], ◌∷◌, ◌++◌, map, Option, Some, None, option_to_list, codes}
use Rattle.std.specs.Fmt.{decimal}
use Rattle.tp_types.specs.declared.refusals.PoolError.{PoolError}
use Rattle.tp_types.specs.declared.refusals.PoolError.TheVariants.{BadLine, BadEntry}
use Rattle.tp_types.specs.declared.states.Counts.{Counts}
use Rattle.tp_types.specs.declared.states.RunState.{RunState}
use Rattle.tp_types.specs.declared.states.RunState.TheVariants.{Running, Shutdown, Stop, Tidying, Terminated}
use Rattle.tp_types.specs.declared.tasks.Fate.{Fate}
use Rattle.tp_types.specs.Fate.{fate_name}
use Rattle.tp_types.specs.PoolError.{refusal_number, refusal_name}
use Rattle.tp_types.specs.RunState.{state_name}
use Rattle.tp_text.specs.EntryLine.{line}

-- the line that a refusal of a text speaks of
abbrev pub refused_place : PoolError → Option ℕ
refused_place (BadLine n) = Some n
refused_place (BadEntry n) = Some n
refused_place _ = None

abbrev pub refusal_line : PoolError → List ℕ
refusal_line e = line (codes "refused" ∷ decimal (refusal_number e) ∷ refusal_name e ∷ map decimal (option_to_list (refused_place e)))

-- the task of this number
abbrev pub task_text : ℕ → List ℕ
task_text t = codes "t" ++ decimal t

-- the tasks that were handed back, in their order
abbrev pub back_line : List ℕ → List ℕ
back_line ts = line (codes "back" ∷ map task_text ts)

abbrev pub fate_word : Option Fate → List ℕ
fate_word None = codes "open"
fate_word (Some f) = fate_name f

abbrev pub fate_line : ℕ → Option Fate → List ℕ
fate_line t f = line (task_text t ∷ fate_word f ∷ [])

abbrev pub state_line : RunState → List ℕ
state_line s = line (codes "state" ∷ state_name s ∷ [])

-- the run state of this rank
abbrev pub state_at : ℕ → RunState
state_at zero = Running
state_at (suc zero) = Shutdown
state_at (suc (suc zero)) = Stop
state_at (suc (suc (suc zero))) = Tidying
state_at (suc (suc (suc (suc n)))) = Terminated

-- a counter under its name
abbrev pub counter : List ℕ → ℕ → List ℕ
counter name n = name ++ (codes "=" ++ decimal n)

-- the submissions, and the tasks that ran
abbrev pub ran_counters : Counts → List (List ℕ)
ran_counters c = counter (codes "submitted") c.submitted ∷ counter (codes "run") c.run ∷ counter (codes "caller") c.caller ∷ []

-- the tasks that were taken away or cancelled
abbrev pub lost_counters : Counts → List (List ℕ)
lost_counters c =
    counter (codes "rejected") c.rejected
    ∷ counter (codes "discarded") c.discarded
    ∷ counter (codes "handedback") c.handedback
    ∷ counter (codes "removed") c.removed
    ∷ counter (codes "cancelled") c.cancelled
    ∷ []

-- what the workers do and did
abbrev pub worker_counters : Counts → List (List ℕ)
worker_counters c = counter (codes "completed") c.completed ∷ counter (codes "queued") c.queued ∷ counter (codes "live") c.live ∷ counter (codes "largest") c.largest ∷ []

-- all twelve counters
abbrev pub counts_line : Counts → List ℕ
counts_line c = line (codes "counts" ∷ (ran_counters c ++ (lost_counters c ++ worker_counters c)))
