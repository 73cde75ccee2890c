use Rattle.std.proofs.Common.{◌≡◌, ◌≤◌, length, take, vec_len, vec_capacity}
use Rattle.tp_machine.specs.Runs.{AllPromise}
use Rattle.tp_types.specs.declared.tasks.TheConstants.{WIDEST}
use Rattle.tp_machine.proofs.Running.{HasRun}
use Rattle.tp_machine.proofs.runs.run_asks.Given as goal

-- the asks so far have run on the machine, and there is a place for each answer
abbrev pub invariant-loop-by : goal.invariant-loop-by
invariant-loop-by l =
    record {
      run : HasRun l.fn.config (take l.by-index l.asks) l.answers.items l.machine;
      promises : AllPromise WIDEST l.machine;
      places : length l.asks ≤ vec_capacity l.answers;
      count : vec_len l.answers ≡ l.by-index;
    }
