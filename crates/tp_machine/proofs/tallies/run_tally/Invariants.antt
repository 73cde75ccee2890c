use Rattle.std.proofs.Common.{◌≡◌, ◌≤◌, length, take, vec_len, vec_capacity}
use Rattle.tp_machine.specs.Runs.{AllPromise}
use Rattle.tp_record.specs.Terms.{without_end}
use Rattle.tp_types.specs.declared.tasks.TheConstants.{WIDEST}
use Rattle.tp_machine.proofs.Tallying.{counted_by, HasTallied}
use Rattle.tp_machine.proofs.tallies.run_tally.Given as goal

-- the asks so far were answered by the machine, and there is a place for each answer
abbrev pub invariant-loop-ask : goal.invariant-loop-ask
invariant-loop-ask l =
    record {
      run : HasTallied counted_by (without_end l.fn.config) (take l.ask-index l.asks) l.answers.items l.machine;
      promises : AllPromise WIDEST l.machine;
      places : length l.asks ≤ vec_capacity l.answers;
      count : vec_len l.answers ≡ l.ask-index;
    }
