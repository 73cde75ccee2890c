use Rattle.std.proofs.Common.{◌≡◌, ℕ, length}
use Rattle.tp_types.specs.declared.configs.Config.{Config}
use Rattle.tp_queue.specs.Queues.{waiting_of}
use Rattle.tp_laws.specs.View.{View}
use Rattle.tp_machine_state.specs.Payloads.{Keeps}
use Rattle.tp_machine_state.specs.Purges.{HoldsQueued}
use Rattle.tp_machine_state.specs.Shows.{Views}
use Rattle.tp_machine_state.specs.Tied.{IsTied}
use Rattle.tp_machine_state.proofs.Purging.{all_purged}
use Rattle.tp_machine_state.proofs.parts.Parts.purge.Given as goal

-- what is left to purge leads to the same end
abbrev pub invariant-loop-t : goal.invariant-loop-t
invariant-loop-t g l =
    record {
      views : (v : View) → Views l.fn.self v → HoldsQueued v → (w : View) × Views l.self w × HoldsQueued w × (all_purged w ≡ all_purged v);
      tied : (c : Config) (n : ℕ) → IsTied c n l.fn.self → IsTied c n l.self;
      rest : l.self ≡ record l.fn.self { tasks = l.self.tasks; queue = l.self.queue };
      payloads : Keeps l.fn.self.tasks l.self.tasks;
    }

abbrev pub decreases-loop-t : goal.decreases-loop-t
decreases-loop-t g l = length (waiting_of l.self.queue).items
