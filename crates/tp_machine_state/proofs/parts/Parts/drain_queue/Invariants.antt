use Rattle.std.proofs.Common.{◌≡◌, ℕ, ◌+◌, ◌≤◌, ◌++◌, cond, None, length, vec_len, vec_capacity}
use Rattle.tp_types.specs.declared.configs.Config.{Config}
use Rattle.tp_queue.specs.Queues.{waiting_of}
use Rattle.tp_tasks.specs.Tasks.{payload_of, promise_of}
use Rattle.tp_laws.specs.View.{View}
use Rattle.tp_record.specs.Lists.{is_among}
use Rattle.tp_machine_state.specs.Drained.{CanDrain, handed_back, drained}
use Rattle.tp_machine_state.specs.Shows.{Views, numbers}
use Rattle.tp_machine_state.specs.Tied.{IsTied}
use Rattle.tp_machine_state.proofs.parts.Parts.drain_queue.Given as goal

-- what is left to hand back leads to the same end
abbrev pub invariant-loop-task : goal.invariant-loop-task
invariant-loop-task g l =
    record {
      known : CanDrain l.self;
      room : vec_len l.drained + length (waiting_of l.self.queue).items ≤ vec_capacity l.drained;
      handed : l.drained.items ++ handed_back l.self ≡ l.fn.drained.items ++ handed_back l.fn.self;
      views : (v : View) → Views l.fn.self v → (u : View) × Views l.self u × (drained u ≡ drained v);
      tied : (c : Config) (n : ℕ) → IsTied c n l.fn.self → IsTied c n l.self;
      rest : l.self ≡ record l.fn.self { tasks = l.self.tasks; queue = l.self.queue };
      payloads : (t : ℕ) → cond (is_among t (numbers (waiting_of l.self.queue).items)) None (payload_of l.self.tasks t)
          ≡ cond (is_among t (numbers (waiting_of l.fn.self.queue).items)) None (payload_of l.fn.self.tasks t);
      promises : (t : ℕ) → promise_of l.self.tasks t ≡ promise_of l.fn.self.tasks t;
    }

abbrev pub decreases-loop-task : goal.decreases-loop-task
decreases-loop-task g l = length (waiting_of l.self.queue).items
