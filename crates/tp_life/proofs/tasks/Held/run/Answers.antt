use Rattle.std.proofs.Math.Logic.{∥∥₁_map}
use Rattle.tp_life.proofs.tasks.Held.run.Goals as goal

pub invariant_of-send : goal.invariant_of-send
invariant_of-send g c = record { given = ∥∥₁_map c.in-Ok.ensures (λ gives. (c.self.inside.task, gives)) }
