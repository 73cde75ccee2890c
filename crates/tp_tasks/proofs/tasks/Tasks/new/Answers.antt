use Rattle.std.proofs.Common.{ap, arith}
use Rattle.std.specs.Prelude.{nat_eq}
use Rattle.std.specs.Map.{lookup}
use Rattle.tp_tasks.specs.Groups.{done_of_group, pending_of_group}
use Rattle.tp_tasks.proofs.Keeps.{submitted_none, counted_none, grouped_none, listed_none}
use Rattle.tp_tasks.proofs.tasks.Tasks.new.Goals as goal

pub invariant_of-result : goal.invariant_of-result
invariant_of-result g c =
    let m = c.none.result in
    let groups = c.new.result in
    record {
      small = omega arith;
      below = submitted_none groups m c.none.ensures.empty c.none.ensures.count;
      counted = counted_none groups m c.none.ensures.empty c.none.ensures.count c.none-2.result c.none-2.ensures;
      grouped = grouped_none groups m c.none.ensures.empty c.none.ensures.count (λ h. ap (λ es. pending_of_group (lookup (nat_eq h) es)) c.new.ensures.empty);
      listed = listed_none groups m c.none.ensures.empty c.none.ensures.count (λ h. ap (λ es. done_of_group (lookup (nat_eq h) es)) c.new.ensures.empty);
    }
