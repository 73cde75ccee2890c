use Rattle.std.proofs.Common.{rules}
use Rattle.std.specs.Prelude.{nat_le, nat_lt}
use Rattle.std.proofs.lemmas.List.Sorted.{IsPartitionPoint-from_clause}
use Rattle.std.proofs.lemmas.Bool.Decides.{nat_tests}
use Rattle.tp_ring.proofs.Cuts.{cut_before, cut_behind}
use Rattle.tp_ring.proofs.Keyed.{ranks_part}
use Rattle.tp_ring.proofs.bounds.behind_rank.Goals as goal
use Rattle.std.proofs.Common.{arith}

pub returns-clause-before : goal.returns-clause-before
returns-clause-before g c =
    let at = IsPartitionPoint-from_clause (λ x. nat_le x.rank c.args.rank) c.args.items.now.items c.partition_point.result c.partition_point.ensures.partitioned
    (ranks_part c.args.items.now.items c.requires.rises.0 c.args.rank c.requires.rises.1 c.requires.numbers) (λ a r f called. search rules) in
    cut_before (λ x. nat_le x.rank c.args.rank) c.args.items.now.items c.partition_point.result at.0 at.1

pub returns-clause-behind : goal.returns-clause-behind
returns-clause-behind g c =
    let at = IsPartitionPoint-from_clause (λ x. nat_le x.rank c.args.rank) c.args.items.now.items c.partition_point.result c.partition_point.ensures.partitioned
    (ranks_part c.args.items.now.items c.requires.rises.0 c.args.rank c.requires.rises.1 c.requires.numbers) (λ a r f called. search rules) in
    cut_behind (λ x. nat_le x.rank c.args.rank) (λ x. nat_lt c.args.rank x.rank) (λ x. grind (arith, nat_tests)) c.args.items.now.items c.partition_point.result at.0 at.1
