use Rattle.std.proofs.Common.{rules, arith}
use Rattle.std.specs.Prelude.{nat_le, nat_lt}
use Rattle.std.proofs.lemmas.List.Sorted.{IsPartitionPoint-from_clause}
use Rattle.std.proofs.lemmas.Bool.Decides.{nat_tests}
use Rattle.tp_ring.specs.Ranks.{key}
use Rattle.tp_ring.proofs.Cuts.{cut_behind}
use Rattle.tp_ring.proofs.Keyed.{keys_part}
use Rattle.tp_ring.proofs.bounds.first_at.Goals as goal

pub returns : goal.returns
returns g c =
    let k = key c.args.rank c.args.number in
    let at = IsPartitionPoint-from_clause (λ x. nat_lt (key x.rank x.number) k) c.args.items.now.items c.partition_point.result c.partition_point.ensures.partitioned
    (keys_part c.args.items.now.items c.requires.0 k c.requires.1) (λ a r f called. search rules) in
    cut_behind (λ x. nat_lt (key x.rank x.number) k) (λ x. nat_le k (key x.rank x.number)) (λ x. grind (arith, nat_tests)) c.args.items.now.items c.partition_point.result at.0 at.1
