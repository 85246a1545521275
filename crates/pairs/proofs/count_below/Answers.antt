-- `count_below` meets its contract: the ages don't fall, so they are parted at the bound.
use Prim.Native.Nat.{◌+◌}
use lib.Dec.{ltb}
use Rattle.std.proofs.Common.{rules}
use Rattle.std.proofs.lemmas.List.Sorted.{IsPartitionPoint-from_clause, IsPartitionedBy-ltb}
use Rattle.pairs.proofs.Ascents.{first_rise, below_parted}
use Rattle.pairs.proofs.count_below.Goals as goal

pub returns-clause-below : goal.returns-clause-below
returns-clause-below c = let a = c.args in
    let parted = IsPartitionedBy-ltb (λ age. age + a.by) _ a.bound (first_rise a.ages.now a.n a.by c.requires.0 c.requires.1) in
    below_parted a.ages.now a.n a.by c.requires.0 a.bound c.partition_point.result c.partition_point.ensures.bound
    (IsPartitionPoint-from_clause (λ age. ltb (age + a.by) a.bound) _ _ c.partition_point.ensures.partitioned parted (λ q r f k. search rules))
