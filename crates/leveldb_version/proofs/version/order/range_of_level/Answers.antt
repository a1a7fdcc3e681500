use Rattle.std.proofs.Common.{leb, ltb, rules, ℕ}
use Rattle.std.proofs.lemmas.List.Sorted.{IsPartitionPoint-from_clause, IsPartitionedBy-leb, IsPartitionedBy-ltb}
use Rattle.leveldb_base.specs.declared.types.FileMetaData.{FileMetaData}
use Rattle.leveldb_version.proofs.Versions.VersionLemmas.{level_between}
use Rattle.leveldb_version.proofs.version.order.range_of_level.Goals as goal

pub returns : goal.returns
returns c =
    let by_level : ℕ × FileMetaData → ℕ = λ file. file.0 in
    level_between c.args.level c.args.files.now _ _ c.partition_point-start.ensures.bound c.partition_point-end.ensures.bound
    (IsPartitionPoint-from_clause (λ f. ltb (by_level f) c.args.level) _ _ c.partition_point-start.ensures.partitioned
    (IsPartitionedBy-ltb by_level _ c.args.level c.requires) (λ a r q k. search rules))
    (IsPartitionPoint-from_clause (λ f. leb (by_level f) c.args.level) _ _ c.partition_point-end.ensures.partitioned
    (IsPartitionedBy-leb by_level _ c.args.level c.requires) (λ a r q k. search rules))
