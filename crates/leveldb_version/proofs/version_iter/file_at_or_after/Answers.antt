use Rattle.std.proofs.Common.{rules}
use Rattle.std.proofs.lemmas.List.Sorted.{IsPartitionPoint-from_clause}
use Rattle.leveldb_version.specs.Walks.VersionIter.{ends_before_key}
use Rattle.leveldb_version.proofs.version_iter.file_at_or_after.Goals as goal

pub returns-clause-parts : goal.returns-clause-parts
returns-clause-parts g c = λ parted.
    IsPartitionPoint-from_clause (ends_before_key (g.C.Cmp.cmp c.args.cmp.now) c.args.key.now) c.args.files.now _ c.partition_point.ensures.partitioned parted (λ a r q k. search rules)
