use Rattle.leveldb_version_set.specs.Sets.FilesInOrder.{ArePlaced, ordered_files}
use Rattle.leveldb_version_set.proofs.Sets.ReplayFileLemmas.{Replaying}
use Rattle.leveldb_version_set.proofs.version_set.replay.replay_records.Given as goal

-- the records that were read are applied
abbrev pub invariant-loop-count : goal.invariant-loop-count
invariant-loop-count g l =
    (replaying : Replaying g.S.Source.gives l.initial.source l.count l.left (ordered_files l.files) l.core l.source)
    × ArePlaced l.files
