use Rattle.leveldb_version.specs.Versions.Version.{after_seek}
use Rattle.leveldb_version.proofs.Versions.VersionLemmas.{mapped_in_place}
use Rattle.leveldb_version.proofs.version.seeks.take_seek_among.Goals as goal

pub loop-file-preserved : goal.loop-file-preserved
loop-file-preserved c =
    mapped_in_place (after_seek c.args.at) c.args.files.now c.loop-file.files c.loop-file.file-index c.file-item.result
    c.take_seek_if_named.new.file c.loop-file-test.true c.loop-file.invariant c.take_seek_if_named.ensures
