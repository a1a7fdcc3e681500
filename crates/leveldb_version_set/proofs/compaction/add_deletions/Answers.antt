use Rattle.std.proofs.Common.{List, map, subst, sym, take}
use Rattle.leveldb_version_set.specs.Compactions.Picking.{DeletesFiles}
use Rattle.leveldb_files.specs.Edits.Edit.{NewFile}
use Rattle.leveldb_version.specs.Edits.VersionEdit.{new_file_of}
use Rattle.leveldb_version_set.proofs.Compactions.CompactionCallLemmas.{one_more_deleted}
use Rattle.leveldb_version_set.proofs.Compactions.InputsLemmas.{mapped_more}
use Rattle.leveldb_version_set.proofs.compaction.add_deletions.Goals as goal

pub loop-file-preserved : goal.loop-file-preserved
loop-file-preserved c =
    subst (λ (files : List NewFile). DeletesFiles files c.args.deleted.now.keys c.insert.new.self.keys)
    (sym (mapped_more c.args.files.now c.loop-file.file-index c.file-item.result c.loop-file-test.true c.file-item.is))
    (one_more_deleted (map new_file_of (take c.loop-file.file-index c.args.files.now)) (new_file_of c.file-item.result) c.args.deleted.now.keys c.loop-file.deleted.keys c.insert.new.self.keys
    c.loop-file.invariant c.in_ok-insert.ensures.keys c.insert.ensures.ordered)
