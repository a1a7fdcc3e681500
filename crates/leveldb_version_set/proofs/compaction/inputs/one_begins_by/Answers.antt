use Rattle.std.proofs.Common.{◌∙◌, sym}
use Rattle.leveldb_version_set.specs.Compactions.Contradictions.{begins_by}
use Rattle.leveldb_version.specs.Edits.VersionEdit.{new_file_of}
use Rattle.leveldb_files.proofs.Levels.OverlapLemmas.{any_mapped}
use Rattle.leveldb_version_set.proofs.compaction.inputs.one_begins_by.Goals as goal

pub returns-then-begins_by : goal.returns-then-begins_by
returns-then-begins_by g c =
    sym (any_mapped (begins_by (g.C.Cmp.cmp c.args.ucmp.now) c.args.key.now) new_file_of c.args.files.now
    c.loop-file.file-index c.file-item.result c.loop-file-test.true (sym c.file-item.is)
    (sym c.begins_by.ensures ∙ c.if-begins_by.true))
