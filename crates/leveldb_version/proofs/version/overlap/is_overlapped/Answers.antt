use Rattle.std.proofs.Common.{◌∙◌, sym}
use Rattle.leveldb_files.specs.Levels.Overlap.{overlaps}
use Rattle.leveldb_version.specs.Edits.VersionEdit.{new_file_of}
use Rattle.leveldb_files.proofs.Levels.OverlapLemmas.{any_mapped}
use Rattle.leveldb_version.proofs.version.overlap.is_overlapped.Goals as goal

pub returns-then-overlaps : goal.returns-then-overlaps
returns-then-overlaps g c =
    sym (any_mapped (overlaps (g.C.Cmp.cmp c.args.ucmp.now) c.args.range.now) new_file_of c.args.files.now
    c.loop-file.file-index c.file-item.result c.loop-file-test.true (sym c.file-item.is)
    (sym c.overlaps.ensures ∙ c.if-overlaps.true))
