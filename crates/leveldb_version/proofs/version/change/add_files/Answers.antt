use Rattle.std.proofs.Common.{◌∙◌, ap, sym}
use Rattle.leveldb_version.proofs.Versions.ChangeLemmas.{more_mapped}
use Rattle.leveldb_version.specs.Versions.Change.{version_files_with}
use Rattle.leveldb_version.specs.Edits.VersionEdit.{new_file_of}
use Rattle.leveldb_version.proofs.version.change.add_files.Goals as goal

pub loop-file-preserved : goal.loop-file-preserved
loop-file-preserved c =
    let one_more = more_mapped version_files_with new_file_of c.args.files.now.items c.args.added.now c.loop-file.file-index
    c.file-item.result c.loop-file-test.true c.file-item.is in
    record {
      files = c.in_ok-add_file.ensures.files
          ∙ (ap (λ files. version_files_with files (new_file_of c.file-item.result)) c.loop-file.invariant.files
          ∙ sym one_more);
      fit = λ old. c.in_ok-add_file.ensures.fit (c.loop-file.invariant.fit old);
    }
