use Rattle.leveldb_version.specs.Edits.VersionEdit.{new_file_of}
use Rattle.leveldb_version_set.proofs.Compactions.PickingLemmas.{of_file}
use Rattle.leveldb_version_set.proofs.compaction.pick.compaction_with.Goals as goal

pub returns-clause-ok : goal.returns-clause-ok
returns-clause-ok g c =
    rw c.in-Some.is
    (of_file (g.C.Cmp.cmp c.args.version.now.cmp) c.args.version.now c.args.max_file_size (new_file_of c.in-Some.file.now) c.in_ok-chosen.chosen.items
    c.compaction_of.result c.in_ok-chosen.ensures.file
    c.compaction_of.ensures.each c.compaction_of.ensures.level c.compaction_of.ensures.keeps c.compaction_of.ensures.none)
