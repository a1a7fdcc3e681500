use Rattle.std.proofs.Common.{◌∙◌}
use Rattle.leveldb_files.specs.Levels.Overlap.{file_range}
use Rattle.leveldb_version.specs.Edits.VersionEdit.{new_file_of}
use Rattle.leveldb_store.proofs.Keeping.CurrentVersionLemmas.{current_by, current_level}
use Rattle.leveldb_store.proofs.open_store.OpenStore.level_for.Goals as goal

pub returns-clause-level : goal.returns-clause-level
returns-clause-level g c =
    let cmp = c.self.inside.cmp in
    let versions = c.self.inside.versions in
    let is = current_by g.C.Cmp c.self.invariant.8 c.current.ensures.current in
    let range = file_range (new_file_of (c.pick_memtable_output_level.result, c.args.file.now)) in
    let picked = rw (c.current.ensures.version, is.cmp_is, c.split_sequence.ensures.user, c.split_sequence-2.ensures.user, c.deref.ensures, c.deref-2.ensures) at c.pick_memtable_output_level.ensures.level in
    rw (← c.self.view_is)
    (picked ∙ current_level (g.C.Cmp.cmp cmp) cmp versions.set versions.current range is)
