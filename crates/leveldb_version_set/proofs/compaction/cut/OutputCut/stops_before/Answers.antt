use Rattle.std.proofs.Common.{List, map, subst, ℕ, ◌+◌}
use Rattle.std.specs.declared.cmp.Ordering.{Ordering}
use Rattle.leveldb_files.specs.Levels.Summary.{files_of_level}
use Rattle.leveldb_version.specs.Versions.Version.{new_files_of}
use Rattle.leveldb_version_set.specs.Compactions.Cut.{PassesFiles}
use Rattle.leveldb_files.specs.Edits.Edit.{NewFile}
use Rattle.leveldb_version.specs.Edits.VersionEdit.{new_file_of}
use Rattle.leveldb_version_set.proofs.compaction.cut.OutputCut.stops_before.Goals as goal

pub returns : goal.returns
returns g c =
    let it = c.args.compaction.now in
    let Passes : (cmp : List ℕ → List ℕ → Ordering) → List NewFile → ℕ → Type 0 = λ cmp files size.
    PassesFiles cmp files size c.args.key.now c.args.self.now c.passes.result c.passes.new.self in
    subst (Passes (g.C.Cmp.cmp it.version.cmp) (files_of_level (it.level + 2) (new_files_of it.version))) c.max_file_size.ensures
    (subst (λ files. Passes (g.C.Cmp.cmp it.version.cmp) files c.max_file_size.result) c.files_two_down.ensures
    (subst (λ (u : g.row.C.Denot). Passes (g.C.Cmp.cmp u) (map new_file_of c.files_two_down.result.now) c.max_file_size.result) c.ucmp.ensures c.passes.ensures))
