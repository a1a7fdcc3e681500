use Rattle.std.proofs.Common.{◌≡◌, ◌↔◌, ◌∙◌, Bool, List, ap, map, subst, sym, true, ℕ}
use Rattle.leveldb_base.specs.declared.types.FileMetaData.{FileMetaData}
use Rattle.leveldb_version_set.proofs.Compactions.AmongLemmas.{among_tells}
use Rattle.leveldb_version_set.specs.Compactions.Contradictions.{IsAmongInputs, is_among_inputs}
use Rattle.leveldb_version_set.specs.Compactions.Picking.{CompactionValue}
use Rattle.leveldb_version.specs.Versions.Version.{new_files_of}
use Rattle.leveldb_version.specs.Edits.VersionEdit.{new_file_of}
use Rattle.leveldb_version_set.proofs.compaction.Compaction.is_among_inputs.Goals as goal

pub returns-clause-exact : goal.returns-clause-exact
returns-clause-exact g c =
    let cmp = g.C.Cmp.cmp c.self.inside.version.cmp in
    let files = new_files_of c.self.inside.inputs in
    let key = c.args.key.now in
    let test : c.is_among.result ≡ is_among_inputs cmp files key =
    c.is_among.ensures
    ∙ (ap (λ (u : g.row.C.Denot). is_among_inputs (g.C.Cmp.cmp u) (map new_file_of c.all_files.result.now) key) c.ucmp.ensures
    ∙ ap (λ (fs : List (ℕ × FileMetaData)). is_among_inputs cmp (map new_file_of fs) key) c.all_files.ensures) in
    subst (λ (v : CompactionValue g.row.C.Denot). (c.is_among.result ≡ true) ↔ IsAmongInputs (g.C.Cmp.cmp v.version.cmp) (new_files_of v.inputs) key) c.self.view_is
    (subst (λ (b : Bool). (b ≡ true) ↔ IsAmongInputs cmp files key) (sym test) (among_tells cmp files key))
