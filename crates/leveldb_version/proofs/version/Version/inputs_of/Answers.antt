use Rattle.std.proofs.Common.{◌≡◌, ◌∙◌, List, ap, map, subst, sym}
use Rattle.std.specs.List.{filter}
use Rattle.leveldb_files.specs.Levels.Overlap.{AreInputs, IsWidened, overlaps}
use Rattle.leveldb_files.specs.Levels.Summary.{files_of_level}
use Rattle.leveldb_version.specs.Versions.Version.{VersionValue, borrowed_files, new_files_of}
use Rattle.leveldb_files.specs.Edits.Edit.{NewFile}
use Rattle.leveldb_version.specs.Edits.VersionEdit.{new_file_of}
use Rattle.leveldb_files.proofs.Levels.OverlapLemmas.{if_ok_more, inputs_of_deeper, inputs_of_zero}
use Rattle.leveldb_version.proofs.Versions.VersionLemmas.{at_level_map}
use Rattle.leveldb_version.proofs.version.Version.inputs_of.Goals as goal
use Rattle.leveldb_version.proofs.version.Version.inputs_of.Goals.{then-level-eq0, else-level-eq0}

pub returns-clause-ok : goal.returns-clause-ok
returns-clause-ok g c =
    let cmp = g.C.Cmp.cmp c.self.inside.cmp in
    let all = new_files_of c.args.self.now in
    let range = c.if-level-eq0.range in
    let narrow = c.args.range in
    let same : map new_file_of c.files-files.result.now ≡ files_of_level c.args.level all =
    ap (map new_file_of) c.files-files.ensures.files ∙ at_level_map c.args.level c.args.self.now.files in
    if_ok_more c.files_in.result c.files_in.ensures.ok (λ inputs is.
    let are = is ∙ ap (filter (overlaps cmp range)) same in
    subst (λ (v : VersionValue g.row.C.Denot). AreInputs (g.C.Cmp.cmp v.cmp) c.args.level narrow all (borrowed_files inputs.items)) c.self.view_is
    (elim c.if-level-eq0.branch [
      | then-level-eq0 w ↦
          inputs_of_zero cmp c.args.level narrow range all (borrowed_files inputs.items) are w.if-level-eq0.true
          (subst (λ (files : List NewFile). IsWidened cmp files narrow range) same
          (subst (IsWidened cmp (map new_file_of c.files-files.result.now) narrow) (sym w.range-is) w.widen.ensures))
      | else-level-eq0 w ↦
          inputs_of_deeper cmp c.args.level narrow range all (borrowed_files inputs.items) are w.if-level-eq0.false w.range-is
    ]))
