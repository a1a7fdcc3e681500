use Rattle.std.proofs.Common.{◌≡◌, ◌∙◌, ◌++◌, ◌∷◌, List, [], ap, subst, sym, ℕ}
use Rattle.std.specs.Borrow.{Bor}
use Rattle.std.specs.Prelude.{Contains}
use Rattle.leveldb_base.specs.CmpLaws.{total_order}
use Rattle.leveldb_base.specs.KeyTypes.{user_part}
use Rattle.leveldb_base.specs.declared.types.FileMetaData.{FileMetaData}
use Rattle.leveldb_version_set.proofs.Compactions.InputsLemmas.{one_is_chosen}
use Rattle.leveldb_files.proofs.Levels.OverlapLemmas.{if_ok_more}
use Rattle.leveldb_version_set.proofs.Compactions.PickingLemmas.{file_in_level, own_is_input}
use Rattle.leveldb_version_set.specs.Compactions.Inputs.{AreChosen}
use Rattle.leveldb_files.specs.Levels.Overlap.{AreInputs}
use Rattle.leveldb_version.specs.Versions.DeeperLevels.{closed_range}
use Rattle.leveldb_files.specs.Levels.Summary.{files_of_level}
use Rattle.leveldb_version.specs.Versions.Version.{borrowed_files, new_files_of}
use Rattle.leveldb_version.specs.Edits.VersionEdit.{new_file_of}
use Rattle.leveldb_version_set.proofs.compaction.pick.chosen_with.Goals as goal

pub returns-then-file-eq0-clause-file : goal.returns-then-file-eq0-clause-file
returns-then-file-eq0-clause-file g c =
    let version = c.args.version.now in
    let cmp = g.C.Cmp.cmp version.cmp in
    let files = new_files_of version in
    let file = new_file_of c.args.file.now in
    let in_level = file_in_level c.args.file.now.0 version.files c.args.file.now c.requires.there in
    if_ok_more c.inputs_within.result c.inputs_within.ensures.inputs (λ chosen are ordered.
    own_is_input cmp (total_order (g.met.C.Cmp.preorder version.cmp) (g.met.C.UserCmp.accepts_all version.cmp)) 0 files (borrowed_files chosen.items) file
    (subst (λ (last : List ℕ). AreInputs cmp 0 (closed_range (user_part file.smallest) (user_part last)) files (borrowed_files chosen.items)) c.deref-then-file-eq0.ensures
    (subst (λ (first : List ℕ). AreInputs cmp 0 (closed_range (user_part first) (user_part c.deref-then-file-eq0.result.now)) files (borrowed_files chosen.items)) c.deref.ensures are))
    ordered in_level.0 (subst (λ (n : ℕ). Contains (files_of_level n files) file) c.if-file-eq0.true in_level.1))

pub returns-clause-chosen : goal.returns-clause-chosen
returns-clause-chosen g c =
    let version = c.args.version.now in
    let pushed : c.push.new.self.items ≡ c.args.file ∷ [] = c.in_ok-push.ensures.items ∙ ap (λ xs. xs ++ c.args.file ∷ []) c.new-chosen.ensures.items in
    subst (λ (chosen : List (Bor (ℕ × FileMetaData))). AreChosen (g.C.Cmp.cmp version.cmp) (new_files_of version) c.args.file.now.0 (borrowed_files chosen)) (sym pushed)
    (one_is_chosen (g.C.Cmp.cmp version.cmp) c.args.file.now.0 c.if-file-eq0.false version.files c.args.file c.requires.there)
