use Rattle.std.proofs.Common.{◌≡◌, ℕ, List, true, false, sym, ◌∙◌, subst}
use Rattle.std.proofs.lemmas.List.{take_all}
use Rattle.std.proofs.lemmas.List.Elements.{All-map, All-more}
use Rattle.std.specs.List.{All}
use Rattle.leveldb_base.specs.declared.types.FileMetaData.{FileMetaData}
use Rattle.leveldb_files.specs.Edits.Edit.{NewFile}
use Rattle.leveldb_version.specs.Edits.VersionEdit.{new_file_of}
use Rattle.leveldb_files.specs.Edits.VersionSet.{IsKeyRange}
use Rattle.leveldb_files.proofs.Edits.VersionSetLemmas.{holds_of_element}
use Rattle.leveldb_version_set.proofs.version_set.check_key_ranges.Goals as goal

pub returns-then-not-has_key_range-clause-malformed : goal.returns-then-not-has_key_range-clause-malformed
returns-then-not-has_key_range-clause-malformed g c =
    let Ranges : NewFile → Type 0 = λ file. IsKeyRange (g.C.Cmp.cmp c.args.ucmp.now) file.smallest file.largest in
    let Keys : ℕ × FileMetaData → Type 0 = λ file. Ranges (new_file_of file) in (
      c.no_key_range.ensures,
      λ all.
          let its = holds_of_element Ranges new_file_of c.args.files.now c.loop-file.file-index c.loop-file-item.result c.loop-file-test.true all in
          let taken : c.has_key_range.result ≡ true = c.has_key_range.ensures.1 (subst Keys (sym c.loop-file-item.is) its) in
          let never : true ≡ false = sym taken ∙ c.if-not-has_key_range.true in
          absurd (cc),
    )

pub loop-file-preserved : goal.loop-file-preserved
loop-file-preserved g c =
    let Keys : ℕ × FileMetaData → Type 0 = λ file. IsKeyRange (g.C.Cmp.cmp c.args.ucmp.now) file.1.smallest file.1.largest in
    All-more Keys c.args.files.now c.loop-file.file-index c.loop-file-item.result c.loop-file-test.true c.loop-file.invariant
    (subst Keys c.loop-file-item.is (c.has_key_range.ensures.0 c.if-not-has_key_range.false))

pub returns-clause-ok : goal.returns-clause-ok
returns-clause-ok g c =
    let Ranges : NewFile → Type 0 = λ file. IsKeyRange (g.C.Cmp.cmp c.args.ucmp.now) file.smallest file.largest in
    let Keys : List (ℕ × FileMetaData) → Type 0 = All (λ file. Ranges (new_file_of file)) in
    All-map Ranges new_file_of c.args.files.now (subst Keys (take_all c.loop-file.file-index c.args.files.now c.loop-file-test.false) c.loop-file.invariant)
