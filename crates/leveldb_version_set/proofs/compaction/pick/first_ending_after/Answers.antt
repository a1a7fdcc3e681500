use Rattle.std.proofs.Common.{◌≡◌, ◌∙◌, Bool, List, ap, sym, ℕ}
use Rattle.std.specs.Ordering.{is_gt}
use Rattle.leveldb_base.specs.KeyTypes.{internal_cmp}
use Rattle.leveldb_files.specs.Edits.Edit.{NewFile}
use Rattle.leveldb_version.specs.Edits.VersionEdit.{new_file_of}
use Rattle.leveldb_files.proofs.Levels.OverlapLemmas.{find_here, find_next}
use Rattle.leveldb_version_set.proofs.compaction.pick.first_ending_after.Goals as goal

pub returns-then-is_gt-clause-value : goal.returns-then-is_gt-clause-value
returns-then-is_gt-clause-value g c =
    let cmp = g.C.Cmp.cmp c.args.ucmp.now in
    let ends_after : NewFile → Bool = λ file. is_gt (internal_cmp cmp file.largest c.args.key.now) in
    let test : c.is_gt.result ≡ ends_after (new_file_of c.file-item.result) =
    c.is_gt.ensures ∙ (ap is_gt c.cmp_internal_key.ensures ∙ ap (λ (k : List ℕ). is_gt (internal_cmp cmp k c.args.key.now)) c.deref.ensures) in
    sym (find_here ends_after new_file_of c.args.files.now c.loop-file.file-index c.file-item.result c.loop-file-test.true (sym c.file-item.is) c.loop-file.invariant
    (sym test ∙ c.if-is_gt.true))

pub loop-file-preserved : goal.loop-file-preserved
loop-file-preserved g c =
    let cmp = g.C.Cmp.cmp c.args.ucmp.now in
    let ends_after : NewFile → Bool = λ file. is_gt (internal_cmp cmp file.largest c.args.key.now) in
    let test : c.is_gt.result ≡ ends_after (new_file_of c.file-item.result) =
    c.is_gt.ensures ∙ (ap is_gt c.cmp_internal_key.ensures ∙ ap (λ (k : List ℕ). is_gt (internal_cmp cmp k c.args.key.now)) c.deref.ensures) in
    find_next ends_after new_file_of c.args.files.now c.loop-file.file-index c.file-item.result c.loop-file-test.true (sym c.file-item.is) c.loop-file.invariant
    (sym test ∙ c.if-is_gt.false)
