use Rattle.std.proofs.Common.{◌≡◌, List, arith, if◌then◌else◌, is_lt, subst, sym, ℕ}
use Rattle.std.specs.Borrow.{Bor}
use Rattle.std.proofs.lemmas.Grind.{common_steps}
use Rattle.std.proofs.lemmas.List.{take_all}
use Rattle.leveldb_base.specs.CmpLaws.{total_order}
use Rattle.leveldb_base.specs.KeyTypes.{internal_cmp}
use Rattle.leveldb_base.specs.declared.types.FileMetaData.{FileMetaData}
use Rattle.leveldb_version_set.proofs.Compactions.InputsLemmas.{AreKeyEndsSoFar, borrowed_more, in_borrowed, key_ends_at_last, key_ends_begin, key_ends_go_on}
use Rattle.leveldb_version.proofs.Versions.VersionLemmas.{internal_total}
use Rattle.leveldb_version.specs.Versions.Version.{borrowed_files}
use Rattle.leveldb_version.specs.Edits.VersionEdit.{new_file_of}
use Rattle.leveldb_version_set.proofs.compaction.inputs.ends_of.Goals as goal

pub loop-file-init : goal.loop-file-init
loop-file-init g c =
    key_ends_begin (internal_cmp (g.C.Cmp.cmp c.args.ucmp.now)) (borrowed_files c.args.files.now) (new_file_of c.index-files-0.result.now) c.deref-low.result.now c.deref-high.result.now
    (in_borrowed c.args.files.now 0 c.index-files-0.result (grind (arith, common_steps)) c.index-files-0.is)
    c.deref-low.ensures c.deref-high.ensures

pub returns-clause-ends : goal.returns-clause-ends
returns-clause-ends g c =
    let cmp = g.C.Cmp.cmp c.args.ucmp.now in
    let files = c.args.files.now in
    let low = c.loop-file.low.now in
    let high = c.loop-file.high.now in
    key_ends_at_last cmp (borrowed_files files) low high
    (subst (λ (seen : List (Bor (ℕ × FileMetaData))). AreKeyEndsSoFar (internal_cmp cmp) (borrowed_files files) (borrowed_files seen) low high) (take_all c.loop-file.file-index files c.loop-file-test.false) c.loop-file.invariant)

pub loop-file-preserved : goal.loop-file-preserved
loop-file-preserved g c =
    let cmp = g.C.Cmp.cmp c.args.ucmp.now in
    let icmp = internal_cmp cmp in
    let files = c.args.files.now in
    let file = new_file_of c.file-item.result.now in
    subst (λ seen. AreKeyEndsSoFar icmp (borrowed_files files) seen c.lesser-low.result.now c.greater-high.result.now)
    (sym (borrowed_more files c.loop-file.file-index c.file-item.result c.loop-file-test.true c.file-item.is))
    (key_ends_go_on icmp (internal_total (total_order (g.met.C.Cmp.preorder c.args.ucmp.now) (g.met.C.UserCmp.accepts_all c.args.ucmp.now))) (borrowed_files files)
    _ file _ _ _ _ c.loop-file.invariant (in_borrowed files c.loop-file.file-index c.file-item.result c.loop-file-test.true c.file-item.is)
    (subst (λ (key : List ℕ). c.lesser-low.result.now ≡ (if is_lt (icmp key c.loop-file.low.now) then key else c.loop-file.low.now)) c.deref.ensures c.lesser-low.ensures)
    (subst (λ (key : List ℕ). c.greater-high.result.now ≡ (if is_lt (icmp c.loop-file.high.now key) then key else c.loop-file.high.now)) c.deref-in-loop-file.ensures c.greater-high.ensures))
