use Rattle.std.proofs.Common.{◌+◌, ◌<◌, arith, length, subst, sym, ℕ}
use Rattle.leveldb_version_set.proofs.Compactions.InputsLemmas.{borrowed_at, borrowed_length, counted_all, counted_on, counted_past}
use Rattle.leveldb_version_set.specs.Compactions.Inputs.{IsCountPast}
use Rattle.leveldb_version.specs.Versions.Version.{borrowed_files}
use Rattle.leveldb_version.specs.Edits.VersionEdit.{new_file_of}
use Rattle.leveldb_version_set.proofs.compaction.pick.count_past.Goals as goal

pub returns-then-file-left : goal.returns-then-file-left
returns-then-file-left c =
    let files = borrowed_files c.args.files.now in
    let file = new_file_of c.file-item.result.now in
    let long = borrowed_length c.args.files.now in
    let here = c.loop-file-test.true in
    let inside : c.loop-file.file-index < length files = omega (arith, long, here) in
    subst (λ (n : ℕ). IsCountPast c.args.limit files (n + 1)) (sym c.loop-file.invariant.count_is)
    (counted_past file c.loop-file.invariant.counted inside
    (borrowed_at c.args.files.now c.loop-file.file-index c.file-item.result here c.file-item.is) c.if-file-left.true)

pub loop-file-preserved : goal.loop-file-preserved
loop-file-preserved c =
    let files = borrowed_files c.args.files.now in
    let file = new_file_of c.file-item.result.now in
    let long = borrowed_length c.args.files.now in
    let here = c.loop-file-test.true in
    let same = c.loop-file.invariant.count_is in
    let inside : c.loop-file.file-index < length files = omega (arith, long, here) in
    record {
      count_is = omega (arith, same);
      counted = counted_on file c.loop-file.invariant.counted inside
          (borrowed_at c.args.files.now c.loop-file.file-index c.file-item.result here c.file-item.is) c.if-file-left.false;
    }

pub returns : goal.returns
returns c =
    let long = borrowed_length c.args.files.now in
    let out = c.loop-file-test.false in
    subst (IsCountPast c.args.limit (borrowed_files c.args.files.now)) (sym c.loop-file.invariant.count_is)
    (counted_all c.loop-file.invariant.counted (omega (arith, long, out)))
