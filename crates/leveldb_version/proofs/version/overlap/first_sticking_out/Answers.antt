use Rattle.std.proofs.Common.{◌≡◌, ◌∙◌, sym, true}
use Rattle.leveldb_files.specs.Levels.Overlap.{overlaps, sticks_out}
use Rattle.leveldb_version.specs.Edits.VersionEdit.{new_file_of}
use Rattle.leveldb_files.proofs.Levels.OverlapLemmas.{and_false_first, and_false_second, find_here, find_next, is_partly_in}
use Rattle.leveldb_version.proofs.version.overlap.first_sticking_out.Goals as goal
use Rattle.leveldb_version.proofs.version.overlap.first_sticking_out.Goals.{else-overlaps-via-then-overlaps+else-sticks_out, else-overlaps-via-else-overlaps}

pub returns-then-sticks_out : goal.returns-then-sticks_out
returns-then-sticks_out g c =
    let meets : overlaps (g.C.Cmp.cmp c.args.ucmp.now) c.args.range.now (new_file_of c.file-item.result) ≡ true = sym c.overlaps.ensures ∙ c.if-overlaps.true in
    let out : sticks_out (g.C.Cmp.cmp c.args.ucmp.now) c.args.range.now (new_file_of c.file-item.result) ≡ true = sym c.sticks_out.ensures ∙ c.if-sticks_out.true in
    sym (find_here (is_partly_in (g.C.Cmp.cmp c.args.ucmp.now) c.args.range.now) new_file_of c.args.files.now c.loop-file.file-index c.file-item.result c.loop-file-test.true (sym c.file-item.is)
    c.loop-file.invariant (cc))

pub loop-file-preserved : goal.loop-file-preserved
loop-file-preserved g c =
    find_next (is_partly_in (g.C.Cmp.cmp c.args.ucmp.now) c.args.range.now) new_file_of c.args.files.now c.loop-file.file-index c.file-item.result c.loop-file-test.true (sym c.file-item.is)
    c.loop-file.invariant
    (elim c.else-overlaps.branch [
      | else-overlaps-via-then-overlaps+else-sticks_out w ↦
          and_false_second (overlaps (g.C.Cmp.cmp c.args.ucmp.now) c.args.range.now (new_file_of c.file-item.result))
          (sticks_out (g.C.Cmp.cmp c.args.ucmp.now) c.args.range.now (new_file_of c.file-item.result)) (sym w.sticks_out.ensures ∙ w.if-sticks_out.false)
      | else-overlaps-via-else-overlaps w ↦
          and_false_first (overlaps (g.C.Cmp.cmp c.args.ucmp.now) c.args.range.now (new_file_of c.file-item.result))
          (sticks_out (g.C.Cmp.cmp c.args.ucmp.now) c.args.range.now (new_file_of c.file-item.result)) (sym c.overlaps.ensures ∙ w.if-overlaps.false)
    ])
