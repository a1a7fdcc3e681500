use Rattle.std.proofs.Common.{◌∙◌, arith, ap, sym}
use Rattle.std.specs.Ordering.{is_gt}
use Rattle.leveldb_base.specs.KeyTypes.{internal_cmp}
use Rattle.leveldb_version_set.proofs.Compactions.CutLemmas.{counted_on, counted_through, counted_to}
use Rattle.leveldb_version_set.proofs.compaction.cut.count_before.Goals as goal

pub returns-then-not-is_gt : goal.returns-then-not-is_gt
returns-then-not-is_gt g c =
    c.loop-file.invariant.count_is
    ∙ counted_to (λ file. is_gt (internal_cmp (g.C.Cmp.cmp c.args.ucmp.now) c.args.key.now file.largest)) c.args.files.now
    c.loop-file.file-index c.file-item.result c.loop-file-test.true (sym c.file-item.is)
    (sym (c.is_gt.ensures ∙ ap is_gt (c.cmp_internal_key.ensures ∙ ap (internal_cmp (g.C.Cmp.cmp c.args.ucmp.now) c.args.key.now) c.deref.ensures)) ∙ c.if-not-is_gt.true)
    c.loop-file.invariant.counted

pub loop-file-preserved : goal.loop-file-preserved
loop-file-preserved g c =
    let same = c.loop-file.invariant.count_is in
    record {
      count_is = omega (arith, same);
      counted = counted_on (λ file. is_gt (internal_cmp (g.C.Cmp.cmp c.args.ucmp.now) c.args.key.now file.largest)) c.args.files.now
          c.loop-file.file-index c.file-item.result c.loop-file-test.true (sym c.file-item.is)
          (sym (c.is_gt.ensures ∙ ap is_gt (c.cmp_internal_key.ensures ∙ ap (internal_cmp (g.C.Cmp.cmp c.args.ucmp.now) c.args.key.now) c.deref.ensures)) ∙ c.if-not-is_gt.false)
          c.loop-file.invariant.counted;
    }

pub returns : goal.returns
returns g c =
    c.loop-file.invariant.count_is
    ∙ counted_through (λ file. is_gt (internal_cmp (g.C.Cmp.cmp c.args.ucmp.now) c.args.key.now file.largest)) c.args.files.now
    c.loop-file.file-index c.loop-file-test.false c.loop-file.invariant.counted
