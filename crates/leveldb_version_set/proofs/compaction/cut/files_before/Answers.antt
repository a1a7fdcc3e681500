use Rattle.std.specs.Ordering.{is_gt}
use Rattle.leveldb_base.specs.KeyTypes.{internal_cmp}
use Rattle.leveldb_version_set.proofs.Compactions.CutLemmas.{counted_files, counted_within}
use Rattle.leveldb_version_set.proofs.compaction.cut.files_before.Goals as goal

pub slice_bounds-result-end : goal.slice_bounds-result-end
slice_bounds-result-end g c =
    counted_within (λ file. is_gt (internal_cmp (g.C.Cmp.cmp c.args.ucmp.now) c.args.key.now file.largest)) c.args.files.now
    c.count_before-count.result c.count_before-count.ensures

pub returns : goal.returns
returns g c =
    counted_files (λ file. is_gt (internal_cmp (g.C.Cmp.cmp c.args.ucmp.now) c.args.key.now file.largest)) c.args.files.now
    c.count_before-count.result c.count_before-count.ensures
