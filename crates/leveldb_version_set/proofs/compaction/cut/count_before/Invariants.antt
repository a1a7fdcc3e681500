use Rattle.std.proofs.Common.{◌≡◌}
use Rattle.std.specs.Ordering.{is_gt}
use Rattle.leveldb_base.specs.KeyTypes.{internal_cmp}
use Rattle.leveldb_version_set.proofs.Compactions.CutLemmas.{AreCounted}
use Rattle.leveldb_version_set.proofs.compaction.cut.count_before.Given as goal

abbrev pub invariant-loop-file : goal.invariant-loop-file
invariant-loop-file g l = record {
  count_is : l.count ≡ l.file-index;
  counted : AreCounted (λ file. is_gt (internal_cmp (g.C.Cmp.cmp l.ucmp) l.key file.largest)) l.files l.file-index;
}
