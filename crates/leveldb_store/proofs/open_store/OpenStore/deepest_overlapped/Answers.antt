use Rattle.std.proofs.Common.{◌≡◌, ◌∙◌, ap, arith, sym}
use Rattle.leveldb_files.specs.Levels.Overlap.{is_overlapped, named_range}
use Rattle.leveldb_version.specs.Versions.Version.{VersionValue, new_files_of}
use Rattle.leveldb_store.proofs.Compactions.CompactLevelLemmas.{deepest_above, deepest_here, overlapped_current}
use Rattle.leveldb_store.proofs.Keeping.CurrentVersionLemmas.{current_by}
use Rattle.leveldb_store.proofs.open_store.OpenStore.deepest_overlapped.Goals as goal
use Rattle.leveldb_store.proofs.open_store.OpenStore.deepest_overlapped.Goals.{else-overlap_in_level, then-overlap_in_level}

pub loop-level-preserved : goal.loop-level-preserved
loop-level-preserved g c =
    let cmp = g.C.Cmp.cmp c.self.inside.cmp in
    let range = named_range c.args.from.now c.args.to.now in
    let level = c.loop-level.level in
    let current = current_by g.C.Cmp c.self.invariant.8 c.current-version.ensures.current in
    let files = c.self.inside.versions.set.full.added in
    let same = ap (λ (v : VersionValue g.row.C.Denot). is_overlapped (g.C.Cmp.cmp v.cmp) level range (new_files_of v)) c.current-version.ensures.version in
    let order = ap (λ by. is_overlapped (g.C.Cmp.cmp by) level range (new_files_of c.self.inside.versions.current)) current.cmp_is in
    let meets : c.overlap_in_level.result ≡ is_overlapped cmp level range files = c.overlap_in_level.ensures ∙ same ∙ order ∙ overlapped_current cmp range current level in
    let is = rw (← c.self.view_is) at c.loop-level.invariant.deepest in
    record {
      deepest = rw (← c.self.view_is) (elim c.if-overlap_in_level.branch [
        | then-overlap_in_level w ↦ w.deepest-is ∙ deepest_here cmp range files level c.loop-level.deepest c.loop-level.auto.level c.loop-level-test.true is (sym meets ∙ w.if-overlap_in_level.true)
        | else-overlap_in_level w ↦ w.deepest-is ∙ deepest_above cmp range files level c.loop-level.deepest c.loop-level.auto.level c.loop-level-test.true is (sym meets ∙ w.if-overlap_in_level.false)
      ]);
      known = elim c.if-overlap_in_level.branch [
        | then-overlap_in_level w ↦ omega arith
        | else-overlap_in_level w ↦ omega arith
      ];
    }
