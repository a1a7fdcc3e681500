use Rattle.std.proofs.Common.{◌≡◌, ◌-◌, ◌^◌}
use Rattle.leveldb_base.specs.contracts.cmp.internal.InternalKeyCmpCmp.TheImpl.{ghosts as key_cmp}
use Rattle.leveldb_env.specs.contracts.compressor.CompressorListCompressors.TheImpl.{ghosts as compressors}
use Rattle.leveldb_env.specs.contracts.filter.internal.InternalFilterPolicyFilterPolicy.TheImpl.{ghosts as key_policy}
use Rattle.leveldb_store.specs.Tables.BuildTable.{choices_of}
use Rattle.leveldb_store.specs.Compactions.Merging.{MovesLeaveFiles, merge_of}
use Rattle.leveldb_store.specs.Openings.Opening.{GivesNumbers, TakesBackNew}
use Rattle.leveldb_store.proofs.Compactions.CuttingLemmas.{CutSoFar}
use Rattle.leveldb_store.proofs.Compactions.MergeLoopLemmas.{MergesSoFar}
use Rattle.leveldb_store.proofs.merge_tables.merge_tables.Given as goal

-- the pairs that the walk has passed are merged
abbrev pub invariant-loop : goal.invariant-loop
invariant-loop g l =
    let choices = choices_of g.C.Cmp g.FP.FilterPolicy (key_cmp g.row.C g.C.UserCmp g.C.UserCmp-dict g.C.Cmp g.C.Cmp-dict) (key_policy g.row.FP g.FP.FilterPolicy g.FP.FilterPolicy-dict) (compressors g.dyn-2).codings l.plan.options.now in
    let merge = merge_of choices l.plan.store.now l.plan.smallest (g.L.MergeLevels.is_base l.plan.levels.now) (g.L.MergeLevels.is_among l.plan.levels.now) in
    record {
      numbers : GivesNumbers l.fn.versions.set l.versions.set;
      back : TakesBackNew l.fn.versions.set l.versions.set;
      version : l.versions.current ≡ l.fn.versions.current;
      so_far : MovesLeaveFiles g.E.Env g.W.Walk
          → MergesSoFar merge g.E.Env g.W.Walk l.fn.versions.set.next_file (l.fn.env, l.fn.tables) l.fn.walk l.versions.set.next_file (l.env, l.tables) l.walk l.merging.passing l.merging.outputs;
      cut_so_far : MovesLeaveFiles g.E.Env g.W.Walk
          → CutSoFar merge g.E.Env g.X.Cuts.stops_before l.plan.options.now.max_file_size l.fn.cut l.fn.versions.set.next_file g.W.Walk (l.fn.env, l.fn.tables) l.fn.walk
          l.versions.set.next_file (l.env, l.tables) l.walk l.merging.passing l.merging.outputs l.cut;
    }

abbrev pub decreases-loop : goal.decreases-loop
decreases-loop g l = 2 ^ 128 - l.counter
