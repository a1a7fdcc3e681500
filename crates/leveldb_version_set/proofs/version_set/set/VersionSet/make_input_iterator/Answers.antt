use Rattle.std.proofs.Common.{◌≡◌, ◌∙◌, ap, subst}
use Rattle.leveldb_base.specs.contracts.cmp.internal.InternalKeyCmpCmp.TheImpl.{ghosts as key_order}
use Rattle.leveldb_version_set.specs.Sets.CurrentVersion.{VersionsValue}
use Rattle.leveldb_version_set.specs.Compactions.InputMerge.{MergesTablesOf}
use Rattle.leveldb_version.specs.contracts.version_iter.VersionIterWalkReadTables.TheImpl.{ghosts as tables_walk}
use Rattle.leveldb_version_set.proofs.version_set.set.VersionSet.make_input_iterator.Goals as goal

pub returns-clause-merges : goal.returns-clause-merges
returns-clause-merges g c =
    let walk = tables_walk g.row.E g.row.C g.row.FP g.row.K g.row.E-File g.E.Env g.E.Env-dict g.C.UserCmp g.C.UserCmp-dict g.C.Cmp g.C.Cmp-dict g.C.Clone g.C.Clone-dict
    g.FP.FilterPolicy g.FP.FilterPolicy-dict g.FP.Clone g.FP.Clone-dict g.K.ReadsTables g.K.ReadsTables-dict g.K.Compressors g.K.Compressors-dict g.E.File.Destruct-dict in
    let keys = key_order g.row.C g.C.UserCmp g.C.UserCmp-dict g.C.Cmp g.C.Cmp-dict in
    let same : c.ucmp.result.now ≡ c.args.self.now.current.cmp = c.ucmp.ensures ∙ ap (λ (v : VersionsValue g.row.C.Denot). v.current.cmp) c.self.view_is in
    subst (λ (u : g.row.C.Denot). MergesTablesOf walk keys u c.args.compaction.now.inputs c.new.result) same (record {
      walks = c.in_ok-walks.walks.items;
      over_tables = c.in_ok-walks.ensures.ok;
      is_at = c.new.ensures.is_at;
      none = c.new.ensures.none;
      fails = c.new.ensures.fails;
    })
