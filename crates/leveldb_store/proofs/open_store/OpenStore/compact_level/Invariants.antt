use Rattle.std.proofs.Common.{◌≡◌, Ok, length}
use Rattle.std.specs.Prelude.{is_some}
use Rattle.leveldb_base.specs.contracts.cmp.internal.InternalKeyCmpCmp.TheImpl.{ghosts as key_order}
use Rattle.leveldb_env.specs.contracts.compressor.CompressorListCompressors.TheImpl.{ghosts as compressors}
use Rattle.leveldb_env.specs.contracts.filter.internal.InternalFilterPolicyFilterPolicy.TheImpl.{ghosts as key_policy}
use Rattle.leveldb_files.specs.Levels.Summary.{files_of_level}
use Rattle.leveldb_version.specs.Tables.TableCache.{table_options}
use Rattle.leveldb_store.specs.Tables.BuildTable.{choices_of}
use Rattle.leveldb_store.specs.Compactions.Compact.{CompactsTables, KeepsLevelsAbove}
use Rattle.leveldb_store.specs.Keeping.KeptEntries.{CompactsInTurn}
use Rattle.leveldb_store.specs.Writing.Removal.{EndsByRemoval}
use Rattle.leveldb_store.proofs.open_store.OpenStore.compact_level.Given as goal

-- what the compactions so far keep
abbrev pub invariant-loop-removal : goal.invariant-loop-removal
invariant-loop-removal g l =
    let keys = key_order g.row.C g.C.UserCmp g.C.UserCmp-dict g.C.Cmp g.C.Cmp-dict in
    let key_filters = key_policy g.row.FP g.FP.FilterPolicy g.FP.FilterPolicy-dict in
    let choices = choices_of g.C.Cmp g.FP.FilterPolicy keys key_filters (compressors g.dyn-2).codings l.options in
    record {
      compacts : CompactsTables keys g.E.Env (table_options choices.format l.options) l.fn.self l.fn.env l.fn.tables choices l.smallest (Ok tt) l.self l.env l.tables;
      above : KeepsLevelsAbove l.level l.fn.self.set.full.added l.self.set.full.added;
      in_turn : CompactsInTurn g.E.Env (g.C.Cmp.cmp l.fn.self.cmp) l.fn.self l.fn.env l.self l.env;
      removes : EndsByRemoval g.E.Env l.fn.env l.fn.self l.removal l.self l.env;
      log : is_some l.log ≡ is_some l.fn.log;
    }

-- each of them leaves fewer files of the level
abbrev pub decreases-loop-removal : goal.decreases-loop-removal
decreases-loop-removal g l = length (files_of_level l.level l.self.set.full.added)
