use Rattle.std.proofs.Common.{◌≡◌, ◌<◌, ℕ, [], false, None, Ok}
use Rattle.std.specs.Prelude.{is_some}
use Rattle.leveldb_base.specs.contracts.cmp.internal.InternalKeyCmpCmp.TheImpl.{ghosts as key_order}
use Rattle.leveldb_env.specs.contracts.compressor.CompressorListCompressors.TheImpl.{ghosts as compressors}
use Rattle.leveldb_env.specs.contracts.filter.internal.InternalFilterPolicyFilterPolicy.TheImpl.{ghosts as key_policy}
use Rattle.leveldb_files.specs.Levels.Overlap.{is_overlapped, named_range}
use Rattle.leveldb_version.specs.Tables.TableCache.{table_options}
use Rattle.leveldb_store.specs.Tables.BuildTable.{choices_of}
use Rattle.leveldb_store.specs.Compactions.Compact.{FailsToCompactRange, KeepsCompacted}
use Rattle.leveldb_store.specs.Keeping.KeptEntries.{CompactsMemtables}
use Rattle.leveldb_store.specs.Writing.Removal.{EndsByRemoval}
use Rattle.leveldb_store.proofs.open_store.OpenStore.compact_range.Given as goal

-- what the compactions so far keep, that nothing is in memory, and which levels are clear
abbrev pub invariant-loop-level : goal.invariant-loop-level
invariant-loop-level g l =
    let keys = key_order g.row.C g.C.UserCmp g.C.UserCmp-dict g.C.Cmp g.C.Cmp-dict in
    let key_filters = key_policy g.row.FP g.FP.FilterPolicy g.FP.FilterPolicy-dict in
    let choices = choices_of g.C.Cmp g.FP.FilterPolicy keys key_filters (compressors g.dyn-2).codings l.options in
    let by = table_options choices.format l.options in
    record {
      keeps : KeepsCompacted keys g.E.Env by l.fn.self l.fn.env l.fn.tables l.smallest (FailsToCompactRange keys g.E.Env by l.fn.self l.fn.env l.fn.tables choices) (Ok tt) l.self l.env l.tables;
      tables_made : (l.self.mem.entries ≡ []) × (l.self.imm ≡ None);
      clear : (level : ℕ) → level < l.level → is_overlapped choices.format.order level (named_range l.from l.to) l.self.set.full.added ≡ false;
      entries : CompactsMemtables g.E.Env choices.format l.fn.self l.fn.env l.self l.env;
      removes : EndsByRemoval g.E.Env l.fn.env l.fn.self l.removal l.self l.env;
      log : is_some l.log ≡ is_some l.fn.log;
    }
