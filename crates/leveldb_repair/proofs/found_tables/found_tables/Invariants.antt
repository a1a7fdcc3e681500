use Rattle.leveldb_base.specs.contracts.cmp.internal.InternalKeyCmpCmp.TheImpl.{ghosts as key_order}
use Rattle.leveldb_env.specs.contracts.compressor.CompressorListCompressors.TheImpl.{ghosts as compressors}
use Rattle.leveldb_repair.proofs.FoundTablesLemmas.{FindingTables}
use Rattle.leveldb_repair.proofs.found_tables.found_tables.Given as goal

-- the walks are over the readable tables among the first files
abbrev pub invariant-loop-file : goal.invariant-loop-file
invariant-loop-file g l =
    FindingTables (key_order g.row.C g.C.UserCmp g.C.UserCmp-dict g.C.Cmp g.C.Cmp-dict) g.E.Env g.C.Cmp
    (compressors g.dyn-1).codings l.fn.compressors l.fn.cmp l.fn.store l.files l.fn.env l.file-index l.tables.items l.env
