use Rattle.std.proofs.Common.{length}
use Rattle.leveldb_base.specs.contracts.cmp.internal.InternalKeyCmpCmp.TheImpl.{ghosts as key_order}
use Rattle.leveldb_env.specs.contracts.compressor.CompressorListCompressors.TheImpl.{ghosts as compressors}
use Rattle.leveldb_files.specs.Stores.Format.{format_of}
use Rattle.leveldb_version.specs.Versions.Search.{files_left}
use Rattle.leveldb_version.specs.Tables.TableCache.{table_options}
use Rattle.leveldb_version.proofs.Versions.GetLemmas.{SearchedSoFar}
use Rattle.leveldb_version.proofs.version.Version.get.Given as goal

-- nothing is found in the tables that were looked in
abbrev pub invariant-loop-file : goal.invariant-loop-file
invariant-loop-file g l =
    let keys = key_order g.row.C g.C.UserCmp g.C.UserCmp-dict g.C.Cmp g.C.Cmp-dict in
    let by = table_options (format_of g.C.Cmp g.FP.FilterPolicy (compressors g.dyn-2).codings l.fn.options) l.fn.options in
    SearchedSoFar keys g.E.Env by l.fn.key l.fn.env l.fn.tables l.fn.self l.first l.stats.file (files_left l.files) l.env l.tables

-- how many files are left
abbrev pub decreases-loop-file : goal.decreases-loop-file
decreases-loop-file g l = length (files_left l.files)
