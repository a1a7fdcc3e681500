use Rattle.leveldb_env.specs.Compressor.{Decodes}
use Rattle.leveldb_files.proofs.Stores.StoreTablesLemmas.{held_tables_by_more, store_tables_by_more}
use Rattle.leveldb_files.proofs.laws.stores.more_compressors_keep_tables.Goals as goal

pub returns : goal.returns
returns c = record {
  bytes = λ codings more. store_tables_by_more (Decodes codings) (Decodes more);
  files = λ codings more. held_tables_by_more (Decodes codings) (Decodes more);
}
