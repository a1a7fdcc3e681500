use Rattle.leveldb_env.specs.Compressor.{Decodes}
use Rattle.leveldb_files.proofs.Levels.TablesLemmas.{one_store_table, tables_bounded}
use Rattle.leveldb_files.proofs.laws.stores.tables_are_bounded.Goals as goal

pub returns : goal.returns
returns c = record {
  list = λ codings cmp meaning decodes one.
      one_store_table (Decodes codings) cmp meaning decodes one;
  range = λ codings store cmp total meaning files table has.
      tables_bounded cmp total (Decodes codings) meaning store files table has;
}
