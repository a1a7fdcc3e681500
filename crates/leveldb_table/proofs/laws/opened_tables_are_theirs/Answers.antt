use Rattle.leveldb_table.proofs.TableReaderLemmas.{index_read, parts_there, opened_pass}
use Rattle.leveldb_table.proofs.laws.opened_tables_are_theirs.Goals as goal

pub returns : goal.returns
returns c = record {
  lines = λ codings cmp key bytes lines meta index filters parts metas other_meta other_index opens tabled. index_read tabled opens.indexed;
  index = λ codings cmp bytes lines meta index parts metas other_meta other_index indexed tabled. index_read tabled indexed;
  parts = λ codings accepts cmp meaning user bytes pairs table. (parts_there table, table.pairs_are);
  filters = λ codings accepts cmp meaning matches user name bytes pairs lines meta index filters opens table known. opened_pass table opens known;
}
