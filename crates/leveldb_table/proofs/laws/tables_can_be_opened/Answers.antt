use Rattle.leveldb_table.proofs.TableReaderLemmas.{tables_indexed, opens_well}
use Rattle.leveldb_table.proofs.laws.tables_can_be_opened.Goals as goal

pub returns : goal.returns
returns c = record {
  index = λ codings cmp bytes parts metas meta index tabled. tables_indexed tabled;
  filters = λ codings accepts cmp meaning matches user name bytes pairs table known. opens_well table name matches known;
}
