use Rattle.leveldb_version_set.proofs.Engines.ShownLemmas.{same_memory_shows, new_table_is_shown}
use Rattle.leveldb_version_set.proofs.laws.writing.tables_show_what_waited.Goals as goal

pub returns : goal.returns
returns g c = record {
  table = new_table_is_shown g.F.StoreFormat.cmp;
  same = same_memory_shows g.F.StoreFormat.cmp;
}
