use Rattle.leveldb_version.proofs.Tables.TableCacheLemmas.{matches_changed, matches_closed}
use Rattle.leveldb_version.proofs.laws.table_caches.open_tables_stay_matched.Goals as goal

pub returns : goal.returns
returns g c = record {
  changed = λ by cache old new kept was. matches_changed g.E.Env by cache kept was;
  closed = λ by files old new closes was. matches_closed g.E.Env by files closes was;
}
