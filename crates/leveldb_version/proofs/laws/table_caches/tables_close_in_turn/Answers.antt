use Rattle.leveldb_version.proofs.Tables.TableCacheLemmas.{AreSameOrGone-fewer, AreSameOrGone-refl, AreSameOrGone-trans, ClosesTables-refl, ClosesTables-trans}
use Rattle.leveldb_version.proofs.laws.table_caches.tables_close_in_turn.Goals as goal

pub returns : goal.returns
returns g c = record {
  none_closed = ClosesTables-refl;
  closed_in_turn = λ old mid new first second. ClosesTables-trans first second;
  none_changed = AreSameOrGone-refl;
  changed_in_turn = λ cache old mid new first second. AreSameOrGone-trans cache old mid new first second;
  fewer_open = λ old new before after closes kept. AreSameOrGone-fewer before after closes kept;
}
