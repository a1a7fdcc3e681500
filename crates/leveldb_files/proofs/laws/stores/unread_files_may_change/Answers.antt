use Rattle.leveldb_files.proofs.Steps.KeepsLemmas.{unread_keeps}
use Rattle.leveldb_files.proofs.Steps.ObsoleteLemmas.{unread_again}
use Rattle.leveldb_files.proofs.laws.stores.unread_files_may_change.Goals as goal

pub returns : goal.returns
returns g c = record {
  keeps = λ store. unread_keeps store g.F.StoreFormat.cmp g.F.StoreFormat.is_table g.F.StoreFormat.allowed;
  stays = λ store. unread_again store g.F.StoreFormat.cmp g.F.StoreFormat.is_table;
}
