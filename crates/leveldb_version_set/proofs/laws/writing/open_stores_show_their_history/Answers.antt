use Rattle.leveldb_version_set.proofs.Engines.ShownLemmas.{written_is_shown}
use Rattle.leveldb_version_set.proofs.laws.writing.open_stores_show_their_history.Goals as goal

pub returns : goal.returns
returns g c = λ store. written_is_shown store g.F.StoreFormat.cmp g.F.StoreFormat.is_table
    g.F.StoreFormat.allowed
