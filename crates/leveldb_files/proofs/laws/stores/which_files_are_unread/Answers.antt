use Rattle.leveldb_files.proofs.Steps.UnreadLemmas.{manifest_unread, other_unread}
use Rattle.leveldb_files.proofs.Steps.ObsoleteLemmas.{missing_unread, obsolete_unread}
use Rattle.leveldb_files.proofs.laws.stores.which_files_are_unread.Goals as goal

pub returns : goal.returns
returns g c = record {
  others = λ store. other_unread store g.F.StoreFormat.cmp g.F.StoreFormat.is_table;
  manifests = λ store. manifest_unread store g.F.StoreFormat.cmp g.F.StoreFormat.is_table;
  missing = λ store files name n kind is no_current no_log gone has_current bound durable history
      safe.
      missing_unread store g.F.StoreFormat.cmp g.F.StoreFormat.is_table files name n kind is no_current no_log gone
      has_current g.F.StoreFormat.allowed bound durable history safe;
  obsolete = λ store. obsolete_unread store g.F.StoreFormat.cmp g.F.StoreFormat.is_table;
}
