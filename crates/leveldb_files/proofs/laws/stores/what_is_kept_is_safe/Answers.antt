use Rattle.leveldb_files.proofs.Stores.KeptLemmas.{kept_holds, kept_safe}
use Rattle.leveldb_files.proofs.Steps.FirstCurrentLemmas.{no_store_safe}
use Rattle.leveldb_files.proofs.laws.stores.what_is_kept_is_safe.Goals as goal

pub returns : goal.returns
returns g c = record {
  kept = λ store files contents kept bound history matches.
      kept_safe store g.F.StoreFormat.cmp g.F.StoreFormat.is_table g.F.StoreFormat.allowed bound history files contents kept matches;
  holds = λ store files contents kept bound history matches.
      kept_holds store g.F.StoreFormat.cmp g.F.StoreFormat.is_table g.F.StoreFormat.allowed bound history files contents kept matches;
  none = λ store files bare bound history matches.
      no_store_safe store g.F.StoreFormat.cmp g.F.StoreFormat.is_table files bare g.F.StoreFormat.allowed bound history matches;
}
