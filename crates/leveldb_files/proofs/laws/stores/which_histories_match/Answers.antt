use Rattle.leveldb_files.proofs.Histories.HistoriesLemmas.{matches_nothing, matches_set, matches_with_empty, matches_without_empty}
use Rattle.leveldb_files.proofs.laws.stores.which_histories_match.Goals as goal

pub returns : goal.returns
returns g c = record {
  none = matches_nothing g.F.StoreFormat.allowed;
  empty = λ bound contents history. (
    matches_with_empty g.F.StoreFormat.allowed bound contents history,
    matches_without_empty g.F.StoreFormat.allowed bound contents history,
  );
  set = matches_set g.F.StoreFormat.allowed;
}
