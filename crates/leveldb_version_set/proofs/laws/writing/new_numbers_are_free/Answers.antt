use Rattle.leveldb_version_set.proofs.Sets.TrackedLemmas.{live_is_below, next_is_free, numbered_up_to}
use Rattle.leveldb_version_set.proofs.laws.writing.new_numbers_are_free.Goals as goal

pub returns : goal.returns
returns g c = record {
  next = λ store. next_is_free store g.F.StoreFormat.cmp g.F.StoreFormat.is_table;
  live = λ store. live_is_below store g.F.StoreFormat.cmp g.F.StoreFormat.is_table;
  names = λ store. numbered_up_to store g.F.StoreFormat.cmp g.F.StoreFormat.is_table;
}
