use Rattle.leveldb_files.proofs.Stores.OneStoreLemmas.{one_store}
use Rattle.leveldb_files.proofs.laws.stores.files_have_one_reading.Goals as goal

pub returns : goal.returns
returns g c = λ store one files these those a b.
    one_store store g.F.StoreFormat.cmp g.F.StoreFormat.is_table one files these those a b
