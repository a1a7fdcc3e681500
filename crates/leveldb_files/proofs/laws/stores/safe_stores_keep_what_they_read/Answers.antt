use Rattle.leveldb_files.proofs.Steps.CurrentKeptLemmas.{current_kept}
use Rattle.leveldb_files.proofs.Steps.StaysLemmas.{tables_kept}
use Rattle.leveldb_files.proofs.laws.stores.safe_stores_keep_what_they_read.Goals as goal

pub returns : goal.returns
returns g c = record {
  tables = λ store files bytes bound durable history safe contents m.
      tables_kept store g.F.StoreFormat.cmp g.F.StoreFormat.is_table files bytes g.F.StoreFormat.allowed bound durable history contents
      safe m;
  current = λ store files bytes bound durable history safe.
      current_kept store g.F.StoreFormat.cmp g.F.StoreFormat.is_table files bytes g.F.StoreFormat.allowed bound durable history safe;
}
