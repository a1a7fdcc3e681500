-- A store's table by some compressors is one by compressors that decode more.
use Rattle.leveldb_base.specs.Cmp.{internal_accepts}
use Rattle.leveldb_base.specs.KeyTypes.{internal_cmp, user_part}
use Rattle.leveldb_env.specs.Env.{bytes_of}
use Rattle.leveldb_table.proofs.TableMoreLemmas.{tables_by_more}
use Rattle.leveldb_files.specs.Stores.Store.{any_user_key}
use Rattle.leveldb_files.specs.Stores.StoreTables.{HeldTablesByMore, StoreTablesByMore}
use Rattle.std.proofs.Common.{List, ℕ}

pub store_tables_by_more : (Decodes More : ℕ → List ℕ → List ℕ → Type 0)
    → StoreTablesByMore Decodes More
store_tables_by_more Decodes More more cmp meaning bytes pairs table =
    tables_by_more Decodes More more (internal_accepts any_user_key) (internal_cmp cmp) meaning
    user_part bytes pairs table

pub held_tables_by_more : (Decodes More : ℕ → List ℕ → List ℕ → Type 0)
    → HeldTablesByMore Decodes More
held_tables_by_more Decodes More more store cmp meaning files table has = record {
  file = has.file;
  there = has.there;
  pairs = has.pairs;
  read = store_tables_by_more Decodes More more cmp meaning (bytes_of has.file) has.pairs has.read;
  each = has.each;
  size = has.size;
  smallest = has.smallest;
  largest = has.largest;
}
