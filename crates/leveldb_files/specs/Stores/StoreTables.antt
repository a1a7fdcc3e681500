-- Which tables of a store stay tables: statements that the contracts of module `laws::stores` name.
use Rattle.std.specs.Prelude.{ℕ, Bool, List, Option}
use Rattle.std.specs.declared.cmp.Ordering.{Ordering}
use Rattle.leveldb_base.specs.Types.{Pair}
use Rattle.leveldb_env.specs.Env.{Files}
use Rattle.leveldb_table.specs.TableLaws.{DecodesMore}
use Rattle.leveldb_files.specs.Levels.Levels.{LiveTable}
use Rattle.leveldb_files.specs.Stores.Store.{HasTable, IsStoreTable}

-- bytes that are a store's table by some compressors are one by compressors that decode more
abbrev pub StoreTablesByMore : (Decodes More : ℕ → List ℕ → List ℕ → Type 0) → Type 0
StoreTablesByMore Decodes More = DecodesMore Decodes More → (cmp : List ℕ → List ℕ → Ordering)
    (meaning : List ℕ → Option (List ℕ → List ℕ → Bool)) (bytes : List ℕ) (pairs : List Pair)
    → IsStoreTable Decodes cmp meaning bytes pairs → IsStoreTable More cmp meaning bytes pairs

-- so a table that the files have is there by those too
abbrev pub HeldTablesByMore : (Decodes More : ℕ → List ℕ → List ℕ → Type 0) → Type 0
HeldTablesByMore Decodes More = DecodesMore Decodes More → (store : List ℕ)
    (cmp : List ℕ → List ℕ → Ordering) (meaning : List ℕ → Option (List ℕ → List ℕ → Bool))
    (files : Files) (table : LiveTable)
    → HasTable store cmp (IsStoreTable Decodes cmp meaning) files table
    → HasTable store cmp (IsStoreTable More cmp meaning) files table
