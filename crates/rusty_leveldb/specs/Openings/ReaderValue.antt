-- An engine that only reads, as clauses see it: what it has in memory of a store that is read
-- alone.
use Rattle.leveldb_store.specs.Keeping.OpenStore.{OpenStoreValue}

-- an engine that only reads, whose options and open tables have these types
pub record ReaderValue (C O T : Type 0) : Type 0 where
  -- what it was opened with
  pub options : O
  -- its store, to which nothing is written, and its open tables
  pub store : OpenStoreValue C
  pub tables : T
