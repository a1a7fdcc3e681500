-- What is read of a store's files, whatever they are.
use Rattle.std.specs.Prelude.{ℕ, List, [], Option}
use Rattle.leveldb_base.specs.History.{Entry}

-- no store is there, or one whose files may name its comparator
pub data Store : Type 0 where
  missing : Store
  made : Option (List ℕ) → Store

-- the contents of a store: all its entries, and the greatest sequence that it knows of
pub record Contents : Type 0 where
  pub store : Store
  pub entries : List Entry
  pub last : ℕ

-- the contents where there is no store
abbrev pub no_contents : Contents
no_contents = record { store = missing; entries = []; last = 0 }
