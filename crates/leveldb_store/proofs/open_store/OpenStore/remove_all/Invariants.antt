use Rattle.std.proofs.Common.{◌≡◌, List, drop, map, take, ℕ}
use Rattle.std.specs.Prelude.{Contains, IsTrue, string_bytes}
use Rattle.leveldb_env.specs.Env.{in_folder}
use Rattle.leveldb_store.specs.Keeping.OpenTables.{ClosesObsolete}
use Rattle.leveldb_store.specs.Writing.Switch.{RemovesNames}
use Rattle.leveldb_store.proofs.open_store.OpenStore.remove_all.Given as goal

-- the names so far, and that the files of the others are as they were; and which tables are closed
abbrev pub invariant-loop-name : goal.invariant-loop-name
invariant-loop-name g l = record {
  removed : RemovesNames g.E.Env l.self.set l.self.kept_to l.fn.env (take l.name-index (map string_bytes l.names)) l.first l.env
      × (IsTrue g.E.Env.models_disk → (name : List ℕ) → Contains (drop l.name-index (map string_bytes l.names)) name
      → (g.E.Env.observed l.env).disk.files (in_folder l.self.set.store name) ≡ (g.E.Env.observed l.fn.env).disk.files (in_folder l.self.set.store name));
  closes : ClosesObsolete g.E.Env l.self.set l.fn.env l.fn.tables l.env l.tables;
}
