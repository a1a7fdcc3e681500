use Rattle.std.proofs.Common.{◌≡◌, ◌≤◌, map, take}
use Rattle.std.specs.Prelude.{IsTrue, is_some, string_bytes}
use Rattle.leveldb_table.specs.TableBlock.{KeepsDisk}
use Rattle.leveldb_store.proofs.Keeping.DamageLemmas.{AreAmong}
use Rattle.leveldb_store.proofs.open_store.OpenStore.tell_damage.Given as goal

-- the names so far
abbrev pub invariant-loop-name : goal.invariant-loop-name
invariant-loop-name g l = record {
  found : IsTrue g.E.Env.models_disk → AreAmong g.E.Env l.self.set l.fn.env (take l.name-index (map string_bytes l.names)) (map string_bytes l.paths.items);
  keeps : KeepsDisk g.E.Env l.fn.env l.env;
  later : g.E.Env.failures l.fn.env ≤ g.E.Env.failures l.env;
  log : is_some l.log ≡ is_some l.fn.log;
}
