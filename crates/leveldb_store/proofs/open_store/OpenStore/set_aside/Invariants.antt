use Rattle.std.proofs.Common.{map, take}
use Rattle.std.specs.Prelude.{Contains, string_bytes}
use Rattle.leveldb_store.specs.Keeping.SetAside.{SetsAside}
use Rattle.leveldb_store.proofs.open_store.OpenStore.set_aside.Given as goal

-- of the first ones those were set aside that could be
abbrev pub invariant-loop-path : goal.invariant-loop-path
invariant-loop-path g l = SetsAside g.E.Env (Contains (take l.path-index (map string_bytes l.paths))) l.fn.env l.first l.env
