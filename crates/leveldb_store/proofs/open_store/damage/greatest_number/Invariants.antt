use Rattle.std.proofs.Common.{map, take}
use Rattle.std.specs.Prelude.{string_bytes}
use Rattle.leveldb_store.proofs.Keeping.DamageLemmas.{MostOf}
use Rattle.leveldb_store.proofs.open_store.damage.greatest_number.Given as goal

-- it is the greatest so far
abbrev pub invariant-loop-name : goal.invariant-loop-name
invariant-loop-name l = MostOf (take l.name-index (map string_bytes l.names)) l.greatest
