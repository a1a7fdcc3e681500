use Rattle.std.proofs.Common.{◌≡◌, ◌++◌, map, string_bytes}
use Rattle.std.specs.BTreeMap.{keys}
use Rattle.leveldb_env.proofs.MemEnvLemmas.{children_in}
use Rattle.leveldb_env.proofs.mem_env.files.list_children.Given as goal

abbrev pub invariant-loop-name : goal.invariant-loop-name
invariant-loop-name l = map string_bytes l.children.items ++ children_in l.folder (map string_bytes l.name-iterator) ≡ children_in l.folder (map string_bytes (keys l.files))
