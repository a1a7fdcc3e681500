use Rattle.std.proofs.Common.{◌≡◌, map, take}
use Rattle.std.specs.List.{concat}
use Rattle.leveldb_base.specs.KeyTypes.{user_part}
use Rattle.leveldb_env.specs.Filter.{keys_at}
use Rattle.leveldb_env.proofs.FilterLemmas.{starts}
use Rattle.leveldb_env.proofs.filter.internal.user_keys.Given as goal

abbrev pub invariant-loop-i : goal.invariant-loop-i
invariant-loop-i l =
    let users = map user_part (take l.i (keys_at l.key_offsets l.keys))
    in (l.users.items ≡ concat users) × (l.offsets.items ≡ starts 0 users)
