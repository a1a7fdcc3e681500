use Rattle.std.proofs.Common.{◌≡◌, ◌∙◌, true, string_bytes, rules}
use Rattle.std.specs.BTreeSet.{contains_text}
use Rattle.leveldb_env.specs.Env.{lock_set}
use Rattle.leveldb_env.proofs.MemEnvLemmas.{locks_updated}
use Rattle.leveldb_env.proofs.mem_env.put_lock.Goals as goal

pub returns-clause-ok : goal.returns-clause-ok
returns-clause-ok c =
    let key = c.in_ok-from_str.field-0 in
    let named : string_bytes key ≡ c.args.name.now = search rules in
    locks_updated (string_bytes key) c.args.locks.now c.insert.new.self true c.in_ok-insert.ensures.updates
    ∙ (λ i. lock_set (named i) true (contains_text c.args.locks.now))
