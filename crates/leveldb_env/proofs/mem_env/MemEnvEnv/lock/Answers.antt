use Rattle.std.proofs.Common.{◌≡◌, ◌∙◌, false, ap, rules}
use Rattle.std.specs.BTreeSet.{contains_text}
use Rattle.leveldb_env.specs.Env.{lock_set}
use Rattle.leveldb_env.proofs.MemEnvLemmas.{lock_undone}
use Rattle.leveldb_env.proofs.mem_env.MemEnvEnv.lock.Goals as goal

pub returns-in-Err-clause-err : goal.returns-in-Err-clause-err
returns-in-Err-clause-err c =
    let name = c.args.name.now in
    let locked = contains_text c.args.self.now.locks in
    let free : locked name ≡ false = search rules in
    let freed : contains_text c.take_lock.new.locks ≡ locked =
    c.take_lock.ensures.freed ∙ ap (lock_set name false) c.in_ok-put_lock.ensures.ok ∙ lock_undone name locked free in
    λ i. record { files = c.in-Err.ensures.err i; locked = freed i }
